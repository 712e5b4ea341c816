-- The contracts of the parts of an entry: 22 to 24 of two lists that stand in their slices.
use Rattle.std.specs.Prelude.{ℕ, ◌≤◌, ◌≡◌, List, true, length}
use Rattle.model.specs.Update.{Listed}
use Rattle.model.specs.Memory.{cell_words, term_words}
use Rattle.unroller.specs.Allowed.{allowed}
use Rattle.unroller.specs.Stands.{Stands}
use Rattle.comparer.specs.Match.{lists_reply}
use Rattle.comparer.specs.Answers.{reply_says}
use Rattle.comparer.specs.declared.reply.Reply.{Reply}

-- an allowed list stands in its slice
pub record Held (words : List ℕ) (l : Listed) : Type 0 where
  pub stands : Stands words l
  pub allows : allowed l ≡ true

-- work memory, whatever it holds
pub record Room (cells terms : List ℕ) : Type 0 where
  pub for_cells : cell_words ≤ length cells
  pub for_terms : term_words ≤ length terms

unfoldable pub Asked : List ℕ → List ℕ → ℕ → List ℕ → List ℕ → Reply → Type 0
Asked left right mask cells terms reply = (l r : Listed) → Held left l → Held right r → Room cells terms → reply_says reply ≡ lists_reply mask l r
