-- The contract of the match: two lists that stand in their slices, with tables that agree, marks included, and cleared work memory.
use Rattle.std.specs.Prelude.{ℕ, ◌≤◌, ◌≡◌, List, true, length}
use Rattle.model.specs.Update.{Listed}
use Rattle.model.specs.Memory.{cell_words, term_words, cleared}
use Rattle.unroller.specs.Allowed.{allowed}
use Rattle.unroller.specs.Stands.{Stands}
use Rattle.comparer.specs.Match.{non_local, matched}
use Rattle.comparer.specs.Answers.{reply_says}
use Rattle.comparer.specs.declared.reply.Reply.{Reply}

unfoldable pub Matches : List ℕ → List ℕ → ℕ → List ℕ → List ℕ → Reply → Type 0
Matches left right mask cells terms reply =
    (l r : Listed) → Stands left l → Stands right r → allowed l ≡ true → allowed r ≡ true → non_local l.tables.arrays ≡ non_local r.tables.arrays
    → l.tables.operators ≡ r.tables.operators
    → cell_words ≤ length cells → term_words ≤ length terms → cells ≡ cleared cells → terms ≡ cleared terms → reply_says reply ≡ matched mask l r
