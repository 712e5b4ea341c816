-- What becomes of a program: its list in the lent slice, or a refusal; and the mask that its list gives.
use Rattle.std.specs.Prelude.{ℕ, ◌+◌, ◌*◌, ◌≤◌, ◌≡◌, List, ◌++◌, length, get_or, drop, replicate, Option, Some, None, Result, Ok, Err}
use Rattle.model.specs.Update.{Listed}
use Rattle.unroller.specs.Run.{ok, stop}
use Rattle.unroller.specs.Unroll.{unrolled}
use Rattle.comparer.specs.Entry.{out_mask}
use Rattle.comparer.specs.Asked.{Held}
use Rattle.model.specs.Questions.{number_of}
use Rattle.model.specs.declared.question.Refusal.{Refusal}

-- the mask of a comparison, as the left's list tells it
abbrev pub mask_by : Option ℕ → Listed → ℕ
mask_by (Some bits) = λ l. bits
mask_by None = out_mask

-- so the code finds it in the list's words
unfoldable pub Masks : Option ℕ → List ℕ → ℕ → Type 0
Masks m words bits = (l : Listed) → Held words l → bits ≡ mask_by m l

-- a program's list stands in the slice, or the program is refused
unfoldable pub Lays : List ℕ → List ℕ → Result (Unit {0}) Refusal → Type 0
Lays program words (Ok done) = (l : Listed) × (unrolled program ≡ ok l) × Held words l
Lays program words (Err refusal) = unrolled program ≡ stop (number_of refusal.question) refusal.place

-- A list as the unroller leaves it, laid out or empty: zeros stand behind a record that begins with 0, and behind the longest list.
pub record Ended (words : List ℕ) : Type 0 where
  pub long : 30818 ≤ length words
  pub behind : (i j : ℕ) → get_or words (98 + 3 * i) 0 ≡ 0 → 98 + 3 * i ≤ j → get_or words j 0 ≡ 0
  pub beyond : (j : ℕ) → 30818 ≤ j → get_or words j 0 ≡ 0

-- the first n words are zeros, the others as they were
abbrev pub emptied : ℕ → List ℕ → List ℕ
emptied n words = replicate n 0 ++ drop n words

-- n words more of a list whose first `from` are zeros
abbrev pub Empties : ℕ → ℕ → List ℕ → List ℕ → Type 0
Empties from n before after = (words : List ℕ) → from ≤ length words → before ≡ emptied from words → after ≡ emptied (from + n) words
