-- The explanation of a difference (docs/FORMAT.md, "The explanation").
use Rattle.std.specs.Prelude.{ℕ, List, [], Bool, length, ℤ, pos}
use Rattle.std.proofs.Math.Option.{Option, none, some}
use Rattle.model.specs.Update.{Listed}
use Rattle.model.specs.Reply as model
use Rattle.model.specs.Reply.{Side, both}
use Rattle.reader.specs.Entries.{padded}
use Rattle.unroller.specs.Executed.{Origin, origin_of}
use Rattle.comparer.specs.Entry.{entry_reply, programs_reply, out_mask, left_in, right_in, input_by}

-- the side that a caller asks about
pub data Chosen : Type 0 where
  left_side right_side : Chosen

abbrev pub chosen : {A : Type 0} → Chosen → A → A → A
chosen left_side l r = l
chosen right_side l r = r

-- an update wrote the element, of which array and cell number are given; none did; side, question's number and place
pub data Answer : Type 0 where
  written : ℕ → ℕ → Answer
  starting : ℕ → ℕ → Answer
  refused : Side → ℕ → ℕ → Answer

-- The answer; the stretch of the chosen program's bytes; and the number of index values, which stand in eight places, zeros behind them.
pub record Explanation : Type 0 where
  pub answer : Answer
  pub from : ℕ
  pub to : ℕ
  pub count : ℕ
  pub indices : List ℤ

-- an empty stretch and no index values
abbrev pub plain : Answer → Explanation
plain x = record { answer = x; from = 0; to = 0; count = 0; indices = padded 8 (pos 0) [] }

-- of an element that differs, by its origin; "starting content" where there is none
abbrev pub explained : ℕ → ℕ → Option Origin → Explanation
explained a e none = plain (starting a e)
explained a e (some o) = record { answer = written a e; from = o.from; to = o.to; count = length o.values; indices = padded 8 (pos 0) o.values }

-- A refusal of the comparison stays as it is. Is there a difference to explain? 27
abbrev pub by_reply : (ℕ → ℕ → Option Origin) → model.Reply → Explanation
by_reply origin (model.equal n) = plain (refused both 27 0)
by_reply origin (model.differs a e) = explained a e (origin a e)
by_reply origin (model.refused s k p) = plain (refused s k p)

-- the explanation for a side, under a mask, where the lent memory is long enough or not
unfoldable pub explanation : Bool → ℕ → Chosen → List ℕ → List ℕ → Explanation
explanation long mask side l r = by_reply (origin_of (chosen side l r)) (entry_reply long (programs_reply mask l r))

-- the same of framed input, under a mask that the left's list may tell
unfoldable pub input_explanation_by : (Listed → ℕ) → Bool → Chosen → List ℕ → Explanation
input_explanation_by mask long side s = by_reply (origin_of (chosen side (left_in s) (right_in s))) (entry_reply long (input_by mask s))

-- under this mask, and of the difference that the plain entry finds
abbrev pub input_masked_explanation : Bool → ℕ → Chosen → List ℕ → Explanation
input_masked_explanation long mask = input_explanation_by (λ x. mask) long

abbrev pub input_explanation : Bool → Chosen → List ℕ → Explanation
input_explanation = input_explanation_by out_mask
