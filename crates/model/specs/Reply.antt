-- The three replies (docs/FORMAT.md, "The reply").
use Rattle.std.specs.Prelude.{ℕ, Bool, true, false}

-- the side that a refusal names
pub data Side : Type 0 where
  left right both input : Side

-- the number of elements compared; array and cell number; side, question's number and place
pub data Reply : Type 0 where
  equal : ℕ → Reply
  differs : ℕ → ℕ → Reply
  refused : Side → ℕ → ℕ → Reply

abbrev pub is_refused : Reply → Bool
is_refused (equal n) = false
is_refused (differs a e) = false
is_refused (refused s k p) = true
