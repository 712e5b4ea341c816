-- The numbers of a reply and of an explanation, read back.
use Prim.Native.Nat.{ℕ, zero, suc}
use mathlib.Core.Path.{◌≡◌, refl}
use Rattle.model.specs.Reply.{left, right, both, input, equal, differs, refused}
use Rattle.comparer.specs.Explain as Explain
use Rattle.comparer.specs.Explain.{Explanation}
use Rattle.cabi.specs.Numbers.{NumbersRead, chosen_by, answer_numbers, explanation_of, ExplanationRead}

pub numbers_read : NumbersRead
numbers_read (equal n) = refl
numbers_read (differs a e) = refl
numbers_read (refused left k p) = refl
numbers_read (refused right k p) = refl
numbers_read (refused both k p) = refl
numbers_read (refused input k p) = refl

pub explanation-read : ExplanationRead
explanation-read x = back x.answer x
  where
    back : (y : Explain.Answer) (x : Explanation) → explanation_of (answer_numbers y x) ≡ record { answer = y; from = x.from; to = x.to; count = x.count; indices = x.indices }
    back (Explain.written a e) x = refl
    back (Explain.starting a e) x = refl
    back (Explain.refused left k p) x = refl
    back (Explain.refused right k p) x = refl
    back (Explain.refused both k p) x = refl
    back (Explain.refused input k p) x = refl

-- any number but 0 asks for the right
pub right_by : (n : ℕ) → (n ≡ 0 → ⊥) → Explain.right_side ≡ chosen_by n
right_by zero h = absurd (h refl)
right_by (suc n) h = refl
