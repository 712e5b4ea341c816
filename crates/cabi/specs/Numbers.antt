-- A reply as four numbers, and an explanation as nine with eight index values: what crosses the boundary to other languages. The kind of a
-- reply is the exit status of `tengmua`.
use Rattle.std.specs.Prelude.{ℕ, zero, suc, ◌≡◌}
use Rattle.model.specs.Reply.{Side, left, right, both, input, Reply, equal, differs, refused}
use Rattle.unroller.specs.Unroll as Unroll
use Rattle.writer.specs.Write as Write
use Rattle.comparer.specs.Explain as Explain
use Rattle.comparer.specs.Explain.{Explanation}
use Rattle.cabi.specs.declared.Numbers.{Numbers}
use Rattle.cabi.specs.declared.ExplanationNumbers.{ExplanationNumbers}

abbrev pub side_number : Side → ℕ
side_number left = 0
side_number right = 1
side_number both = 2
side_number input = 3

-- number of elements compared; array and cell number; side, question's number and place
abbrev pub numbers_of : Reply → Numbers
numbers_of (equal n) = record { kind = 0; first = n; second = 0; third = 0 }
numbers_of (differs a e) = record { kind = 1; first = a; second = e; third = 0 }
numbers_of (refused s k p) = record { kind = 2; first = side_number s; second = k; third = p }

-- a list's number of updates takes the place of the number compared
abbrev pub unrolled_numbers : Unroll.Unrolled → Numbers
unrolled_numbers (Unroll.updates n) = numbers_of (equal n)
unrolled_numbers (Unroll.refused s k p) = numbers_of (refused s k p)

-- an accepted list has no number
abbrev pub checked_numbers : Unroll.Checked → Numbers
checked_numbers Unroll.accepts = numbers_of (equal 0)
checked_numbers (Unroll.refuses s k p) = numbers_of (refused s k p)

-- a file's length takes the place of the number compared
abbrev pub written_numbers : Write.Written → Numbers
written_numbers (Write.file n) = numbers_of (equal n)
written_numbers (Write.refused s k p) = numbers_of (refused s k p)

abbrev pub side_of : ℕ → Side
side_of zero = left
side_of (suc zero) = right
side_of (suc (suc zero)) = both
side_of (suc (suc (suc n))) = input

abbrev pub reply_by : ℕ → ℕ → ℕ → ℕ → Reply
reply_by zero x y z = equal x
reply_by (suc zero) x y z = differs x y
reply_by (suc (suc n)) x y z = refused (side_of x) y z

-- what a caller reads from the numbers
abbrev pub reply_of : Numbers → Reply
reply_of r = reply_by r.kind r.first r.second r.third

-- The numbers say which reply it was: none is lost at the boundary.
abbrev pub NumbersRead : Type 0
NumbersRead = (r : Reply) → reply_of (numbers_of r) ≡ r

-- the side that an explanation is asked for: 0 is the left
abbrev pub chosen_by : ℕ → Explain.Chosen
chosen_by zero = Explain.left_side
chosen_by (suc n) = Explain.right_side

-- kind 0: written; 1: starting content; 2: refused. Numbers that a kind does not use are 0.
abbrev pub answer_numbers : Explain.Answer → Explanation → ExplanationNumbers
answer_numbers (Explain.written a e) x =
    record { kind = 0; side = 0; question = 0; place = 0; array = a; cell = e; from = x.from; to = x.to; count = x.count; indices = x.indices }
answer_numbers (Explain.starting a e) x =
    record { kind = 1; side = 0; question = 0; place = 0; array = a; cell = e; from = x.from; to = x.to; count = x.count; indices = x.indices }
answer_numbers (Explain.refused s k p) x =
    record { kind = 2; side = side_number s; question = k; place = p; array = 0; cell = 0; from = x.from; to = x.to; count = x.count; indices = x.indices }

abbrev pub explanation_numbers : Explanation → ExplanationNumbers
explanation_numbers x = answer_numbers x.answer x

-- what a caller reads from the numbers
abbrev pub answer_by : ℕ → ExplanationNumbers → Explain.Answer
answer_by zero r = Explain.written r.array r.cell
answer_by (suc zero) r = Explain.starting r.array r.cell
answer_by (suc (suc n)) r = Explain.refused (side_of r.side) r.question r.place

abbrev pub explanation_of : ExplanationNumbers → Explanation
explanation_of r = record { answer = answer_by r.kind r; from = r.from; to = r.to; count = r.count; indices = r.indices }

-- None of an explanation is lost at the boundary.
abbrev pub ExplanationRead : Type 0
ExplanationRead = (x : Explanation) → explanation_of (explanation_numbers x) ≡ x
