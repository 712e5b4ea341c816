-- What the code's explanation says, case by case; and a part of a lent slice, as a reference.
use Rattle.std.specs.Prelude.{ℕ, ◌+◌, ◌-◌, ◌≡◌, List, Bool, ◌&&◌, length, take, drop, leb, if◌then◌else◌}
use Rattle.std.specs.Borrow.{Bor}
use Rattle.model.specs.Memory.{list_words, work_left}
use Rattle.model.specs.Reply as model
use Rattle.unroller.specs.OriginReply as origin
use Rattle.comparer.specs.Answers.{side_says}
use Rattle.comparer.specs.Explain as Explain
use Rattle.comparer.specs.Explain.{plain}
use Rattle.comparer.specs.declared.explanation.Chosen.{Chosen}
use Rattle.comparer.specs.declared.explanation.Chosen.TheVariants as chosen
use Rattle.comparer.specs.declared.explanation.Answer.{Answer}
use Rattle.comparer.specs.declared.explanation.Answer.TheVariants as answer
use Rattle.comparer.specs.declared.explanation.Explanation.{Explanation}

abbrev pub chosen_says : Chosen → Explain.Chosen
chosen_says chosen.Left = Explain.left_side
chosen_says chosen.Right = Explain.right_side

-- of two, the one that is chosen
abbrev pub chosen_of : {A : Type 0} → Chosen → A → A → A
chosen_of side l r = Explain.chosen (chosen_says side) l r

abbrev pub answer_says : Answer → Explain.Answer
answer_says (answer.Written a e) = Explain.written a e
answer_says (answer.Starting a e) = Explain.starting a e
answer_says (answer.Refused s k p) = Explain.refused (side_says s) k p

abbrev pub explanation_says : Explanation → Explain.Explanation
explanation_says r = record { answer = answer_says r.answer; from = r.from; to = r.to; count = r.count; indices = r.indices }

-- what is told of an element of one program, as an explanation
abbrev pub answer_by : ℕ → ℕ → origin.Known → Explain.Answer
answer_by a e origin.written = Explain.written a e
answer_by a e origin.starting = Explain.starting a e
answer_by a e (origin.refused s k p) = Explain.refused s k p

abbrev pub explanation_by : ℕ → ℕ → origin.Told → Explain.Explanation
explanation_by a e t = record { answer = answer_by a e t.known; from = t.from; to = t.to; count = t.count; indices = t.indices }

-- what the comparison's reply becomes, and what is then left in the list; `told`: of an element of the chosen program
abbrev pub replied_by : model.Reply → (ℕ → ℕ → origin.Told) → Explain.Explanation
replied_by (model.equal n) told = plain (Explain.refused model.both 27 0)
replied_by (model.differs a e) told = explanation_by a e (told a e)
replied_by (model.refused s k p) told = plain (Explain.refused s k p)

abbrev pub list_left : model.Reply → List ℕ → List ℕ
list_left (model.equal n) list = list
list_left (model.differs a e) list = work_left (leb list_words (length list)) list
list_left (model.refused s k p) list = list

-- r is the part of s from `from` up to `to`: it points into s, `from` bytes behind its first, and holds those bytes. A slice is passed
-- as its pointer and its length, so the two facts fix it.
pub record Part (s : Bor (List ℕ)) (from to : ℕ) (r : Bor (List ℕ)) : Type 0 where
  pub place : r.ref_ptr ≡ (s.ref_ptr.0, s.ref_ptr.1 + from)
  pub bytes : r.now ≡ take (to - from) (drop from s.now)

-- there is such a part
abbrev pub inside : List ℕ → ℕ → ℕ → Bool
inside s from to = leb from to && leb to (length s)

-- the part from `from` up to `to`; the empty one at the first byte where there is none
abbrev pub IsPart : Bor (List ℕ) → ℕ → ℕ → Bor (List ℕ) → Type 0
IsPart s from to r = Part s (if inside s.now from to then from else 0) (if inside s.now from to then to else 0) r
