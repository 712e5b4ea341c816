-- The claims, carried to what the entries answer: a call's contract is the hypothesis, and there is no other.
use Rattle.std.specs.Prelude.{ℕ, ◌≡◌, Bool, true, false, length, take, drop}
use mathlib.Core.List.{List, [], Memᴰ}
use Rattle.std.proofs.Math.Option.{some}
use Rattle.std.specs.Borrow.{Bor}
use Rattle.model.specs.Update.{Listed}
use Rattle.model.specs.Reply.{is_refused, differs}
use Rattle.unroller.specs.Run.{ok}
use Rattle.unroller.specs.Layout.{layout}
use Rattle.unroller.specs.Decode.{decode}
use Rattle.unroller.specs.Unroll.{unrolled}
use Rattle.unroller.specs.Executed.{Origin}
use Rattle.unroller.specs.Traced.{stretch_of, WrittenAt}
use Rattle.comparer.specs.Entry.{enough, entry_reply, words_reply, programs_reply, all_bits, plain_reply, left_in, right_in, input_masked, input_reply}
use Rattle.comparer.specs.BatchSteps.{body_reply}
use Rattle.comparer.specs.Explain.{explanation}
use Rattle.comparer.specs.Line.{line_of}
use Rattle.comparer.specs.Writing.{Holds}
use Rattle.comparer.specs.Told.{Told, ToldOut}
use Rattle.comparer.specs.Order.{NewOrder, reorder}
use Rattle.comparer.specs.Rows.{Row, framed, starred}
use Rattle.comparer.specs.Claims.{ToldOf, Beside, SameValues}
use Rattle.comparer.specs.Answers.{reply_says}
use Rattle.comparer.specs.ExplainAnswers.{chosen_says, chosen_of, explanation_says, Part, IsPart}
use Rattle.comparer.specs.declared.explanation.Chosen.{Chosen}
use Rattle.comparer.specs.declared.explanation.Answer.TheVariants as answer
use Rattle.comparer.specs.declared.explanation.Explanation.{Explanation}
use Rattle.comparer.specs.declared.line.Line.{Line}
use Rattle.comparer.specs.declared.reply.Reply.{Reply}
use Rattle.comparer.specs.declared.reply.Reply.TheVariants.{Equal}

-- Demand 2, for what `compare_lists` answers.
abbrev pub ListsAnswered : Type 1
ListsAnswered =
    (mask : ℕ) (one other : List ℕ) (cells terms : ℕ) (r : Reply) → reply_says r ≡ words_reply mask one other cells terms → is_refused (reply_says r) ≡ false
    → ToldOf (Told mask) (λ w l. decode w ≡ some l) one other (reply_says r)

-- Demand 2, for what `compare_programs_masked` answers.
abbrev pub ProgramsAnswered : Type 1
ProgramsAnswered =
    (long : Bool) (mask : ℕ) (one other : List ℕ) (r : Reply) → reply_says r ≡ entry_reply long (programs_reply mask one other) → is_refused (reply_says r) ≡ false
    → ToldOf (Told mask) (λ p l. unrolled p ≡ ok l) one other (reply_says r)

-- Demand 2, for what `compare_programs` answers: over the out arrays.
abbrev pub PlainAnswered : Type 1
PlainAnswered =
    (long : Bool) (one other : List ℕ) (r : Reply) → reply_says r ≡ entry_reply long (plain_reply one other) → is_refused (reply_says r) ≡ false
    → ToldOf ToldOut (λ p l. unrolled p ≡ ok l) one other (reply_says r)

-- Demand 3, for what `compare_lists` answers: of an accepted list and of any new order, beside any third slice, on either side.
abbrev pub ReorderedAnswered : Type 0
ReorderedAnswered =
    (old : List ℕ) (l : Listed) → decode old ≡ some l → (order : List ℕ) → NewOrder l.updates order → (mask : ℕ) (third : List ℕ) (cells terms : ℕ) (r q : Reply)
    → ((reply_says r ≡ words_reply mask (layout (reorder l order) (length old)) third cells terms → reply_says q ≡ words_reply mask old third cells terms → reply_says r ≡ reply_says q)
    × (reply_says r ≡ words_reply mask third (layout (reorder l order) (length old)) cells terms → reply_says q ≡ words_reply mask third old cells terms → reply_says r ≡ reply_says q))

-- A list beside a new order of itself, for what `compare_lists` answers: on either side, in slices that are long enough.
abbrev pub BesideAnswered : Type 0
BesideAnswered =
    (old : List ℕ) (l : Listed) → decode old ≡ some l → (order : List ℕ) → NewOrder l.updates order → (mask cells terms : ℕ) → enough (length old) (length old) cells terms ≡ true
    → (r : Reply)
    → (reply_says r ≡ words_reply mask old (layout (reorder l order) (length old)) cells terms → Beside mask l (reply_says r))
    × (reply_says r ≡ words_reply mask (layout (reorder l order) (length old)) old cells terms → Beside mask l (reply_says r))

-- Demand 2, for what `compare_input` answers: over the out arrays.
abbrev pub InputAnswered : Type 1
InputAnswered =
    (long : Bool) (s : List ℕ) (r : Reply) → reply_says r ≡ entry_reply long (input_reply s) → is_refused (reply_says r) ≡ false
    → ToldOf ToldOut (λ p l. unrolled p ≡ ok l) (left_in s) (right_in s) (reply_says r)

-- Demand 2, for what `compare_input_masked` answers.
abbrev pub MaskedAnswered : Type 1
MaskedAnswered =
    (long : Bool) (mask : ℕ) (s : List ℕ) (r : Reply) → reply_says r ≡ entry_reply long (input_masked mask s) → is_refused (reply_says r) ≡ false
    → ToldOf (Told mask) (λ p l. unrolled p ≡ ok l) (left_in s) (right_in s) (reply_says r)

-- Demand 2, for what `compare_pair` answers: over all out and inout arrays of the two programs behind the lengths l and r.
abbrev pub PairAnswered : Type 1
PairAnswered =
    (long : Bool) (l r : ℕ) (s : List ℕ) (x : Reply) → reply_says x ≡ entry_reply long (body_reply l r s) → is_refused (reply_says x) ≡ false
    → ToldOf (Told all_bits) (λ p q. unrolled p ≡ ok q) (take l s) (take r (drop l s)) (reply_says x)

-- An "equal" of `compare_input` implies equal values for every content and every meaning that respects the marks.
abbrev pub EqualAnswered : Type 1
EqualAnswered =
    (long : Bool) (s : List ℕ) (r : Reply) (n : ℕ) → reply_says r ≡ entry_reply long (input_reply s) → r ≡ Equal n → SameValues (left_in s) (right_in s) n

-- The starred rows, for what `compare_input` answers in enough memory and `line_of` makes of it: its bytes are the line as docs/FORMAT.md prints it.
abbrev pub StarredAnswered : Type 0
StarredAnswered =
    (any : List ℕ) (x : Row) → Memᴰ x starred → (r : Reply) (line : Line)
    → reply_says r ≡ entry_reply true (input_reply (framed x.one (x.other any))) → Holds line (line_of (reply_says r)) → take line.len line.bytes ≡ x.line

-- "Written", for what `explain` answers and `stretch` makes of its two places: the part is the origin's stretch in the chosen program's
-- bytes, and the first `count` index values are the origin's.
pub record HandedOver (mask : ℕ) (side : Chosen) (one other : Bor (List ℕ)) (a e : ℕ) (r : Explanation) (p : Bor (List ℕ)) : Type 0 where
  pub origin : Origin
  pub list : Listed
  pub differ : programs_reply mask one.now other.now ≡ differs a e
  pub holds : WrittenAt (chosen_of side one.now other.now) list a e origin
  pub counted : r.count ≡ length origin.values
  pub indices : take r.count r.indices ≡ origin.values
  pub part : Part (chosen_of side one other) origin.from origin.to p
  pub bytes : p.now ≡ stretch_of (chosen_of side one.now other.now) origin

abbrev pub WrittenAnswered : Type 0
WrittenAnswered =
    (long : Bool) (mask : ℕ) (side : Chosen) (one other : Bor (List ℕ)) (r : Explanation) (p : Bor (List ℕ)) (a e : ℕ)
    → explanation_says r ≡ explanation long mask (chosen_says side) one.now other.now → IsPart (chosen_of side one other) r.from r.to p
    → r.answer ≡ answer.Written a e → HandedOver mask side one other a e r p

-- Any other answer: the part is empty.
abbrev pub OtherAnswered : Type 0
OtherAnswered =
    (long : Bool) (mask : ℕ) (side : Chosen) (one other : Bor (List ℕ)) (r : Explanation) (p : Bor (List ℕ))
    → explanation_says r ≡ explanation long mask (chosen_says side) one.now other.now → IsPart (chosen_of side one other) r.from r.to p
    → ((a e : ℕ) → r.answer ≡ answer.Written a e → ⊥) → (p.now ≡ []) × (r.count ≡ 0)
