-- The claims of specs/Carried.antt.
use Prim.Native.Nat.{ℕ, ◌+◌}
use mathlib.Core.Path.{◌≡◌, refl, sym, ap, ◌∙◌, subst}
use mathlib.Core.Bool.{Bool, true, false, true≢false}
use mathlib.Core.List.{List, [], ◌∷◌, map, Memᴰ}
use lib.ListN.{length, take, drop}
use lib.Dec.{leb}
use Rattle.model.specs.Update.{Listed}
use Rattle.model.specs.Reply as model
use Rattle.model.specs.Reply.{is_refused, equal}
use Rattle.unroller.specs.Run.{ok}
use Rattle.unroller.specs.Unroll.{unrolled}
use Rattle.comparer.specs.Entry.{entry_reply, programs_reply, all_bits, plain_reply, left_in, right_in, input_masked, input_reply}
use Rattle.comparer.specs.BatchSteps.{body_reply}
use Rattle.comparer.specs.Line.{line_of}
use Rattle.comparer.specs.Rows.{Row, framed, starred}
use Rattle.comparer.specs.Told.{Told, ToldOut}
use Rattle.comparer.specs.Claims.{ToldOf, Beside}
use Rattle.comparer.specs.Answers.{reply_says}
use Rattle.comparer.specs.declared.reply.Reply.{Reply}
use Rattle.comparer.specs.Carried.{ListsAnswered, ProgramsAnswered, PlainAnswered, ReorderedAnswered, BesideAnswered, InputAnswered, MaskedAnswered, PairAnswered, EqualAnswered, StarredAnswered}
use Rattle.comparer.proofs.Theorems.{entered, demand2_words, demand2_programs, demand3}
use Rattle.comparer.proofs.Itself.{beside_itself_words}
use Rattle.comparer.proofs.Plain.{demand2_plain}
use Rattle.comparer.proofs.Input.{demand2_input, demand2_masked, same_values}
use Rattle.comparer.proofs.Table.{starred-rows}
use Rattle.comparer.proofs.Writing.{line-text}

pub lists_answered : ListsAnswered
lists_answered mask one other cells terms r e n = subst (ToldOf (Told mask) _ one other) (sym e) (demand2_words mask one other cells terms (sym (ap is_refused e) ∙ n))

-- what is told of a reply is told of the answer that says it, after 25
answered : (Tells : Listed → Listed → model.Reply → Type 1) (from : List ℕ → Listed → Type 0) (one other : List ℕ) (reply : model.Reply)
    → (is_refused reply ≡ false → ToldOf Tells from one other reply)
    → (long : Bool) (r : Reply) → reply_says r ≡ entry_reply long reply → is_refused (reply_says r) ≡ false → ToldOf Tells from one other (reply_says r)
answered Tells from one other reply f long r e n =
    let q = e ∙ entered long reply (sym (ap is_refused e) ∙ n) in
    subst (ToldOf Tells from one other) (sym q) (f (sym (ap is_refused q) ∙ n))

pub programs_answered : ProgramsAnswered
programs_answered long mask one other = answered (Told mask) _ one other (programs_reply mask one other) (demand2_programs mask one other) long

pub plain-answered : PlainAnswered
plain-answered long one other = answered ToldOut _ one other (plain_reply one other) (demand2_plain one other) long

pub reordered_answered : ReorderedAnswered
reordered_answered old l e order h mask third cells terms r q =
    let k = demand3 old l e order h in
    (λ a b. a ∙ k.on_left mask third cells terms ∙ sym b, λ a b. a ∙ k.on_right mask third cells terms ∙ sym b)

pub beside_answered : BesideAnswered
beside_answered old l e order h mask cells terms n r =
    let b = beside_itself_words old l e order h mask cells terms n in
    (λ q. subst (Beside mask l) (sym q) b.0, λ q. subst (Beside mask l) (sym q) b.1)

pub input-answered : InputAnswered
input-answered long s = answered ToldOut _ (left_in s) (right_in s) (input_reply s) (demand2_input s) long

pub masked_answered : MaskedAnswered
masked_answered long mask s = answered (Told mask) _ (left_in s) (right_in s) (input_masked mask s) (demand2_masked mask s) long

-- the reply to the bytes behind the lengths of a pair
body-told : (l r : ℕ) (s : List ℕ) → is_refused (body_reply l r s) ≡ false → ToldOf (Told all_bits) (λ p q. unrolled p ≡ ok q) (take l s) (take r (drop l s)) (body_reply l r s)
body-told l r s n = by (leb (l + r) (length s)) refl n
  where
    by : (b : Bool) → leb (l + r) (length s) ≡ b → is_refused (body_reply l r s) ≡ false
        → ToldOf (Told all_bits) (λ p q. unrolled p ≡ ok q) (take l s) (take r (drop l s)) (body_reply l r s)
    by true e n = rw e (demand2_programs all_bits (take l s) (take r (drop l s)) (rw e at n))
    by false e n = absurd (true≢false (rw e at n))

pub pair_answered : PairAnswered
pair_answered long l r s = answered (Told all_bits) _ (take l s) (take r (drop l s)) (body_reply l r s) (body-told l r s) long

pub equal-answered : EqualAnswered
equal-answered long s r n e f =
    let g : reply_says r ≡ equal n = ap reply_says f in
    same_values (left_in s) (right_in s) (reply_says r) n (input-answered long s r e (ap is_refused g)) g

row_of : (f g : Row → List ℕ) (xs : List Row) → map f xs ≡ map g xs → (x : Row) → Memᴰ x xs → f x ≡ g x
row_of f g [] e x p = elim p [ ]
row_of f g (y ∷ ys) e x (Memᴰ.head p) = let q : f y ≡ g y = cc in subst (λ (z : Row). f z ≡ g z) (sym p) q
row_of f g (y ∷ ys) e x (Memᴰ.tail m) = let q : map f ys ≡ map g ys = cc in row_of f g ys q x m

pub starred-answered : StarredAnswered
starred-answered any x m r line e h =
    line-text line (line_of (reply_says r)) h
    ∙ ap line_of e
    ∙ row_of (λ x. line_of (input_reply (framed x.one (x.other any)))) (λ x. x.line) starred (starred-rows any) x m
