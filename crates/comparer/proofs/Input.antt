-- Framed input: what a frame means, demand 2 for it, and that a cut behind byte 32,771 changes no reply.
use Rattle.std.specs.Prelude.{if◌then◌else◌}
use Prim.Native.Nat.{ℕ, ◌+◌, ◌*◌, ◌/◌, ◌%◌, ◌≤◌, ◌<◌}
use native.Mathlib.Omega.{arith}
use mathlib.Core.Path.{◌≡◌, refl, sym, ap, ◌∙◌, subst}
use mathlib.Core.List.{List, [], ◌∷◌, ◌++◌}
use mathlib.Core.Bool.{Bool, true, false, true≢false}
use lib.ListN.{length, take, drop, length-append, length-take, length-drop}
use lib.Seq.{take-append_seam, drop-append_seam, take-take, take_all}
use lib.Dec.{leb}
use borrow.Author.Tests.{leb-true, leb-false, le-leb, lt-leb}
use Rattle.model.specs.Update.{Listed}
use Rattle.model.specs.Reply.{Reply, equal, refused, left, input, is_refused}
use Rattle.reader.specs.Field.{little_endian}
use Rattle.reader.specs.Grammar.{read_program}
use Rattle.unroller.specs.Run.{ok, stop}
use Rattle.unroller.specs.Unroll.{unrolled}
use Rattle.comparer.specs.Entry.{programs_by, out_mask, left_in, right_in, framed_reply, input_by, input_reply}
use Rattle.comparer.specs.Told.{Told, ToldOut}
use Rattle.comparer.specs.Rows.{framed}
use Rattle.comparer.specs.Claims.{ToldOf, Demand2Input, Demand2Masked, InputCut, SameValues, EqualInput}
use Rattle.comparer.proofs.Theorems.{demand2_programs}
use Rattle.comparer.proofs.Plain.{demand2_plain}

-- a frame around two programs, the left within its limit
pub framed_programs : (mask : Listed → ℕ) (l r : List ℕ) → length l ≤ 16384 → input_by mask (framed l r) ≡ programs_by mask l r
unfolding input_by
framed_programs mask l r h =
    let n : length l % 256 + 256 * (length l / 256 + 256 * 0) ≡ length l = omega arith in
    let e = length-append l r in
    rw (le-leb 2 (length (framed l r)) (omega arith), n, le-leb (length l) 16384 h, le-leb (length l) (length (l ++ r)) (omega arith), take-append_seam l r, drop-append_seam l r)

-- a program that is too long is refused with 2
pub too_long : (s : List ℕ) → 16384 < length s → unrolled s ≡ stop 2 0
unfolding unrolled read_program
too_long s h = rw (lt-leb (length s) 16384 h)

-- two right sides that are both too long get the same reply
both_long : (mask : Listed → ℕ) (l r q : List ℕ) → 16384 < length r → 16384 < length q → programs_by mask l r ≡ programs_by mask l q
unfolding programs_by
both_long mask l r q h k = rw (too_long r h, too_long q k)

-- the bytes behind the left length, cut so that a right of 16,385 bytes still fits behind the longest left
framed-cut : (mask : Listed → ℕ) (n : ℕ) (t : List ℕ) → framed_reply mask n (take 32769 t) ≡ framed_reply mask n t
framed-cut mask n t = go (leb (length t) 32769) refl (leb n 16384) refl
  where
    go : (short : Bool) → leb (length t) 32769 ≡ short → (small : Bool) → leb n 16384 ≡ small → framed_reply mask n (take 32769 t) ≡ framed_reply mask n t
    go true e small f = ap (framed_reply mask n) (take_all 32769 t (leb-true (length t) 32769 e))
    go false e false f = rw f
    go false e true f =
        let h = leb-false (length t) 32769 e in
        let k = leb-true n 16384 f in
        let p = length-take 32769 t in
        let c : length (take 32769 t) ≡ 32769 = omega arith in
        let a = length-drop n t in
        let b = length-drop n (take 32769 t) in
        rw (f, le-leb n (length (take 32769 t)) (omega arith), le-leb n (length t) (omega arith), take-take n 32769 t (omega arith))
        (both_long mask (take n t) (drop n (take 32769 t)) (drop n t) (omega arith) (omega arith))

pub cut_by : (mask : Listed → ℕ) (s : List ℕ) → input_by mask (take 32771 s) ≡ input_by mask s
unfolding input_by
cut_by mask [] = refl
cut_by mask (a ∷ []) = refl
cut_by mask (a ∷ b ∷ t) =
    rw (le-leb 2 (length (take 32771 (a ∷ b ∷ t))) (omega arith), le-leb 2 (length (a ∷ b ∷ t)) (omega arith)) (framed-cut mask (a + 256 * (b + 256 * 0)) t)

pub input-cut : InputCut
input-cut s = (cut_by out_mask s, λ mask. cut_by (λ x. mask) s)

-- a frame that is not refused is answered as its two programs are
pub unrefused : (mask : Listed → ℕ) (s : List ℕ) → is_refused (input_by mask s) ≡ false → input_by mask s ≡ programs_by mask (left_in s) (right_in s)
unfolding input_by
unrefused mask s h = go (leb 2 (length s)) (leb (little_endian 2 s 0) 16384) (leb (little_endian 2 s 0) (length (drop 2 s))) h
  where
    told : Reply
    told = programs_by mask (left_in s) (right_in s)

    asked : Bool → Bool → Bool → Reply
    asked b c d = if b then (if c then (if d then told else refused input 1 0) else refused left 2 0) else refused input 1 0

    go : (b c d : Bool) → is_refused (asked b c d) ≡ false → asked b c d ≡ told
    go true true true n = refl
    go true true false n = absurd (true≢false n)
    go true false d n = absurd (true≢false n)
    go false c d n = absurd (true≢false n)

-- and what is told of the two programs is told of the input
told-input : (mask : Listed → ℕ) (Tells : Listed → Listed → Reply → Type 1)
    → ((one other : List ℕ) → is_refused (programs_by mask one other) ≡ false → ToldOf Tells (λ p l. unrolled p ≡ ok l) one other (programs_by mask one other))
    → (s : List ℕ) → is_refused (input_by mask s) ≡ false → ToldOf Tells (λ p l. unrolled p ≡ ok l) (left_in s) (right_in s) (input_by mask s)
told-input mask Tells f s h =
    let e = unrefused mask s h in
    subst (ToldOf Tells _ (left_in s) (right_in s)) (sym e) (f (left_in s) (right_in s) (sym (ap is_refused e) ∙ h))

pub demand2_input : Demand2Input
demand2_input = told-input out_mask ToldOut demand2_plain

pub demand2_masked : Demand2Masked
demand2_masked mask = told-input (λ x. mask) (Told mask) (demand2_programs mask)

-- what is told of two programs, where the reply is "equal"
pub same_values : (one other : List ℕ) (reply : Reply) (n : ℕ) → ToldOf ToldOut (λ p l. unrolled p ≡ ok l) one other reply → reply ≡ equal n → SameValues one other n
same_values one other reply n t e =
    let q = (t.told.same n).0 e in
    record { l = t.l; r = t.r; is_left = t.is_left; is_right = t.is_right; count = q.0; agree = q.1 }

pub equal-input : EqualInput
equal-input s n e = same_values (left_in s) (right_in s) (input_reply s) n (demand2_input s (ap is_refused e)) e
