-- The plain entry: what it compares, and how its replies stand to those under a mask.
use Rattle.std.specs.Prelude.{if◌then◌else◌}
use Prim.Native.Nat.{ℕ, ◌^◌, ◌≤◌, ◌<◌}
use native.Mathlib.Omega.{arith}
use mathlib.Core.Path.{◌≡◌, refl, ap}
use mathlib.Core.List.{List}
use mathlib.Core.Bool.{Bool, true, false}
use lib.ListN.{length}
use lib.Dec.{leb, eqb}
use Rattle.model.specs.Tables.{Tables}
use Rattle.model.specs.Update.{Listed}
use Rattle.model.specs.Reply.{Side, differs, refused, left, right}
use Rattle.reader.specs.Field.{Outcome, got, no}
use Rattle.reader.specs.Syntax.{Program}
use Rattle.reader.specs.Grammar as grammar
use Rattle.reader.specs.Grammar.{read_program, program, body}
use Rattle.reader.proofs.Binds.{read_by, asked_by, got_is}
use Rattle.unroller.specs.Run.{Ran, ok, stop}
use Rattle.unroller.specs.Unroll.{unrolled}
use Rattle.unroller.proofs.Parts.{TablesParts, within-high}
use Rattle.unroller.proofs.Runs.{unrolls}
use Rattle.unroller.proofs.Accepted.{tables-allowed}
use Rattle.comparer.specs.Match.{lists_reply}
use Rattle.comparer.specs.Entry.{side_reply, programs_by, programs_reply, all_bits, out_mask, plain_reply}
use Rattle.comparer.specs.Claims.{Demand2Plain, PlainMasked, PlainWithoutInout, RefusedAlike, OneBit}
use Rattle.comparer.proofs.Outs.{told_out, out_only, all_only, only-reply, lists_alike, one_bit_lists}
use Rattle.comparer.proofs.Theorems.{unrolled_sound, demand2_by}

pub demand2_plain : Demand2Plain
demand2_plain one other n =
    let t = demand2_by out_mask one other n in
    record { l = t.l; r = t.r; is_left = t.is_left; is_right = t.is_right; told = told_out t.l t.r (plain_reply one other) t.told }

-- the mask is that of the left's list
pub masked_by : (mask : Listed → ℕ) (one other : List ℕ) (l : Listed) → unrolled one ≡ ok l → programs_by mask one other ≡ programs_reply (mask l) one other
unfolding programs_by
masked_by mask one other l e = rw e

pub plain_masked : PlainMasked
plain_masked = masked_by out_mask

-- what a file's tables have
pub program-tables : (s : List ℕ) (p : Program) (next : ℕ) → read_program s ≡ got p next → TablesParts p.tables
unfolding read_program program
program-tables s p next e = go (leb (length s) 16384) e
  where
    go : (z : Bool) → ◌≡◌ {A = Outcome Program} (if z then program s 0 else no 2 0) (got p next) → TablesParts p.tables
    go true r =
        read_by (grammar.tables s 0) _ r λ t at1 e1 r1.
        read_by (body t (length s) 8 0 s at1) _ r1 λ is at2 e2 r2.
        asked_by 14 at2 (eqb at2 (length s)) s at2 _ r2 λ _ r3.
        got_is (λ (q : Program). TablesParts q.tables) r3 (tables-allowed s 0 e1)
    go false r = absurd (let z : ◌≡◌ {A = ℕ} 0 1 = cc in omega arith)

pub plain_without_inout : PlainWithoutInout
unfolding programs_by
plain_without_inout one other l e none = rw e (go (unrolled other))
  where
    few : length l.tables.arrays < 17
    few =
        let u = unrolls one l e in
        let t : length u.source.tables.arrays ≤ 16 = within-high 1 16 _ (program-tables one u.source u.next u.is_read).count in
        let z = ap (λ (t : Tables). length t.arrays) u.tables in
        omega arith

    go : (y : Ran Listed) → side_reply right y (λ r. lists_reply (out_mask l) l r) ≡ side_reply right y (λ r. lists_reply all_bits l r)
    go (ok r) = only-reply (out_mask l) all_bits l r (out_only l.tables.arrays) (all_only l.tables.arrays few none)
    go (stop k p) = refl

-- two masks refuse alike
refused_by : (m n : Listed → ℕ) (one other : List ℕ) (s : Side) (k p : ℕ) → programs_by m one other ≡ refused s k p → programs_by n one other ≡ refused s k p
unfolding programs_by
refused_by m n one other s k p e = go (unrolled one) (unrolled other) e
  where
    go : (x y : Ran Listed) → side_reply left x (λ l. side_reply right y (λ r. lists_reply (m l) l r)) ≡ refused s k p
        → side_reply left x (λ l. side_reply right y (λ r. lists_reply (n l) l r)) ≡ refused s k p
    go (ok l) (ok r) e = lists_alike (m l) (n l) l r s k p e
    go (ok l) (stop j o) e = e
    go (stop j o) y e = e

pub refused-alike : RefusedAlike
refused-alike mask one other s k p = (refused_by out_mask (λ l. mask) one other s k p, refused_by (λ l. mask) out_mask one other s k p)

one_bit_by : (mask : Listed → ℕ) (one other : List ℕ) (a e : ℕ) → programs_by mask one other ≡ differs a e → programs_reply (2 ^ a) one other ≡ differs a e
unfolding programs_by
one_bit_by mask one other a e h = go (unrolled one) refl (unrolled other) refl h
  where
    go : (x : Ran Listed) → unrolled one ≡ x → (y : Ran Listed) → unrolled other ≡ y → side_reply left x (λ l. side_reply right y (λ r. lists_reply (mask l) l r)) ≡ differs a e
        → side_reply left x (λ l. side_reply right y (λ r. lists_reply (2 ^ a) l r)) ≡ differs a e
    go (ok l) p (ok r) q e' = one_bit_lists (mask l) l r (unrolled_sound one l p) (unrolled_sound other r q) a e e'
    go (ok l) p (stop k o) q e' = absurd (let z : ◌≡◌ {A = ℕ} 0 1 = cc in omega arith)
    go (stop k o) p y q e' = absurd (let z : ◌≡◌ {A = ℕ} 0 1 = cc in omega arith)

pub one_bit : OneBit
one_bit one other a e = (λ mask h. one_bit_by (λ l. mask) one other a e h, λ h. one_bit_by out_mask one other a e h)
