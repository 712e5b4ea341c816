use mathlib.Core.Path.{◌≡◌, sym, subst, ap, ap₂, ◌∙◌}
use Prim.Native.Nat.{◌+◌, ◌*◌, ◌≤◌, ◌<◌}
use native.Mathlib.Nat.{div-one}
use native.Mathlib.Numerals.{add-one}
use native.Mathlib.Omega.{arith}
use borrow.Author.Rules.{sfits_of}
use lib.IntN.{ℤ, pos, ◌+ℤ◌, ◌*ℤ◌, nat_abs}
use lib.ListN.{get_or}
use mir.Syntax.{w8, w16, w32}
use mir.Val.{SFits, to_z, of_z}
use mir.Facts.{to_z-of_z}
use Rattle.model.proofs.Abs.{abs_sfits}
use Rattle.reader.specs.Entries.{bytes_of}
use Rattle.unroller.specs.Forms.{form_sum}
use Rattle.unroller.proofs.Sums.{rest_few, rest_first, rest_next, rest_none}
use Rattle.unroller.proofs.forms.form_value.Goals as goal

pub loop-rest-init : goal.loop-rest-init
unfolding form_sum
loop-rest-init c =
    let x = c.args.constant in
    let f : SFits w16 x = c.ranges.constant in
    let e : to_z w32 (of_z w32 c.from-sum.result) ≡ x = to_z-of_z {w = w32} (sfits_of c.from-sum.type_inv) ∙ c.from-sum.ensures ∙ to_z-of_z f in
    (omega arith, c.packed-rest.type_inv, sym (div-one _), e ∙ sym (to_z-of_z f), subst (λ (z : ℤ). nat_abs z ≤ 32768) (sym e) (abs_sfits f))

pub offset_bounds-indices-k : goal.offset_bounds-indices-k
offset_bounds-indices-k c = let i = c.loop-rest.invariant in let h = rest_few _ _ _ i.1 i.0 i.2 (λ e. omega arith) in omega arith

pub bounds-indices-k : goal.bounds-indices-k
bounds-indices-k c = let i = c.loop-rest.invariant in rest_few _ _ _ i.1 i.0 i.2 (λ e. omega arith)

pub form_step-sum-requires : goal.form_step-sum-requires
form_step-sum-requires c = let i = c.loop-rest.invariant in omega (arith, i.4, i.0)

pub overflow_add-k : goal.overflow_add-k
overflow_add-k c = let i = c.loop-rest.invariant in omega (arith, i.0)

pub loop-rest-smaller : goal.loop-rest-smaller
loop-rest-smaller c = let i = c.loop-rest.invariant in let h = rest_few _ _ _ i.1 i.0 i.2 (λ e. omega arith) in omega arith

pub loop-rest-preserved : goal.loop-rest-preserved
unfolding form_sum
loop-rest-preserved c =
    let k = c.loop-rest.k in
    let i = c.loop-rest.invariant in
    let w = c.packed-rest.result in
    let rest = c.loop-rest.rest in
    let sum = to_z w32 c.loop-rest.sum-bits in
    let a = c.args in
    let h : k < 8 = rest_few w k rest i.1 i.0 i.2 (λ e. omega arith) in
    let x = get_or (bytes_of 8 w) k (pos 0) in
    let y = get_or a.indices.now k (pos 0) in
    let fx : SFits w8 c.cast_signed.result = sfits_of c.cast_signed.type_inv in
    let ex : c.cast_signed.result ≡ x = c.cast_signed.ensures ∙ rest_first w k rest i.1 i.0 i.2 h in
    let fy : SFits w16 y = sfits_of c.form_step-arg-1.given in
    let r : to_z w32 (of_z w32 c.form_step-sum.result) ≡ c.form_step-sum.result = to_z-of_z {w = w32} (sfits_of c.form_step-sum.type_inv) in
    let b : nat_abs c.form_step-sum.result ≤ 32768 + (k + 1) * 4194304 = omega (arith, c.form_step-sum.ensures.bound, i.4) in
    let e : to_z w32 (of_z w32 c.form_step-sum.result) ≡ sum +ℤ (x *ℤ y) =
    r ∙ c.form_step-sum.ensures.value ∙ ap₂ (λ (p q : ℤ). sum +ℤ (p *ℤ q)) (to_z-of_z fx ∙ ex) (to_z-of_z fy) in (
      omega arith,
      i.1,
      rest_next w k rest i.1 i.0 i.2,
      e ∙ ap (λ (z : ℤ). z +ℤ (x *ℤ y)) i.3 ∙ ap (form_sum (to_z w16 (of_z w16 a.constant)) (bytes_of 8 w) a.indices.now) (sym (add-one k)),
      subst (λ (z : ℤ). nat_abs z ≤ 32768 + (k + 1) * 4194304) (sym r) b,
    )

pub returns : goal.returns
returns c =
    let i = c.loop-rest.invariant in
    let a = c.args in
    record {
      value =
          i.3 ∙ ap (λ (z : ℤ). form_sum z (bytes_of 8 c.packed-rest.result) a.indices.now c.loop-rest.k) (to_z-of_z c.ranges.constant)
          ∙ rest_none _ _ _ i.1 i.0 i.2 a.constant a.coefficients a.indices.now c.packed-rest.ensures (omega arith);
      bound = omega (arith, i.4, i.0);
    }
