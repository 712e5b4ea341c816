use native.Mathlib.Omega.{arith}
use mathlib.Core.Path.{◌≡◌, ap, ◌∙◌, subst}
use mathlib.Core.Bool.{true, false}
use lib.IntN.{ℤ, pos, nat_abs}
use lib.Signed.{lt_z}
use mir.Facts.{to_z-of_z}
use Rattle.comparer.proofs.Writing.{number_as, signed_below, signed_from}
use Rattle.comparer.proofs.line.Line.spaced_signed.Goals as goal

pub returns-then-z-lt0 : goal.returns-then-z-lt0
returns-then-z-lt0 c =
    let a = c.args in
    let f = c.ranges.z in
    let e = to_z-of_z f in
    signed_below a.self c.put-blank.result a.z f c.from-size.result (c.from-size.ensures ∙ c.unsigned_abs.ensures.value ∙ ap nat_abs e) c.put-blank.ensures c.put.result _
    (subst (λ (v : ℤ). lt_z v (pos 0) ≡ true) e c.if-z-lt0.true) c.put.ensures (number_as _ _ _ _ c.number.ensures (omega arith))

pub returns : goal.returns
returns c =
    let a = c.args in
    let f = c.ranges.z in
    let e = to_z-of_z f in
    signed_from a.self c.put-blank.result a.z f c.from-size.result (c.from-size.ensures ∙ c.unsigned_abs.ensures.value ∙ ap nat_abs e) c.put-blank.ensures _
    (subst (λ (v : ℤ). lt_z v (pos 0) ≡ false) e c.if-z-lt0.false) c.number-2.ensures
