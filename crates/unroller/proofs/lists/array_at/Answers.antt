use native.Mathlib.Omega.{arith}
use Rattle.unroller.proofs.CheckArrays.{dec_bad, dec_first, dec_second, dec_third, dec_is, factor-small, two_fit, three_fit}
use Rattle.unroller.proofs.lists.array_at.Goals as goal

pub returns-then-role-gt3 : goal.returns-then-role-gt3
returns-then-role-gt3 c = dec_bad _ _ c.requires c.then-role-gt3.either

pub returns-in_err-a : goal.returns-in_err-a
returns-in_err-a c =
    rw c.from_residual.ensures
    (dec_first _ _ c.requires c.if-role-gt3.false c.if-dimensions-lt1.false c.if-dimensions-gt3.false c.in_err-a.ensures)

pub returns-in_err-b : goal.returns-in_err-b
returns-in_err-b c =
    rw c.from_residual-in_err-b.ensures
    (dec_second _ _ c.requires c.if-role-gt3.false c.if-dimensions-lt1.false c.if-dimensions-gt3.false _ c.in_ok-a.ensures c.in_err-b.ensures)

pub returns-in_err-c : goal.returns-in_err-c
returns-in_err-c c =
    rw c.from_residual-in_err-c.ensures
    (dec_third _ _ c.requires c.if-role-gt3.false c.if-dimensions-lt1.false c.if-dimensions-gt3.false _ c.in_ok-a.ensures _ c.in_ok-b.ensures c.in_err-c.ensures)

pub overflow_mul-result : goal.overflow_mul-result
overflow_mul-result c = omega (arith, two_fit _ _ (factor-small _ _ _ c.in_ok-a.ensures) (factor-small _ _ _ c.in_ok-b.ensures))

pub overflow_mul-result-2 : goal.overflow_mul-result-2
overflow_mul-result-2 c = omega (arith, three_fit _ _ _ (factor-small _ _ _ c.in_ok-a.ensures) (factor-small _ _ _ c.in_ok-b.ensures) (factor-small _ _ _ c.in_ok-c.ensures))

pub returns : goal.returns
returns c =
    dec_is _ _ c.requires c.if-role-gt3.false c.if-dimensions-lt1.false c.if-dimensions-gt3.false _ c.in_ok-a.ensures _ c.in_ok-b.ensures _ c.in_ok-c.ensures
    (three_fit _ _ _ (factor-small _ _ _ c.in_ok-a.ensures) (factor-small _ _ _ c.in_ok-b.ensures) (factor-small _ _ _ c.in_ok-c.ensures))
