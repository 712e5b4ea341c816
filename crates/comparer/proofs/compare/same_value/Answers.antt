use native.Mathlib.Omega.{arith}
use Rattle.std.proofs.lemmas.Bool.Decides.{nat_tests}
use Rattle.comparer.proofs.Agreeing.{given_inout, given-not, given_same}
use Rattle.comparer.proofs.compare.same_value.Goals as goal

pub returns-then-role-eq2 : goal.returns-then-role-eq2
returns-then-role-eq2 c = let a = c.args in given_inout _ a.left _ _ _ a.role (omega (arith, c.if-role-eq2.true)) _ c.agrees.ensures

pub returns-else-left-ne0 : goal.returns-else-left-ne0
returns-else-left-ne0 c = let a = c.args in given-not _ a.left _ _ _ a.role (λ e. omega (arith, c.if-role-eq2.false)) (omega (arith, c.if-left-ne0.false)) _ (grind (arith, nat_tests, c.if-left-ne0.false))

pub returns-then-left-ne0 : goal.returns-then-left-ne0
returns-then-left-ne0 c = let a = c.args in given_same _ a.left _ _ _ a.role (λ e. omega (arith, c.if-role-eq2.false)) (λ e. omega (arith, c.if-left-ne0.true))
