use native.Mathlib.Omega.{arith}
use borrow.Author.Tests.{eq-eqb, ne_eqb}
use Rattle.std.proofs.lemmas.Bool.Decides.{nat_tests}
use Rattle.comparer.proofs.Sizes.{compared_off, compared_on}
use Rattle.comparer.proofs.compare.is_compared.Goals as goal

pub returns-then-role-eq1 : goal.returns-then-role-eq1
returns-then-role-eq1 c = compared_on _ _ _ (omega (arith, c.if-bits-eq1.true)) _ c.role_of-role.ensures _ (rw (eq-eqb _ _ c.if-role-eq1.true))

pub returns-else-role-eq1 : goal.returns-else-role-eq1
returns-else-role-eq1 c = compared_on _ _ _ (omega (arith, c.if-bits-eq1.true)) _ c.role_of-role.ensures _ (rw (ne_eqb _ _ c.if-role-eq1.false))

pub returns-else-bits-eq1 : goal.returns-else-bits-eq1
returns-else-bits-eq1 c = compared_off _ _ _ _ (λ e. omega (arith, c.if-bits-eq1.false)) (grind (arith, nat_tests, c.if-bits-eq1.false))
