use native.Mathlib.Omega.{arith}
use Rattle.comparer.proofs.Headers.{operators-differ, operators_agree}
use Rattle.comparer.proofs.tables.operators.Goals as goal

pub returns-then-o-max : goal.returns-then-o-max
returns-then-o-max c = operators-differ _ _ _ (rw c.min.ensures at c.first_apart-o.ensures) (omega arith)

pub returns : goal.returns
returns c = operators_agree _ _ _ (rw c.min.ensures at c.first_apart-o.ensures) (omega arith)
