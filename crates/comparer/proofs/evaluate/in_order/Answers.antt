use mathlib.Core.Path.{refl}
use native.Mathlib.Omega.{arith}
use Rattle.terms.proofs.Sorted.{sorted-turned, sorted_same}
use Rattle.comparer.proofs.evaluate.in_order.Goals as goal

pub returns-then-ids : goal.returns-then-ids
returns-then-ids c = let h = c.if-ids.true in sorted-turned _ _ refl (omega arith)

pub returns : goal.returns
returns c = let h = c.if-ids.false in sorted_same _ _ refl (omega arith)
