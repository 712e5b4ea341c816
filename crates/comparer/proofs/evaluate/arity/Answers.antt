use mathlib.Core.Path.{sym, ◌∙◌}
use native.Mathlib.Omega.{arith}
use Rattle.comparer.proofs.Slots.{arity_few, arity_two, arity_many}
use Rattle.comparer.proofs.evaluate.arity.Goals as goal

pub returns-then-byte-le4 : goal.returns-then-byte-le4
returns-then-byte-le4 c = let h = c.if-byte-le4.true in arity_few _ (omega arith)

pub returns-then-swaps : goal.returns-then-swaps
returns-then-swaps c = arity_two _ _ (omega arith) (sym c.swaps.ensures ∙ c.if-swaps.true)

pub returns-else-swaps : goal.returns-else-swaps
returns-else-swaps c = let h = c.if-byte-le4.false in arity_many _ (omega arith) (sym c.swaps.ensures ∙ c.if-swaps.false)
