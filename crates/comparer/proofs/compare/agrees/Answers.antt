use borrow.Author.Tests.{ne_eqb}
use Rattle.comparer.proofs.Agreeing.{agrees_same, agrees_left, agrees_right, agrees_apart}
use Rattle.comparer.proofs.compare.agrees.Goals as goal

pub returns-then-x-y : goal.returns-then-x-y
returns-then-x-y c = agrees_same _ _ _ _ _ c.if-x-y.true

pub returns-then-x-eq0 : goal.returns-then-x-eq0
returns-then-x-eq0 c = agrees_left _ _ _ _ _ c.if-x-y.false c.if-x-eq0.true _ c.starts.ensures

pub returns-then-y-eq0 : goal.returns-then-y-eq0
returns-then-y-eq0 c = agrees_right _ _ _ _ _ c.if-x-eq0.false c.if-y-eq0.true _ c.starts-then-y-eq0.ensures

pub returns-else-y-eq0 : goal.returns-else-y-eq0
returns-else-y-eq0 c = agrees_apart _ _ _ _ _ c.if-x-y.false c.if-x-eq0.false c.if-y-eq0.false _ (ne_eqb _ _ c.if-y-eq0.false)
