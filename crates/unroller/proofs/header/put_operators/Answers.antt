use Rattle.unroller.proofs.HeaderWords.{operators_none, operators_more, operators_all}
use Rattle.unroller.proofs.header.put_operators.Goals as goal

pub loop-k-init : goal.loop-k-init
loop-k-init c = operators_none _ _

pub loop-k-preserved : goal.loop-k-preserved
loop-k-preserved c = operators_more _ _ _ _ _ c.loop-k-test.true c.from.ensures c.loop-k.invariant

pub returns : goal.returns
returns c = operators_all _ _ _ _ c.loop-k-test.false c.loop-k.invariant
