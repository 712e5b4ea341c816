use Rattle.comparer.proofs.Writing.{adds_none, text_more}
use Rattle.comparer.proofs.line.Line.text.Goals as goal

pub loop-b-init : goal.loop-b-init
loop-b-init c = adds_none _

pub loop-b-preserved : goal.loop-b-preserved
loop-b-preserved c = text_more _ _ c.loop-b.out _ c.loop-b.b-index c.loop-b-test.true c.loop-b.invariant c.put-out.ensures
