use Rattle.comparer.proofs.Writing.{spaced_adds}
use Rattle.comparer.proofs.line.Line.spaced_number.Goals as goal

pub returns : goal.returns
returns c = spaced_adds c.args.self c.put.result _ c.args.n c.ranges.n.fits c.put.ensures c.number.ensures
