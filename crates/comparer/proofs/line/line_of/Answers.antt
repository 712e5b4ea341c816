use Rattle.comparer.proofs.Writing.{line-ends}
use Rattle.comparer.proofs.line.line_of.Goals as goal

pub returns : goal.returns
returns c = line-ends c.words.result _ _ c.words.ensures c.put.ensures
