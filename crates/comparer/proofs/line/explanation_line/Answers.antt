use Rattle.comparer.proofs.Writing.{line-ends}
use Rattle.comparer.proofs.line.explanation_line.Goals as goal

pub returns : goal.returns
returns c = line-ends c.explanation_words.result _ _ c.explanation_words.ensures c.put.ensures
