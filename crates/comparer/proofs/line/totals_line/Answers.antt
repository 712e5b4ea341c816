use Rattle.comparer.proofs.Writing.{line-ends}
use Rattle.comparer.proofs.line.totals_line.Goals as goal

pub returns : goal.returns
returns c = line-ends c.totals_words.result _ _ c.totals_words.ensures c.put.ensures
