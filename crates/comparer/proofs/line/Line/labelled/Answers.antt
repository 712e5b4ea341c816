use Rattle.comparer.proofs.Writing.{adds_more}
use Rattle.comparer.proofs.line.Line.labelled.Goals as goal

pub returns : goal.returns
returns c = adds_more c.args.self c.text.result _ c.args.word.now _ c.text.ensures c.spaced_number.ensures
