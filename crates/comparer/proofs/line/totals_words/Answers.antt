use Rattle.comparer.proofs.Writing.{totals_begin}
use Rattle.comparer.proofs.line.totals_words.Goals as goal

pub returns : goal.returns
returns c =
    totals_begin c.args.totals c.new.result c.labelled.result c.labelled-2.result c.labelled-3.result c.labelled-4.result _
    c.new.ensures c.labelled.ensures c.labelled-2.ensures c.labelled-3.ensures c.labelled-4.ensures c.labelled-5.ensures
