use Rattle.std.proofs.Common.{arith}
use Rattle.comparer.proofs.Writing.{number_last, number_more}
use Rattle.comparer.proofs.line.Line.+number.Goals as goal

pub returns-then-n-lt10 : goal.returns-then-n-lt10
returns-then-n-lt10 t c = number_last c.args.self _ c.args.n _ (omega (arith, c.if-n-lt10.true)) c.put.ensures (omega arith)

pub returns : goal.returns
returns t c = number_more c.args.self c.number.result _ c.args.n _ (omega (arith, c.if-n-lt10.false)) c.number.ensures c.put-2.ensures (omega arith)
