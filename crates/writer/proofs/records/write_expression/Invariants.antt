use Rattle.writer.proofs.Cellwise.{Putting}
use Rattle.writer.proofs.records.write_expression.Given as goal

abbrev pub invariant-loop-k : goal.invariant-loop-k
invariant-loop-k l = Putting l.list l.at l.n l.initial.out l.k l.to l.out
