use Rattle.writer.proofs.Subscripts.{Dividing}
use Rattle.writer.proofs.records.put_subscripts.Given as goal

abbrev pub invariant-loop-k : goal.invariant-loop-k
invariant-loop-k l = Dividing l.list l.at l.n l.cell l.initial.out l.rest l.k l.out
