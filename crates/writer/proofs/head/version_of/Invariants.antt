use Rattle.writer.proofs.Heading.{Marks}
use Rattle.writer.proofs.head.version_of.Given as goal

abbrev pub invariant-loop-k : goal.invariant-loop-k
invariant-loop-k l = Marks l.list l.n l.k
