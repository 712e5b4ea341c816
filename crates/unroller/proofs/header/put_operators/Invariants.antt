use Rattle.unroller.proofs.HeaderWords.{Operators}
use Rattle.unroller.proofs.header.put_operators.Given as goal

abbrev pub invariant-loop-k : goal.invariant-loop-k
invariant-loop-k l = Operators l.bytes l.initial.list l.k l.list
