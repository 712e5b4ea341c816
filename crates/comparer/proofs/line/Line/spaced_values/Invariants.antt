use Rattle.comparer.specs.ExplainLine.{spaced_first}
use Rattle.comparer.specs.Writing.{Adds}
use Rattle.comparer.proofs.line.Line.spaced_values.Given as goal

abbrev pub invariant-loop-z : goal.invariant-loop-z
invariant-loop-z l = Adds l.initial.out (spaced_first l.z-index l.values) l.out
