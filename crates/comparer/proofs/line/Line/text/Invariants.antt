use Rattle.std.proofs.Common.{take}
use Rattle.comparer.specs.Writing.{Adds}
use Rattle.comparer.proofs.line.Line.text.Given as goal

abbrev pub invariant-loop-b : goal.invariant-loop-b
invariant-loop-b l = Adds l.initial.out (take l.b-index l.s) l.out
