use Rattle.comparer.proofs.Sizes.{SumsTo}
use Rattle.comparer.proofs.compare.bases_of.Given as goal

abbrev pub invariant-loop-a : goal.invariant-loop-a
invariant-loop-a l = SumsTo l.list l.bases l.a
