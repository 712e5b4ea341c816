use Prim.Native.Nat.{◌+◌, ◌*◌, ◌-◌}
use Rattle.writer.proofs.Heading.{Adds}
use Rattle.writer.proofs.head.arrays_size.Given as goal

abbrev pub invariant-loop-k : goal.invariant-loop-k
invariant-loop-k l = Adds l.list l.at l.n (l.at + 5 * l.k) (l.n - l.k) l.size
