use Prim.Native.Nat.{◌+◌, ◌-◌, ◌*◌}
use Rattle.writer.specs.Head.{dimensions_at}
use Rattle.writer.proofs.Writing.{Writing}
use Rattle.writer.proofs.head.put_dimensions.Given as goal

abbrev pub invariant-loop-k : goal.invariant-loop-k
invariant-loop-k l = Writing (dimensions_at l.list l.at l.n) l.initial.out (dimensions_at l.list (l.at + l.k) (l.n - l.k)) (2 * l.k) l.out
