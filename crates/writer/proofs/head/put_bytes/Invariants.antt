use Prim.Native.Nat.{◌+◌, ◌-◌}
use Rattle.writer.specs.Records.{extents_at}
use Rattle.writer.proofs.Writing.{Writing}
use Rattle.writer.proofs.head.put_bytes.Given as goal

abbrev pub invariant-loop-k : goal.invariant-loop-k
invariant-loop-k l = Writing (extents_at l.list l.at l.n) l.initial.out (extents_at l.list (l.at + l.k) (l.n - l.k)) l.k l.out
