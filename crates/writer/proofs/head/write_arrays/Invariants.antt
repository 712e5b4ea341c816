use Prim.Native.Nat.{◌+◌, ◌*◌, ◌-◌}
use Rattle.writer.specs.Head.{arrays_bytes_at, ArraysKnown}
use Rattle.writer.proofs.Writing.{Writing}
use Rattle.writer.proofs.head.write_arrays.Given as goal

abbrev pub invariant-loop-k : goal.invariant-loop-k
invariant-loop-k l = ArraysKnown l.list (l.at + 5 * l.k) (l.n - l.k) × Writing (arrays_bytes_at l.list l.at l.n) l.initial.out (arrays_bytes_at l.list (l.at + 5 * l.k) (l.n - l.k)) l.to l.out
