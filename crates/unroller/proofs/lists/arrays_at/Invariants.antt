use mathlib.Core.Path.{◌≡◌}
use Prim.Native.Nat.{◌≤◌}
use lib.ListN.{length}
use Rattle.unroller.proofs.CheckTable.{Sofar}
use Rattle.unroller.proofs.lists.arrays_at.Given as goal

abbrev pub invariant-loop-k : goal.invariant-loop-k
invariant-loop-k l = (l.sum ≤ 2048) × (length l.state ≡ 32768) × Sofar l.list l.m l.state l.k l.local l.sum
