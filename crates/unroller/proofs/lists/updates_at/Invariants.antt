use mathlib.Core.Path.{◌≡◌}
use Prim.Native.Nat.{◌-◌, ◌≤◌}
use lib.ListN.{length}
use Rattle.unroller.proofs.CheckUpdates.{Going}
use Rattle.unroller.proofs.lists.updates_at.Given as goal

abbrev pub invariant-loop : goal.invariant-loop
invariant-loop l = (l.count ≤ 8192) × (length l.state ≡ 32768) × Going l.list l.ops l.initial.state l.state l.at (2048 - l.counter) l.count
