use Prim.Native.Nat.{ℕ, ◌+◌, ◌-◌, ◌*◌, ◌≤◌}
use mathlib.Core.Path.{◌≡◌}
use Rattle.comparer.specs.Laying.{emptied}
use Rattle.comparer.proofs.memory.clear_list.Given as goal

abbrev pub invariant-loop-at : goal.invariant-loop-at
invariant-loop-at l = (l.at ≤ 30818) × ((i : ℕ) × (l.at ≡ 98 + 192 * i) × (l.list ≡ emptied (98 + 192 * i) l.initial.list))

abbrev pub decreases-loop-at : goal.decreases-loop-at
decreases-loop-at l = 30818 - l.at
