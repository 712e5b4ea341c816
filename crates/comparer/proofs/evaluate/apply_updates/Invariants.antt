use Prim.Native.Nat.{ℕ, ◌-◌, ◌≤◌}
use mathlib.Core.List.{List}
use lib.ListN.{length}
use Rattle.comparer.specs.Work.{Applies}
use Rattle.comparer.proofs.evaluate.apply_updates.Given as goal

abbrev pub invariant-loop-at : goal.invariant-loop-at
invariant-loop-at l =
    (l.n ≤ 4096) × ((r : ℕ) (cells' m' : List ℕ) → Applies l.bases l.list l.at l.cells l.terms l.n r cells' m' → Applies l.bases l.list 98 l.initial.cells l.initial.terms l.count r cells' m')

abbrev pub decreases-loop-at : goal.decreases-loop-at
decreases-loop-at l = length l.list - l.at
