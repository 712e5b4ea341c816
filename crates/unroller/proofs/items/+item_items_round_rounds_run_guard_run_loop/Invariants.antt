use mathlib.Core.List.{List}
use Prim.Native.Nat.{ℕ, ◌+◌, ◌-◌, ◌*◌}
use lib.ListN.{length}
use Rattle.std.specs.Prelude.{None}
use Rattle.unroller.specs.Walk.{Walk, RunsItems}
use Rattle.unroller.specs.WalkItems.{RunsRounds}
use Rattle.unroller.proofs.Indices.{Place, dist}
use Rattle.unroller.proofs.items.+item_items_round_rounds_run_guard_run_loop.Given as goal

abbrev pub decreases-item : goal.decreases-item
decreases-item l = 5 * l.left + 1

abbrev pub decreases-items : goal.decreases-items
decreases-items l = 5 * l.left + 2

abbrev pub decreases-round : goal.decreases-round
decreases-round l = 5 * l.left + 3

abbrev pub decreases-rounds : goal.decreases-rounds
decreases-rounds l = 5 * l.left + 4

abbrev pub decreases-run_guard : goal.decreases-run_guard
decreases-run_guard l = 5 * l.left + 0

abbrev pub decreases-run_loop : goal.decreases-run_loop
decreases-run_loop l = 5 * l.left + 0

abbrev pub invariant-items-loop-place : goal.invariant-items-loop-place
invariant-items-loop-place loop =
    (r : Walk) (l f : List ℕ) → RunsItems loop.scope loop.place loop.left loop.progress loop.list loop.flags r l f
    → RunsItems loop.scope loop.initial.place loop.left loop.initial.progress loop.initial.list loop.initial.flags r l f

abbrev pub decreases-items-loop-place : goal.decreases-items-loop-place
decreases-items-loop-place l = length l.scope.program.now - l.place

abbrev pub invariant-rounds-loop-past : goal.invariant-rounds-loop-past
invariant-rounds-loop-past loop =
    (k : ℕ)
    × Place loop.range.first loop.range.last loop.range.step loop.index k
    × ((r : Walk) (l f : List ℕ)
    → RunsRounds loop.scope loop.at loop.range.body loop.left loop.range.step loop.range.last k loop.index loop.past loop.progress loop.list loop.flags r l f
    → RunsRounds loop.scope loop.at loop.range.body loop.left loop.range.step loop.range.last 65536 loop.range.first None loop.initial.progress loop.initial.list loop.initial.flags r l f)

abbrev pub decreases-rounds-loop-past : goal.decreases-rounds-loop-past
decreases-rounds-loop-past l = dist l.range.step l.range.last l.index
