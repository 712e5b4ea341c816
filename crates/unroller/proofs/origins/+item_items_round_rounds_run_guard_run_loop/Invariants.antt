use Prim.Native.Nat.{ℕ, ◌+◌, ◌-◌, ◌*◌}
use lib.ListN.{length}
use Rattle.std.specs.Prelude.{Option, None}
use Rattle.unroller.specs.Origins.{TracesItems, TracesRounds}
use Rattle.unroller.specs.declared.origins.Writer.{Writer}
use Rattle.unroller.proofs.Indices.{Place, dist}
use Rattle.unroller.proofs.origins.+item_items_round_rounds_run_guard_run_loop.Given as goal

abbrev pub decreases-item : goal.decreases-item
decreases-item l = 5 * l.left + 1

abbrev pub decreases-items : goal.decreases-items
decreases-items l = 5 * l.left + 2

abbrev pub decreases-round : goal.decreases-round
decreases-round l = 5 * l.left + 3

abbrev pub decreases-rounds : goal.decreases-rounds
decreases-rounds l = 5 * l.left + 4

abbrev pub decreases-run_guard : goal.decreases-run_guard
decreases-run_guard l = 5 * l.left + 0

abbrev pub decreases-run_loop : goal.decreases-run_loop
decreases-run_loop l = 5 * l.left + 0

abbrev pub invariant-items-loop-place : goal.invariant-items-loop-place
invariant-items-loop-place l =
    (r : Option ℕ) (w : Option Writer) → TracesItems l.scope l.place l.left l.element l.last r w → TracesItems l.scope l.initial.place l.left l.element l.initial.last r w

abbrev pub decreases-items-loop-place : goal.decreases-items-loop-place
decreases-items-loop-place l = length l.scope.program.now - l.place

abbrev pub invariant-rounds-loop-past : goal.invariant-rounds-loop-past
invariant-rounds-loop-past l =
    (k : ℕ)
    × Place l.range.first l.range.last l.range.step l.index k
    × ((r : Option ℕ) (w : Option Writer) → TracesRounds l.scope l.range.body l.left l.range.step l.range.last k l.index l.past l.element l.last r w
    → TracesRounds l.scope l.range.body l.left l.range.step l.range.last 65536 l.range.first None l.element l.initial.last r w)

abbrev pub decreases-rounds-loop-past : goal.decreases-rounds-loop-past
decreases-rounds-loop-past l = dist l.range.step l.range.last l.index
