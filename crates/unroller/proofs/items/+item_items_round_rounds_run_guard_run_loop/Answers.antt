use native.Mathlib.Omega.{arith}
use mathlib.Core.Path.{refl}
use Rattle.std.proofs.Common.{rules, w16, w32, ◌-◌}
use mir.Facts.{to_z-of_z}
use Rattle.unroller.proofs.Values.{handed}
use Rattle.unroller.proofs.WalkItems.{stopped_walk, walked-on, items_out, items_end, items_step_lem, items_back, items-stop, item-statement, item-loop, item-guard, item_none, nested_none, guard-stop, guard-runs, guard_ended, loop-stop, loop-runs, rounds-found, rounds_ended, rounds-stop, rounds-step, round-full, round-runs, round_empty}
use Rattle.unroller.proofs.Turns.{turn-wide, turn_goes, turn_adds, turn_next}
use Rattle.unroller.proofs.Indices.{place_none, place-fits, place_more, indices_more, dist-falls}
use Rattle.unroller.proofs.items.+item_items_round_rounds_run_guard_run_loop.Goals as goal

pub item-returns-in-1 : goal.item-returns-in-1
item-returns-in-1 t c = rw c.in-1.is (item-statement _ _ _ _ _ _ _ _ _ c.statement.ensures)

pub item-returns-in-2 : goal.item-returns-in-2
item-returns-in-2 t c = rw c.in-2.is (item-loop _ _ _ _ _ _ _ _ _ c.run_loop.ensures)

pub item-returns-in-3 : goal.item-returns-in-3
item-returns-in-3 t c = rw c.in-3.is (item-guard _ _ _ _ _ _ _ _ _ c.run_guard.ensures)

pub item-returns-in_default : goal.item-returns-in_default
item-returns-in_default t c = item_none _ _ _ _ _ _ _ _ _ _ (λ e. omega arith) (λ e. omega arith) (λ e. omega arith)

pub items-returns-then-code-eq0 : goal.items-returns-then-code-eq0
items-returns-then-code-eq0 t c = c.loop-place.invariant _ _ _ (items_end _ _ _ _ _ _ c.if-code-eq0.true)

pub items-returns-in_err-next : goal.items-returns-in_err-next
items-returns-in_err-next t c = rw (handed c.from_residual.ensures) (c.loop-place.invariant _ _ _ (items-stop _ _ _ _ _ _ _ _ _ _ _ _ (stopped_walk _ c.in_err-next.was) c.if-code-eq0.false c.item.ensures))

pub items-returns-then-next-place : goal.items-returns-then-next-place
items-returns-then-next-place t c = c.loop-place.invariant _ _ _ (items_back _ _ _ _ _ _ _ _ _ _ _ (walked-on _ c.in_ok-next.was) c.item.ensures c.if-code-eq0.false c.if-next-place.true _ _ _)

pub items-loop-place-preserved : goal.items-loop-place-preserved
items-loop-place-preserved t c = λ r l f w. c.loop-place.invariant r l f (items_step_lem _ _ _ _ _ _ _ _ _ _ _ (walked-on _ c.in_ok-next.was) c.item.ensures c.if-code-eq0.false r l f w)

pub items-returns : goal.items-returns
items-returns t c = c.loop-place.invariant _ _ _ (items_out _ _ _ _ _ _ _ _ _ c.loop-place-test.false)

pub round-returns-then-progress-ge65536 : goal.round-returns-then-progress-ge65536
round-returns-then-progress-ge65536 t c = rw c.at.ensures (round-full _ _ _ _ _ _ _ _ _ _ (omega (arith, c.if-progress-ge65536.true)))

pub round-returns-then-scope-body-eq0 : goal.round-returns-then-scope-body-eq0
round-returns-then-scope-body-eq0 t c = round_empty _ _ _ _ _ _ _ _ _ c.if-scope-body-eq0.true (omega (arith, c.if-progress-ge65536.false)) refl refl refl

pub round-returns : goal.round-returns
round-returns t c =
    let e = rw c.inner.ensures at c.items.ensures in
    round-runs _ _ _ _ _ _ _ _ _ _ _ _ _ (to_z-of_z {w = w16} {z = c.args.index} (search rules)) (omega (arith, c.if-progress-ge65536.false)) refl refl refl e

pub rounds-loop-past-init : goal.rounds-loop-past-init
rounds-loop-past-init t c = let q = c.args.range in rw (turn-wide q.first (search rules) c.from-index.ensures) (65536, place_none q.first q.last q.step (search rules) (search rules), λ r l f w. w)

pub rounds-returns-in_err-next : goal.rounds-returns-in_err-next
rounds-returns-in_err-next t c =
    let q = c.args.range in let i = c.loop-past.invariant in let g = turn_goes q.step q.last _ c.goes_on.ensures (to_z-of_z {w = w16} (search rules)) (turn-wide q.last (search rules) c.from-end.ensures) c.loop-past-test.true in
    let e = rw (to_z-of_z {w = w16} (place-fits q.first q.last q.step (search rules) (search rules) (search rules) c.requires.1 _ _ i.1 g)) at c.round.ensures in
    rw (handed c.from_residual.ensures)
    (i.2 _ _ _ (rounds-stop _ _ _ _ _ _ _ _ _ _ _ _ _ _ (indices_more q.first q.last q.step (search rules) (search rules) (search rules) c.requires.1 _ _ i.1 g) _ _ _ _ _ _ (stopped_walk _ c.in_err-next.was) e))

pub rounds-overflow_add-index : goal.rounds-overflow_add-index
rounds-overflow_add-index t c =
    let q = c.args.range in let i = c.loop-past.invariant in let g = turn_goes q.step q.last _ c.goes_on.ensures (to_z-of_z {w = w16} (search rules)) (turn-wide q.last (search rules) c.from-end.ensures) c.loop-past-test.true in
    turn_adds q.first q.last q.step (search rules) (search rules) (search rules) c.requires.1 _ _ i.1 g (turn-wide q.step (search rules) c.from-index-in-loop-past.ensures)

pub rounds-loop-past-smaller : goal.rounds-loop-past-smaller
rounds-loop-past-smaller t c =
    let q = c.args.range in let i = c.loop-past.invariant in let g = turn_goes q.step q.last _ c.goes_on.ensures (to_z-of_z {w = w16} (search rules)) (turn-wide q.last (search rules) c.from-end.ensures) c.loop-past-test.true in
    rw (turn_next q.first q.last q.step (search rules) (search rules) (search rules) c.requires.1 _ _ i.1 g (turn-wide q.step (search rules) c.from-index-in-loop-past.ensures))
    (dist-falls q.first q.last q.step (search rules) (search rules) (search rules) c.requires.1 _ _ i.1 g)

pub rounds-loop-past-preserved : goal.rounds-loop-past-preserved
rounds-loop-past-preserved t c =
    let q = c.args.range in let i = c.loop-past.invariant in let g = turn_goes q.step q.last _ c.goes_on.ensures (to_z-of_z {w = w16} (search rules)) (turn-wide q.last (search rules) c.from-end.ensures) c.loop-past-test.true in
    let e = rw (to_z-of_z {w = w16} (place-fits q.first q.last q.step (search rules) (search rules) (search rules) c.requires.1 _ _ i.1 g)) at c.round.ensures in
    rw (turn_next q.first q.last q.step (search rules) (search rules) (search rules) c.requires.1 _ _ i.1 g (turn-wide q.step (search rules) c.from-index-in-loop-past.ensures)) (
      i.0 - 1,
      place_more q.first q.last q.step (search rules) (search rules) (search rules) c.requires.1 _ _ i.1 g,
      λ r l f w. i.2 r l f (rounds-step _ _ _ _ _ _ _ _ _ _ _ _ _ _ _ (indices_more q.first q.last q.step (search rules) (search rules) (search rules) c.requires.1 _ _ i.1 g) _ _ _ _ _ (walked-on _ c.in_ok-next.was) e r l f w),
    )

pub rounds-returns-in-Some : goal.rounds-returns-in-Some
rounds-returns-in-Some t c =
    let q = c.args.range in let i = c.loop-past.invariant in let g = turn_goes q.step q.last _ c.goes_on.ensures (to_z-of_z {w = w16} (search rules)) (turn-wide q.last (search rules) c.from-end.ensures) c.loop-past-test.false in
    i.2 _ _ _ (rounds-found _ _ _ _ _ _ _ _ _ _ _ _ _ g c.in-Some.is)

pub rounds-returns-in-None : goal.rounds-returns-in-None
rounds-returns-in-None t c =
    let q = c.args.range in let i = c.loop-past.invariant in let g = turn_goes q.step q.last _ c.goes_on.ensures (to_z-of_z {w = w16} (search rules)) (turn-wide q.last (search rules) c.from-end.ensures) c.loop-past-test.false in
    i.2 _ _ _ (rounds_ended _ _ _ _ _ _ _ _ _ _ _ _ _ c.items_end.ensures g)

pub run_guard-returns-then-left-eq0 : goal.run_guard-returns-then-left-eq0
run_guard-returns-then-left-eq0 t c = nested_none _ _ _ _ _ _ _ _ _ _ c.if-left-eq0.true

pub run_guard-returns-in_err-value : goal.run_guard-returns-in_err-value
run_guard-returns-in_err-value t c = rw (handed c.from_residual.ensures) (guard-stop _ _ (c.args.left - 1) _ _ _ _ (let n = c.if-left-eq0.false in omega arith) _ c.value_at.ensures.value _ _ _ c.in_err-value.was)

pub run_guard-returns-then-value-lt0 : goal.run_guard-returns-then-value-lt0
run_guard-returns-then-value-lt0 t c =
    let z = rw (to_z-of_z {w = w32} {z = c.in_ok-value.value} (search rules)) at c.if-value-lt0.true in
    guard_ended _ _ (c.args.left - 1) _ _ _ _ (let n = c.if-left-eq0.false in omega arith) _ c.value_at.ensures.value _ _ c.in_ok-value.was _ c.items_end.ensures z

pub run_guard-returns : goal.run_guard-returns
run_guard-returns t c =
    let z = rw (to_z-of_z {w = w32} {z = c.in_ok-value.value} (search rules)) at c.if-value-lt0.false in
    guard-runs _ _ (c.args.left - 1) _ _ _ _ (let n = c.if-left-eq0.false in omega arith) _ c.value_at.ensures.value _ _ c.in_ok-value.was _ _ _ z c.items.ensures

pub run_loop-returns-then-left-eq0 : goal.run_loop-returns-then-left-eq0
run_loop-returns-then-left-eq0 t c = nested_none _ _ _ _ _ _ _ _ _ _ c.if-left-eq0.true

pub run_loop-returns-in_err-range : goal.run_loop-returns-in_err-range
run_loop-returns-in_err-range t c = rw (handed c.from_residual.ensures) (loop-stop _ _ (c.args.left - 1) _ _ _ _ (let n = c.if-left-eq0.false in omega arith) _ c.range_at.ensures.ranges _ _ _ c.in_err-range.was)

pub run_loop-returns : goal.run_loop-returns
run_loop-returns t c = loop-runs _ _ (c.args.left - 1) _ _ _ _ (let n = c.if-left-eq0.false in omega arith) _ c.range_at.ensures.ranges _ _ _ _ c.in_ok-range.was c.rounds.ensures
