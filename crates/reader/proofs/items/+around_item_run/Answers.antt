use native.Mathlib.Omega.{arith}
use mathlib.Core.Path.{refl, ◌∙◌}
use Prim.Native.Nat.{◌+◌, ◌-◌}
use lib.ListN.{length}
use Rattle.reader.specs.Grammar.{item_of, nested, body}
use Rattle.reader.specs.Entries.{tables_in}
use Rattle.reader.proofs.Steps.{handed, ended-got}
use Rattle.reader.proofs.Runs.{run_end, run_close, run_stop, run_step, loop_is}
use Rattle.reader.proofs.Forward.{held-got, Past, items_of-held}
use Rattle.reader.proofs.items.+around_item_run.Goals as goal

pub around-returns-in_err-next : goal.around-returns-in_err-next
around-returns-in_err-next t c =
    rw (handed c.from_residual.ensures) (rw c.in_err-next.was at (loop_is (tables_in c.args.tables.now) (length c.args.s.now) c.args.loops c.args.code c.args.at (c.args.at + 1) c.args.s.now c.args.left c.if-left-eq0.false c.if-code-eq2.true c.loop_head_end.result c.loop_head_end.ensures))

pub around-returns-in_ok-next : goal.around-returns-in_ok-next
around-returns-in_ok-next t c =
    c.run.ensures ∙ rw c.in_ok-next.was at (loop_is (tables_in c.args.tables.now) (length c.args.s.now) c.args.loops c.args.code c.args.at (c.args.at + 1) c.args.s.now c.args.left c.if-left-eq0.false c.if-code-eq2.true c.loop_head_end.result c.loop_head_end.ensures)

pub run-loop-place-init : goal.run-loop-place-init
unfolding body
run-loop-place-init t c = (length c.args.s.now, omega arith, refl)

pub run-returns-then-code-eq0 : goal.run-returns-then-code-eq0
run-returns-then-code-eq0 t c =
    run_close (item_of (tables_in c.args.tables.now) (length c.args.s.now) (nested (tables_in c.args.tables.now) (length c.args.s.now) c.args.left c.args.loops) c.args.loops) _ c.loop-place.invariant.0 _ c.loop-place-test.true c.loop-place.invariant.1 c.if-code-eq0.true ∙ c.loop-place.invariant.2

pub run-returns-in_err-place : goal.run-returns-in_err-place
run-returns-in_err-place t c =
    rw (handed c.from_residual.ensures) (run_stop (item_of (tables_in c.args.tables.now) (length c.args.s.now) (nested (tables_in c.args.tables.now) (length c.args.s.now) c.args.left c.args.loops) c.args.loops) c.args.s.now c.loop-place.place c.loop-place-test.true c.if-code-eq0.false c.item.ensures c.loop-place.invariant.0 c.loop-place.invariant.1 c.in_err-place.was ∙ c.loop-place.invariant.2)

pub run-loop-place-smaller : goal.run-loop-place-smaller
run-loop-place-smaller t c =
    omega (arith, held-got (Past c.args.s.now (c.loop-place.place + 1)) (items_of-held c.args.s.now (tables_in c.args.tables.now) (length c.args.s.now) c.args.left c.args.loops _ c.loop-place.place (c.loop-place.place + 1) (omega arith)) (ended-got _ c.item.ensures c.in_ok-place.was).1)

pub run-loop-place-preserved : goal.run-loop-place-preserved
run-loop-place-preserved t c =
    (c.loop-place.invariant.0 - 1, omega (arith, held-got (Past c.args.s.now (c.loop-place.place + 1)) (items_of-held c.args.s.now (tables_in c.args.tables.now) (length c.args.s.now) c.args.left c.args.loops _ c.loop-place.place (c.loop-place.place + 1) (omega arith)) (ended-got _ c.item.ensures c.in_ok-place.was).1, c.loop-place.invariant.1), run_step (item_of (tables_in c.args.tables.now) (length c.args.s.now) (nested (tables_in c.args.tables.now) (length c.args.s.now) c.args.left c.args.loops) c.args.loops) c.args.s.now c.loop-place.place c.loop-place-test.true c.if-code-eq0.false c.item.ensures c.loop-place.invariant.0 c.loop-place.invariant.1 c.in_ok-place.was ∙ c.loop-place.invariant.2)

pub run-returns : goal.run-returns
run-returns t c = rw c.at.ensures (run_end (item_of (tables_in c.args.tables.now) (length c.args.s.now) (nested (tables_in c.args.tables.now) (length c.args.s.now) c.args.left c.args.loops) c.args.loops) _ c.loop-place.invariant.0 _ c.loop-place-test.false ∙ c.loop-place.invariant.2)
