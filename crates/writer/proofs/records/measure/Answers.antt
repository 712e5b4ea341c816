use native.Mathlib.Omega.{arith}
use mathlib.Core.Path.{sym, ◌∙◌}
use Rattle.writer.proofs.Measuring.{counting_start, counting_known, counting_step, counting_wide, counting_stop, counting_end, record-short, begins_one}
use Rattle.writer.proofs.records.measure.Goals as goal

pub loop-at-init : goal.loop-at-init
loop-at-init c = (c.requires, counting_start c.args.list.now c.requires)

pub returns-then-is_wide : goal.returns-then-is_wide
returns-then-is_wide c =
    let l = c.loop-at in
    counting_wide c.args.list.now l.invariant.0 l.at l.records l.updates l.bytes l.invariant.1 (λ e. let h = c.if-list-at-ne0.true in omega arith) (sym c.is_wide.ensures ∙ c.if-is_wide.true)

pub loop-at-preserved : goal.loop-at-preserved
loop-at-preserved c =
    let l = c.loop-at in
    (l.invariant.0, counting_step c.args.list.now l.invariant.0 l.at l.records l.updates l.bytes l.invariant.1 c.begin-updates.result c.size_of-bytes.result (λ e. let h = c.if-list-at-ne0.true in omega arith) (sym c.is_wide.ensures ∙ c.if-is_wide.false) c.begin-updates.ensures c.size_of-bytes.ensures)

pub returns-else-list-at-ne0 : goal.returns-else-list-at-ne0
returns-else-list-at-ne0 c =
    let l = c.loop-at in
    counting_stop c.args.list.now l.invariant.0 l.at l.records l.updates l.bytes l.invariant.1 (omega (arith, c.if-list-at-ne0.false))

pub returns-after-loop-at : goal.returns-after-loop-at
returns-after-loop-at c =
    let l = c.loop-at in
    counting_end c.args.list.now l.invariant.0 l.at l.records l.updates l.bytes l.invariant.1 (omega arith)

pub overflow_add-updates : goal.overflow_add-updates
overflow_add-updates c =
    let l = c.loop-at in
    let f = l.invariant.1.goes.few in
    let b = begins_one c.args.list.now l.at in
    omega arith

pub overflow_add-bytes : goal.overflow_add-bytes
overflow_add-bytes c =
    let l = c.loop-at in
    let k = counting_known c.args.list.now l.invariant.0 l.at l.records l.updates l.bytes l.invariant.1 (λ e. let h = c.if-list-at-ne0.true in omega arith) in
    let f = l.invariant.1.goes.small in
    let b = record-short c.args.list.now l.at k in
    omega arith
