use Rattle.std.proofs.Common.{rules, w16, w32}
use mir.Facts.{to_z-of_z}
use mathlib.Core.Path.{sym, ◌∙◌}
use Rattle.unroller.proofs.Values.{handed}
use Rattle.unroller.proofs.Ranges.{steps_move, range-first, range-last, range_over, ranges_first, ranges_last, ranges_step, ranges_read}
use Rattle.unroller.proofs.walk.Scope.range_at.Goals as goal

pub returns-in_err-first-clause-ranges : goal.returns-in_err-first-clause-ranges
returns-in_err-first-clause-ranges c = rw (handed c.from_residual.ensures) (ranges_first _ _ _ c.value_at.ensures.value c.in_err-first.was)

pub returns-in_err-last-clause-ranges : goal.returns-in_err-last-clause-ranges
returns-in_err-last-clause-ranges c = rw (handed c.from_residual-in_err-last.ensures) (ranges_last _ _ _ c.value_at.ensures.value c.in_ok-first.was _ c.value_at-2.ensures.value c.in_err-last.was)

pub returns-in_err-step-clause-ranges : goal.returns-in_err-step-clause-ranges
returns-in_err-step-clause-ranges c =
    rw (handed c.from_residual-in_err-step.ensures) (ranges_step _ _ _ c.value_at.ensures.value c.in_ok-first.was _ c.value_at-2.ensures.value c.in_ok-last.was _ c.step_at.ensures c.in_err-step.was)

pub returns-in_err-short-clause-ranges : goal.returns-in_err-short-clause-ranges
returns-in_err-short-clause-ranges c =
    rw (handed c.from_residual-in_err-short.ensures)
    (ranges_read _ _ _ c.value_at.ensures.value c.in_ok-first.was _ c.value_at-2.ensures.value c.in_ok-last.was _ c.step_at.ensures c.in_ok-step.was _
    (range-first _ _ _ _ _ c.short.ensures (to_z-of_z {w = w32} (search rules)) c.in_err-short.was))

pub returns-in_err-short-2-clause-ranges : goal.returns-in_err-short-2-clause-ranges
returns-in_err-short-2-clause-ranges c =
    rw (handed c.from_residual-in_err-short-2.ensures)
    (ranges_read _ _ _ c.value_at.ensures.value c.in_ok-first.was _ c.value_at-2.ensures.value c.in_ok-last.was _ c.step_at.ensures c.in_ok-step.was _
    (range-last _ _ _ _ _ _ _ c.short.ensures (to_z-of_z {w = w32} (search rules)) c.in_ok-short.was c.short-2.ensures (to_z-of_z {w = w32} (search rules)) c.in_err-short-2.was))

pub returns-clause-ranges : goal.returns-clause-ranges
returns-clause-ranges c =
    ranges_read _ _ _ c.value_at.ensures.value c.in_ok-first.was _ c.value_at-2.ensures.value c.in_ok-last.was _ c.step_at.ensures c.in_ok-step.was _
    (range_over _ _ _ _ _ _ _ c.short.ensures (to_z-of_z {w = w32} (search rules)) c.in_ok-short.was (to_z-of_z {w = w16} (search rules)) c.short-2.ensures (to_z-of_z {w = w32} (search rules)) c.in_ok-short-2.was (to_z-of_z {w = w16} (search rules)) (to_z-of_z {w = w16} (search rules)))

pub returns-clause-moves : goal.returns-clause-moves
returns-clause-moves c = λ e. steps_move _ _ _ c.step_at.ensures c.in_ok-step.was (sym (to_z-of_z {w = w16} (search rules)) ∙ e)
