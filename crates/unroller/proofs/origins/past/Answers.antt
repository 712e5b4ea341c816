use mathlib.Core.Path.{sym, ◌∙◌}
use Rattle.unroller.proofs.Traces.{past_not, past_is}
use Rattle.unroller.proofs.origins.past.Goals as goal

pub returns-in_err-next : goal.returns-in_err-next
returns-in_err-next c = past_not _ _ _ _ _ c.expression_end.ensures _ _ _ (sym c.ok.ensures.value ∙ c.in_err-next.was)

pub returns-then-hit : goal.returns-then-hit
returns-then-hit c = past_is _ _ _ _ _ c.expression_end.ensures _ _ _ (sym c.ok.ensures.value ∙ c.in_ok-next.was) _ (rw c.if-hit.true)

pub returns-else-hit : goal.returns-else-hit
returns-else-hit c = past_is _ _ _ _ _ c.expression_end.ensures _ _ _ (sym c.ok.ensures.value ∙ c.in_ok-next.was) _ (rw c.if-hit.false)
