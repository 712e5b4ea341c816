use Rattle.std.proofs.Common.{rules}
use Rattle.unroller.proofs.Values.{handed, value-refused, value_formed}
use Rattle.unroller.proofs.walk.Scope.value_at.Goals as goal

pub returns-in_err-form : goal.returns-in_err-form
returns-in_err-form c = rw (handed c.from_residual.ensures) (record { value = value-refused _ _ _ _ _ c.form_at.ensures.holds c.form_at.ensures.says _ c.in_err-form.was; bound = tt })

pub returns : goal.returns
returns c = record { value = value_formed _ _ _ _ _ c.form_at.ensures.holds c.form_at.ensures.says _ _ _ c.in_ok-form.was (search rules); bound = search rules }
