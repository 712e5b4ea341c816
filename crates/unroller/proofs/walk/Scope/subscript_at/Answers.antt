use borrow.Author.Rules.{rules}
use Rattle.unroller.proofs.Values.{handed}
use Rattle.unroller.proofs.Cells.{subscript_no, subscript_is}
use Rattle.unroller.proofs.walk.Scope.subscript_at.Goals as goal

pub returns-in_err-v-clause-says : goal.returns-in_err-v-clause-says
returns-in_err-v-clause-says c = rw (handed c.from_residual.ensures) (subscript_no _ _ _ _ _ c.value_at.result _ c.value_at.ensures.value c.in_err-v.was)

pub returns-clause-says : goal.returns-clause-says
returns-clause-says c = subscript_is _ _ _ _ _ c.value_at.result _ _ _ (search rules) c.value_at.ensures.value c.in_ok-v.was c.in_extent.ensures.says
