use borrow.Author.Rules.{rules}
use Rattle.unroller.proofs.Values.{handed}
use Rattle.unroller.proofs.Records.{literal_no, literal_is}
use Rattle.unroller.proofs.statement.write_literal.Goals as goal

pub returns-in_err-v : goal.returns-in_err-v
returns-in_err-v c = rw (handed c.from_residual.ensures) (literal_no _ _ _ _ _ _ _ c.value_at.result c.value_at.ensures.value _ c.in_err-v.was)

pub returns : goal.returns
returns c = literal_is _ _ _ _ _ _ _ c.value_at.result c.value_at.ensures.value c.in_ok-v.v _ c.cast_unsigned.result (search rules) c.in_ok-v.was c.cast_unsigned.ensures c.put.ensures
