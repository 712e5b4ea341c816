use native.Mathlib.Omega.{arith}
use Rattle.unroller.proofs.Values.{handed}
use Rattle.unroller.proofs.Records.{constant_no, constant_is}
use Rattle.unroller.proofs.statement.write_constant.Goals as goal

pub returns-in_err-name : goal.returns-in_err-name
returns-in_err-name c = rw (handed c.from_residual.ensures) (constant_no _ _ _ _ _ c.name_at.result c.name_at.ensures _ c.in_err-name.was)

pub returns : goal.returns
returns c = constant_is _ _ _ _ _ c.name_at.result c.name_at.ensures (λ i. omega (arith, c.type_inv.program i)) _ _ c.word.result c.in_ok-name.was c.word.ensures c.put.ensures
