use native.Mathlib.Omega.{arith}
use borrow.Author.Tests.{eq-eqb, ne_eqb}
use Rattle.unroller.proofs.Values.{handed}
use Rattle.unroller.proofs.Prefix.{record-short, record_no, record-operator, record_leaf_no, record_leaf}
use Rattle.unroller.proofs.statement.write_record.Goals.{then-list-lt3-via-then-list-lt3, then-list-lt3-via-else-list-lt3+then-list-to}
use Rattle.unroller.proofs.statement.write_record.Goals as goal

pub returns-then-list-lt3-clause-says : goal.returns-then-list-lt3-clause-says
returns-then-list-lt3-clause-says c =
    record-short _ _ _ _ _ _ _ _ _
    (elim c.then-list-lt3.branch [ then-list-lt3-via-then-list-lt3 w ↦ omega arith | then-list-lt3-via-else-list-lt3+then-list-to w ↦ omega arith ])

pub returns-in_err-code-clause-says : goal.returns-in_err-code-clause-says
returns-in_err-code-clause-says c = rw (handed c.from_residual.ensures) (record_no _ _ _ _ _ _ _ _ c.byte_at.result c.byte_at.ensures _ c.in_err-code.was)

pub returns-then-code-eq17-clause-says : goal.returns-then-code-eq17-clause-says
returns-then-code-eq17-clause-says c = record-operator _ _ _ _ _ _ _ _ c.byte_at.result c.byte_at.ensures _ _ c.in_ok-code.was _ (eq-eqb _ _ c.if-code-eq17.true) c.write_operator.ensures.says

pub returns-in_err-past-clause-says : goal.returns-in_err-past-clause-says
returns-in_err-past-clause-says c =
    rw (handed c.from_residual-in_err-past.ensures)
    (record_leaf_no _ _ _ _ _ _ _ _ c.byte_at.result c.byte_at.ensures _ _ c.in_ok-code.was (ne_eqb _ _ c.if-code-eq17.false) c.write_leaf.result c.write_leaf.ensures _ c.in_err-past.was)

pub returns-clause-says : goal.returns-clause-says
returns-clause-says c =
    record_leaf _ _ _ _ _ _ _ _ c.byte_at.result c.byte_at.ensures _ _ c.in_ok-code.was (ne_eqb _ _ c.if-code-eq17.false) c.write_leaf.result c.write_leaf.ensures _ _ c.in_ok-past.was
