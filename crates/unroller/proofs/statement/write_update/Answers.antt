use native.Mathlib.Omega.{arith}
use Rattle.unroller.proofs.Values.{handed}
use Rattle.unroller.proofs.Prefix.{ends_is}
use Rattle.unroller.proofs.Updating.{target_no, written_no, written_is}
use Rattle.unroller.proofs.statement.write_update.Goals as goal

pub returns-in_err-cell-clause-says : goal.returns-in_err-cell-clause-says
returns-in_err-cell-clause-says c = rw (handed c.from_residual.ensures) (target_no _ _ _ _ _ _ _ _ _ c.cell_at.result c.cell_at.ensures _ c.in_err-cell.was)

pub returns-in_err-next-clause-says : goal.returns-in_err-next-clause-says
returns-in_err-next-clause-says c =
    rw (handed c.from_residual-in_err-next.ensures)
    (written_no _ _ _ _ _ _ _ _ _ c.cell_at.result c.cell_at.ensures _ _ c.word.result c.word-2.result c.in_ok-cell.was c.word.ensures c.word-2.ensures _ c.put.ensures c.write_nodes.result c.write_nodes.ensures.says _ c.in_err-next.was)

pub returns : goal.returns
returns c =
    let q = ends_is _ _ c.write_nodes.result _ _ c.write_nodes.ensures.ends c.in_ok-next.was in
    let n = c.put.auto.list in
    record {
      says = written_is _ _ _ _ _ _ _ _ _ c.cell_at.result c.cell_at.ensures _ _ c.word.result c.word-2.result c.in_ok-cell.was c.word.ensures c.word-2.ensures _ c.put.ensures c.write_nodes.result c.write_nodes.ensures.says _ _ c.in_ok-next.was;
      within = (omega arith, omega arith);
    }
