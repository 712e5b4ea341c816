use Rattle.unroller.proofs.HeaderWords.{rows_first, rows_again, rows-done}
use Rattle.unroller.proofs.header.put_rows.Goals as goal

pub loop-k-init : goal.loop-k-init
loop-k-init c = rows_first _ _ _ _

pub loop-k-preserved : goal.loop-k-preserved
loop-k-preserved c = rows_again _ _ _ _ _ _ _ _ _ _ _ _ c.loop-k-test.true c.from.ensures c.from-in-loop-k.ensures c.from-in-loop-k-2.ensures c.from-in-loop-k-3.ensures c.from-in-loop-k-4.ensures c.put_row.ensures c.loop-k.invariant

pub returns : goal.returns
returns c = rows-done _ _ _ _ _ _ c.loop-k-test.false c.loop-k.invariant
