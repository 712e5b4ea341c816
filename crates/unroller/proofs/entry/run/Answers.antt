use native.Mathlib.Omega.{arith}
use Rattle.unroller.proofs.Values.{handed}
use Rattle.unroller.proofs.WalkItems.{stopped_walk, walked-on}
use Rattle.unroller.proofs.UnrollRun.{unstarted, run-not, run_on, run_no}
use Rattle.unroller.proofs.entry.run.Goals as goal

pub returns-in_err-tables : goal.returns-in_err-tables
returns-in_err-tables c = rw (handed c.from_residual.ensures) (run-not c.args.program _ _ c.tables_of.ensures.says c.tables_of.ensures.holds _ c.in_err-tables.was _)

pub returns-in-Ok : goal.returns-in-Ok
returns-in-Ok c =
    let e = rw (unstarted c.default-progress.ensures) at c.items.ensures in
    run_on c.args.program _ _ c.tables_of.ensures.says c.tables_of.ensures.holds _ _ c.in_ok-tables.was _ c.flat.ensures.numbers c.flat.ensures.small c.requires _ _ _ c.header.ensures (let h = c.header.auto.list in let k = c.items.auto.list in omega arith) _ e _ _ (walked-on _ c.in-Ok.is)

pub returns-in-Err : goal.returns-in-Err
returns-in-Err c =
    let e = rw (unstarted c.default-progress.ensures) at c.items.ensures in
    run_no c.args.program _ _ c.tables_of.ensures.says c.tables_of.ensures.holds _ _ c.in_ok-tables.was _ c.flat.ensures.numbers c.flat.ensures.small c.requires _ _ _ c.header.ensures (let h = c.header.auto.list in let k = c.items.auto.list in omega arith) _ e _ (stopped_walk _ c.in-Err.is) _ c.clear.ensures
