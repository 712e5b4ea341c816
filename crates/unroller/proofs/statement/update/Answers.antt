use mathlib.Core.Path.{refl}
use Prim.Native.Nat.{◌+◌, ◌*◌}
use Rattle.unroller.proofs.CheckUpdates.{third}
use Rattle.unroller.proofs.Updating.{run_no, run_unread, run_on}
use Rattle.unroller.proofs.statement.update.Goals as goal

pub returns-in-Err : goal.returns-in-Err
returns-in-Err c =
    run_no _ _ _ _ _ _ _ (98 + 3 * (c.args.progress.now.updates + c.args.progress.now.nodes)) refl c.requires.0 c.requires.2 c.write_update.result _ c.write_update.ensures.says _ _ _ _ c.in-Err.is c.at.ensures

pub returns-then-not-all_written : goal.returns-then-not-all_written
returns-then-not-all_written c =
    run_unread _ _ _ _ _ _ _ (98 + 3 * (c.args.progress.now.updates + c.args.progress.now.nodes)) refl c.requires.0 c.requires.2 c.write_update.result _ c.write_update.ensures.says _ _ c.in-Ok.is
    (λ j e. third (98 + 3 * (c.args.progress.now.updates + c.args.progress.now.nodes) + 3) _ j e) _ c.at-then-not-all_written.ensures c.all_written.result _ _ c.all_written.ensures c.if-not-all_written.true

pub returns : goal.returns
returns c =
    run_on _ _ _ _ _ _ _ (98 + 3 * (c.args.progress.now.updates + c.args.progress.now.nodes)) refl c.requires.0 c.requires.2 c.write_update.result _ c.write_update.ensures.says _ _ c.in-Ok.is
    (λ j e. third (98 + 3 * (c.args.progress.now.updates + c.args.progress.now.nodes) + 3) _ j e) c.all_written.result _ c.all_written.ensures c.if-not-all_written.false c.spot_of.result c.spot_of.ensures c.mark.ensures _ (refl, refl, refl)
