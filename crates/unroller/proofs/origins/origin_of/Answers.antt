use Rattle.unroller.proofs.Values.{handed}
use Rattle.unroller.proofs.LastWriters.{origin-refused, origin-updates}
use Rattle.unroller.proofs.origins.origin_of.Goals as goal

pub returns-in_err-unroll : goal.returns-in_err-unroll
returns-in_err-unroll c =
    let p = origin-refused _ c.args.array c.args.cell _ _ _ c.unroll.ensures.reply c.unroll.ensures.leaves _ c.in_err-unroll.was in
    rw (handed c.from_residual.ensures) (record { reply = p.0; leaves = p.1 })

pub returns : goal.returns
returns c = let p = origin-updates _ _ _ _ _ _ c.unroll.ensures.reply c.unroll.ensures.leaves _ c.in_ok-unroll.was c.unroll.auto.list _ c.clear.ensures _ c.last_writer.ensures in record { reply = p.0; leaves = p.1 }
