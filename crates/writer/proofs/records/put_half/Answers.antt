use Rattle.writer.proofs.Frames.{half_is}
use Rattle.writer.proofs.records.put_half.Goals as goal

pub returns : goal.returns
returns c = half_is _ c.args.x _ _ c.low.ensures c.low-2.ensures
