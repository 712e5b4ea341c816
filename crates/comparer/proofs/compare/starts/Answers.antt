use Rattle.comparer.proofs.Agreeing.{starts_or}
use Rattle.comparer.proofs.compare.starts.Goals as goal

pub returns : goal.returns
returns c = rw c.unwrap_or.ensures (starts_or _ _ _ _ _ c.is_start.ensures)
