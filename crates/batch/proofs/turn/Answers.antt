use Rattle.std.proofs.Common.{sym}
use Rattle.comparer.proofs.Batches.{sizes-small}
use Rattle.batch.proofs.turn.Goals as goal

pub behind-requires : goal.behind-requires
behind-requires g c = let h = sizes-small _ _ _ (sym (rw c.in-Ok-Some.field-0-is at c.in-Ok-Some.ensures)) in (h.0, h.1)
