use mathlib.Core.Path.{refl}
use Rattle.cabi.proofs.refusal.Goals as goal

pub returns : goal.returns
returns c = rw c.side_number.ensures refl
