use mathlib.Core.Path.{refl}
use Rattle.comparer.proofs.Slots.{byte_none, byte_at}
use Rattle.comparer.proofs.evaluate.byte_of.Goals as goal

pub returns-then-o-ge16 : goal.returns-then-o-ge16
returns-then-o-ge16 c = byte_none _ _ _ refl _ c.if-o-ge16.true

pub returns : goal.returns
returns c = byte_at _ _ _ refl _ refl
