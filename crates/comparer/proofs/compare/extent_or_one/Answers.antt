use native.Mathlib.Omega.{arith}
use mathlib.Core.Path.{refl}
use Rattle.comparer.proofs.Sizes.{extent_or_one-free, extent_or_one_big, extent_or_one_used}
use Rattle.comparer.proofs.compare.extent_or_one.Goals as goal

pub returns-then-not-used : goal.returns-then-not-used
returns-then-not-used c = (extent_or_one-free _ _ c.if-not-used.true, omega arith)

pub returns-then-extent-gt1024 : goal.returns-then-extent-gt1024
returns-then-extent-gt1024 c = (extent_or_one_big _ _ c.if-not-used.false c.if-extent-gt1024.true, omega arith)

pub returns-else-extent-gt1024 : goal.returns-else-extent-gt1024
returns-else-extent-gt1024 c = (extent_or_one_used _ _ c.if-not-used.false c.if-extent-gt1024.false _ refl, omega arith)
