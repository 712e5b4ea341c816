use Rattle.unroller.proofs.CheckArrays.{three_fit}
use Rattle.comparer.proofs.Sizes.{size_is}
use Rattle.comparer.proofs.compare.size_of.Goals as goal

pub returns : goal.returns
returns c = (size_is _ _ _ _ _ c.extent_or_one-x.ensures.0 c.extent_or_one-y.ensures.0 c.extent_or_one-z.ensures.0, three_fit _ _ _ c.extent_or_one-x.ensures.1 c.extent_or_one-y.ensures.1 c.extent_or_one-z.ensures.1)
