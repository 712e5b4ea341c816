use Rattle.comparer.proofs.Masks.{masks_given, masks_outs}
use Rattle.comparer.proofs.programs.mask_of.Goals as goal

pub returns-in-Some : goal.returns-in-Some
returns-in-Some c = masks_given _ _ _ c.in-Some.is

pub returns-in-None : goal.returns-in-None
returns-in-None c = masks_outs _ _ _ c.in-None.is c.out_bits.ensures
