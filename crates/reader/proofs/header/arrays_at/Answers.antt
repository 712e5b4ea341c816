use mathlib.Core.Path.{refl, ◌∙◌}
use native.Mathlib.Omega.{arith}
use Rattle.reader.specs.Parts.{array_in}
use Rattle.reader.proofs.Steps.{made-got}
use Rattle.reader.proofs.Heads.{arrays_more}
use Rattle.reader.proofs.header.arrays_at.Goals as goal

pub loop-k-preserved : goal.loop-k-preserved
loop-k-preserved c = let g = made-got array_in _ c.array_at.ensures.says c.in_ok-x.was in record {
  says = arrays_more _ _ _ _ _ _ _ _ _ _ g.0 g.1 g.2 (omega arith) c.put_array.ensures refl ∙ c.loop-k.invariant.says;
  most = omega (arith, c.in_ok-x.ensures.most);
}
