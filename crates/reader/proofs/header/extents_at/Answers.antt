use mathlib.Core.Path.{◌∙◌}
use Prim.Native.Nat.{◌+◌}
use native.Mathlib.Omega.{arith}
use native.Mathlib.Numerals.{add-one}
use native.Mathlib.Nat.{mul_assoc, one-mul}
use Rattle.reader.proofs.Heads.{padded_sets, row_start, row_more, size_more, size_below}
use Rattle.reader.proofs.header.extents_at.Goals as goal

pub loop-k-init : goal.loop-k-init
loop-k-init c = record {
  says = row_start _ _ _ _ _ _ _ (omega arith) λ l e. rw (padded_sets 3 0 l (omega arith), one-mul);
  most = omega arith;
}

pub overflow_mul-size : goal.overflow_mul-size
overflow_mul-size c = omega (arith, size_below (c.loop-k.k + 1) _ (omega arith) (size_more _ _ c.from-size.result c.loop-k.invariant.most (omega (arith, c.in_ok-x.ensures.most))))

pub loop-k-preserved : goal.loop-k-preserved
loop-k-preserved c = record {
  says = row_more _ _ _ _ _ _ _ c.extent_at.ensures.says c.in_ok-x.was (omega arith) (λ l. rw (add-one, c.from-size.ensures, mul_assoc)) ∙ c.loop-k.invariant.says;
  most = size_more _ _ _ c.loop-k.invariant.most (omega (arith, c.in_ok-x.ensures.most));
}

pub returns-clause-most : goal.returns-clause-most
returns-clause-most c = size_below _ _ (omega arith) c.loop-k.invariant.most
