use Rattle.comparer.proofs.Leaves.{leaf_read, leaf_put, kept_by}
use Rattle.comparer.proofs.evaluate.leaf.Goals as goal

pub returns-then-code-eq16 : goal.returns-then-code-eq16
returns-then-code-eq16 c = kept_by _ (λ count id r. leaf_read _ _ _ _ _ _ _ _ _ c.if-code-eq16.true _ r) c.read.ensures

pub returns : goal.returns
returns c = kept_by _ (λ count id r. leaf_put _ _ _ _ _ _ _ _ _ c.if-code-eq16.false r) c.put.ensures
