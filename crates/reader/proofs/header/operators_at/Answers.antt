use mathlib.Core.Path.{◌∙◌}
use native.Mathlib.Omega.{arith}
use native.Mathlib.Numerals.{add-one}
use Rattle.reader.proofs.Heads.{padded_sets, row_start, row_more}
use Rattle.reader.proofs.header.operators_at.Goals as goal

pub loop-k-init : goal.loop-k-init
loop-k-init c = row_start _ _ _ _ _ _ _ (omega arith) λ l e. padded_sets 16 0 l (omega arith)

pub loop-k-preserved : goal.loop-k-preserved
loop-k-preserved c = row_more _ _ _ _ _ _ _ c.operator_byte_at.ensures c.in_ok-x.was (omega arith) (λ l. rw add-one) ∙ c.loop-k.invariant
