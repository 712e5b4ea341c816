use mathlib.Core.Path.{sym, ap, ◌∙◌}
use mathlib.Core.Bool.{Bool}
use Rattle.terms.specs.Stored.{sorted}
use Rattle.terms.proofs.Sorted.{sorted-plain}
use Rattle.comparer.proofs.Leaves.{kept_as}
use Rattle.comparer.proofs.evaluate.operate.Goals as goal

pub returns-then-swaps : goal.returns-then-swaps
returns-then-swaps c = kept_as _ _ _ _ _ _ _ _ (c.in_order.ensures ∙ ap (λ (b : Bool). sorted b c.args.ids) (sym (sym c.swaps.ensures ∙ c.if-swaps.true))) c.put.ensures

pub returns : goal.returns
returns c = kept_as _ _ _ _ _ _ _ _ (sorted-plain _ _ (sym c.swaps.ensures ∙ c.if-swaps.false)) c.put-2.ensures
