use mathlib.Core.Path.{sym, ◌∙◌}
use mathlib.Core.Logic.{inl, inr}
use Rattle.comparer.proofs.Firsts.{cells_outside, cell_end, cell-stop, cell-step}
use Rattle.comparer.proofs.compare.first_cell.Goals as goal
use Rattle.comparer.proofs.compare.first_cell.Goals.{then-not-fits-via-then-not-fits, then-not-fits-via-else-not-fits+then-not-fits-2}

pub returns-then-not-fits : goal.returns-then-not-fits
returns-then-not-fits c =
    elim c.then-not-fits.branch [
      | then-not-fits-via-then-not-fits w ↦ cells_outside _ _ _ _ _ _ _ _ (inl (sym c.fits.ensures ∙ w.if-not-fits.true)) _
      | then-not-fits-via-else-not-fits+then-not-fits-2 w ↦ cells_outside _ _ _ _ _ _ _ _ (inr (sym w.fits-else-not-fits.ensures ∙ w.if-not-fits-2.true)) _
    ]

pub returns-then-not-same_value : goal.returns-then-not-same_value
returns-then-not-same_value c = c.loop-c.invariant _ (cell-stop _ _ _ _ _ _ _ _ _ c.loop-c-test.true c.same_value.result c.same_value.ensures c.if-not-same_value.true)

pub loop-c-preserved : goal.loop-c-preserved
loop-c-preserved c = λ d F. c.loop-c.invariant d (cell-step _ _ _ _ _ _ _ _ _ c.loop-c-test.true c.same_value.result c.same_value.ensures c.if-not-same_value.false d F)

pub returns : goal.returns
returns c = c.loop-c.invariant _ (cell_end _ _ _ _ _ _ _ _ _ c.loop-c-test.false)
