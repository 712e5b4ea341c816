use Rattle.std.proofs.Common.{rules}
use mathlib.Core.Path.{sym, ◌∙◌}
use Rattle.unroller.proofs.Traces.{no_array, no_cell, statement-ends}
use Rattle.unroller.proofs.origins.statement.Goals as goal

pub returns-in_err-array : goal.returns-in_err-array
returns-in_err-array c = no_array _ _ _ _ _ c.array_count.ensures _ c.index_at.ensures _ _ (sym c.ok.ensures.value ∙ c.in_err-array.was)

pub returns-in_err-cell : goal.returns-in_err-cell
returns-in_err-cell c = no_cell _ _ _ _ _ c.array_count.ensures _ c.index_at.ensures _ _ _ _ (sym c.ok.ensures.value ∙ c.in_ok-array.was) _ c.cell_at.ensures (sym c.ok-2.ensures.value ∙ c.in_err-cell.was)

pub returns : goal.returns
returns c = statement-ends _ _ _ _ _ c.array_count.ensures _ c.index_at.ensures _ _ _ _ (sym c.ok.ensures.value ∙ c.in_ok-array.was) _ c.cell_at.ensures _ _ (sym c.ok-2.ensures.value ∙ c.in_ok-cell.was) _ (search rules) c.past.ensures
