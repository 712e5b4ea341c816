use Rattle.std.proofs.lemmas.Result.{err_from_is_err_and}
use Rattle.comparer.proofs.Headers.{tables_unequal, tables_as}
use Rattle.comparer.proofs.tables.tables.Goals as goal

pub returns-in_err-arrays : goal.returns-in_err-arrays
returns-in_err-arrays c = let p = err_from_is_err_and c.from_residual.result c.from_residual.ensures.1 in rw (p.1, p.2) (tables_unequal _ _ _ c.in_err-arrays.ensures)

pub returns : goal.returns
returns c = tables_as _ _ _ (rw c.in_ok-arrays.was at c.arrays.ensures) c.operators.ensures
