use native.Mathlib.Omega.{arith}
use Rattle.unroller.proofs.CheckCells.{writable_known}
use Rattle.unroller.proofs.lists.mark.Goals as goal

pub bounds-state-x : goal.bounds-state-x
bounds-state-x c = let k = writable_known _ _ _ c.requires.y_value in omega arith
