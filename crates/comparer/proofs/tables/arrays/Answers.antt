use native.Mathlib.Omega.{arith}
use Rattle.comparer.proofs.Headers.{arrays-differ, arrays_agree}
use Rattle.comparer.proofs.tables.arrays.Goals as goal

pub returns-then-a-max : goal.returns-then-a-max
returns-then-a-max c = arrays-differ _ _ _ _ _ _ c.non_locals-n.ensures c.non_locals-m.ensures c.first_apart.ensures (omega arith) (omega arith)

pub returns : goal.returns
returns c = arrays_agree _ _ _ _ _ _ c.non_locals-n.ensures c.non_locals-m.ensures c.first_apart.ensures (omega arith) (omega arith)
