use Prim.Native.Nat.{ℕ}
use lib.Dec.{eqb}
use Rattle.comparer.specs.Comparing.{FirstCell}
use Rattle.comparer.proofs.compare.first_cell.Given as goal

abbrev pub invariant-loop-c : goal.invariant-loop-c
invariant-loop-c l =
    (d : ℕ) → FirstCell l.left l.right l.terms (eqb l.role 2) l.p l.q l.array l.size l.c d → FirstCell l.left l.right l.terms (eqb l.role 2) l.p l.q l.array l.size 0 d
