use mathlib.Core.List.{List, [], ◌∷◌}
use Prim.Native.Nat.{ℕ, ◌+◌, ◌*◌, ◌≤◌}
use lib.ListN.{replicate}
use Rattle.comparer.specs.Work.{WorksAll}
use Rattle.comparer.proofs.evaluate.+args_node.Given as goal

abbrev pub decreases-args : goal.decreases-args
decreases-args l = 2 * l.left + 1

abbrev pub decreases-node : goal.decreases-node
decreases-node l = 2 * l.left

-- an answer for the arguments from k on is one for all
abbrev pub invariant-args-loop-k : goal.invariant-args-loop-k
invariant-args-loop-k l =
    (l.count ≤ 4096)
    × ((at' count' : ℕ) (ids' cells' m' : List ℕ) → WorksAll l.bases l.list l.left l.at l.cells l.terms l.count l.k l.n (l.a0 ∷ l.a1 ∷ l.a2 ∷ l.a3 ∷ []) at' count' ids' cells' m' → WorksAll l.bases l.list l.left l.initial.at l.initial.cells l.initial.terms l.initial.count 0 l.n (replicate 4 0) at' count' ids' cells' m')
