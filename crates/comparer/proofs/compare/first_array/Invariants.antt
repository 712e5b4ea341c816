use Prim.Native.Nat.{◌*◌, ◌≤◌}
use Rattle.comparer.specs.declared.reply.Reply.{Reply}
use Rattle.comparer.specs.Comparing.{FirstArray}
use Rattle.comparer.proofs.compare.first_array.Given as goal

abbrev pub invariant-loop-a : goal.invariant-loop-a
invariant-loop-a l =
    (l.sum ≤ 1073741824 * l.a)
    × ((x : Reply) → FirstArray l.list l.mask l.lefts l.rights l.left l.right l.terms l.a l.sum x → FirstArray l.list l.mask l.lefts l.rights l.left l.right l.terms 0 0 x)
