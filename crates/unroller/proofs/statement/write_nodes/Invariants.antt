use Prim.Native.Nat.{ℕ, ◌+◌, ◌-◌, ◌≤◌}
use mathlib.Core.List.{List}
use lib.ListN.{length}
use Rattle.unroller.specs.Scopes.{bytes, tables}
use Rattle.unroller.specs.Writes.{Part, WritesNode, WritesRest}
use Rattle.unroller.proofs.statement.write_nodes.Given as goal

abbrev pub invariant-loop-more : goal.invariant-loop-more
invariant-loop-more loop =
    (loop.to ≤ loop.end) × (loop.end ≤ length loop.initial.list) × (loop.more + loop.to ≤ loop.end + 1)
    × ((r : Part) (l : List ℕ) → WritesRest (bytes loop.scope) (tables loop.scope) loop.scope.loops loop.scope.indices loop.place loop.more loop.list loop.end r l
    → WritesNode (bytes loop.scope) loop.at (tables loop.scope) loop.scope.loops loop.scope.indices 12 loop.initial.list loop.to r l)

abbrev pub decreases-loop-more : goal.decreases-loop-more
decreases-loop-more l = length l.initial.list - l.end
