use Prim.Native.Nat.{◌<◌}
use lib.ListN.{drop}
use Rattle.model.specs.Tables.{array_at}
use Rattle.unroller.specs.Scopes.{bytes, tables}
use Rattle.unroller.specs.Writes.{Part, CellsFrom}
use Rattle.unroller.proofs.Cells.{most}
use Rattle.unroller.proofs.walk.Scope.cell_at.Given as goal

abbrev pub invariant-loop-k : goal.invariant-loop-k
invariant-loop-k l =
    (l.cell < most l.k) × ((r : Part) → CellsFrom (bytes l.self) l.next l.self.loops l.self.indices l.cell (drop l.k (array_at (tables l.self).arrays l.array).extents) r
    → CellsFrom (bytes l.self) l.at l.self.loops l.self.indices 0 (array_at (tables l.self).arrays l.array).extents r)
