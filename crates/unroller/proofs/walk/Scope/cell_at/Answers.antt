use native.Mathlib.Omega.{arith}
use Rattle.model.specs.Tables.{array_at}
use Rattle.reader.proofs.Flattened.{dimensions-three}
use Rattle.unroller.specs.Scopes.{tables}
use Rattle.unroller.specs.Writes.{CellOf}
use Rattle.unroller.proofs.Values.{handed}
use Rattle.unroller.proofs.Cells.{loop_no, loop_is, loop_end, below_is, grows_to, cell-fits}
use Rattle.unroller.proofs.walk.Scope.cell_at.Goals as goal

pub returns-then-array_count-array : goal.returns-then-array_count-array
unfolding CellOf
returns-then-array_count-array c d = absurd (omega (arith, d, c.array_count.ensures, c.if-array_count-array.true))

pub loop-k-init : goal.loop-k-init
loop-k-init c = (omega arith, λ r z. z)

pub returns-in_err-v : goal.returns-in_err-v
unfolding CellOf
returns-in_err-v c d =
    let a = c.args in
    let l = c.loop-k in
    rw (handed c.from_residual.ensures)
    (l.invariant.1 _ (loop_no _ _ _ (array_at (tables a.self.now).arrays a.array).extents l.k (omega arith) l.next l.cell c.extent_of-extent.result _ c.subscript_at.result c.extent_of-extent.ensures.0 c.subscript_at.ensures.says c.in_err-v.was))

pub overflow_mul-cell : goal.overflow_mul-cell
overflow_mul-cell c =
    let a = c.args in
    let l = c.loop-k in
    let d = dimensions-three a.self.now.tables.now a.array in
    let b = below_is _ _ _ c.subscript_at.result c.subscript_at.ensures.below c.in_ok-v.was in
    let f = cell-fits l.k l.cell c.extent_of-extent.result c.in_ok-v.v (omega arith) l.invariant.0 c.extent_of-extent.ensures.1 b in
    omega arith

pub overflow_add-cell : goal.overflow_add-cell
overflow_add-cell c =
    let a = c.args in
    let l = c.loop-k in
    let d = dimensions-three a.self.now.tables.now a.array in
    let b = below_is _ _ _ c.subscript_at.result c.subscript_at.ensures.below c.in_ok-v.was in
    let f = cell-fits l.k l.cell c.extent_of-extent.result c.in_ok-v.v (omega arith) l.invariant.0 c.extent_of-extent.ensures.1 b in
    omega arith

pub loop-k-preserved : goal.loop-k-preserved
loop-k-preserved c =
    let a = c.args in
    let l = c.loop-k in
    let b = below_is _ _ _ c.subscript_at.result c.subscript_at.ensures.below c.in_ok-v.was in (
      grows_to l.k l.cell c.extent_of-extent.result c.in_ok-v.v _ l.invariant.0 c.extent_of-extent.ensures.1 b (omega arith),
      λ r z. l.invariant.1 r (loop_is _ _ _ (array_at (tables a.self.now).arrays a.array).extents l.k (omega arith) l.next l.cell c.extent_of-extent.result _ _ _ c.subscript_at.result r c.extent_of-extent.ensures.0 c.subscript_at.ensures.says c.in_ok-v.was z (omega arith)),
    )

pub returns : goal.returns
unfolding CellOf
returns c d =
    let a = c.args in
    let l = c.loop-k in
    l.invariant.1 _ (loop_end _ _ _ (array_at (tables a.self.now).arrays a.array).extents l.k l.next l.cell (omega arith))
