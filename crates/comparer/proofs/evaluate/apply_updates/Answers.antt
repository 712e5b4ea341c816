use native.Mathlib.Omega.{arith}
use Rattle.comparer.specs.Work.{Counts, Steps}
use Rattle.comparer.proofs.Updates.{upd_end, upd_none, upd_full, upd_stuck, upd_wild, upd_step}
use Rattle.comparer.proofs.evaluate.apply_updates.Goals as goal
use Rattle.comparer.proofs.evaluate.apply_updates.Goals.{then-k-cells-via-then-k-cells, then-k-cells-via-else-k-cells+then-s-at}

pub loop-at-init : goal.loop-at-init
loop-at-init c = (c.requires.1, λ r cells' m' A. A)

pub returns-then-list-at-ne1 : goal.returns-then-list-at-ne1
unfolding Counts
returns-then-list-at-ne1 c = (c.loop-at.invariant.0, c.loop-at.invariant.1 _ _ _ (upd_end _ _ _ _ _ _ (λ l e. c.if-list-at-ne1.true e)))

pub returns-in_err-k : goal.returns-in_err-k
unfolding Counts
returns-in_err-k c =
    rw c.from_residual.ensures (c.loop-at.invariant.1 _ _ _ (upd_none _ _ _ _ _ _ (omega arith) c.if-list-at-ne1.false c.in_err-k.ensures _ _ _))

pub node-requires : goal.node-requires
node-requires c = (c.requires.0, c.loop-at.invariant.0)

pub returns-in_err-s : goal.returns-in_err-s
unfolding Counts Steps
returns-in_err-s c =
    rw c.from_residual-in_err-s.ensures (c.loop-at.invariant.1 _ _ _ (upd_full _ _ _ _ _ _ (omega arith) c.if-list-at-ne1.false _ _ _ _ _ (c.in_err-s.ensures 0) (omega arith) _))

pub returns-then-k-cells : goal.returns-then-k-cells
unfolding Counts Steps
returns-then-k-cells c =
    let s = c.in_ok-s.ensures in
    c.loop-at.invariant.1 _ _ _
    (elim c.then-k-cells.branch [
      | then-k-cells-via-then-k-cells w ↦ upd_wild _ _ _ _ _ _ (omega arith) c.if-list-at-ne1.false _ _ _ _ _ s.1 _ c.in_ok-k.ensures s.0 w.if-k-cells.true _ _ _
      | then-k-cells-via-else-k-cells+then-s-at w ↦ upd_stuck _ _ _ _ _ _ (omega arith) c.if-list-at-ne1.false _ _ _ _ _ s.1 s.0 w.if-s-at.true _ _ _
    ])

pub loop-at-preserved : goal.loop-at-preserved
unfolding Steps
loop-at-preserved c =
    let s = c.in_ok-s.ensures in
    (s.0, λ r cells' m' A. c.loop-at.invariant.1 r cells' m' (upd_step _ _ _ _ _ _ (omega arith) c.if-list-at-ne1.false _ _ _ _ _ s.1 _ c.in_ok-k.ensures s.0 r cells' m' A))

pub returns : goal.returns
unfolding Counts
returns c = (c.loop-at.invariant.0, c.loop-at.invariant.1 _ _ _ (upd_end _ _ _ _ _ _ (λ l e. omega arith)))
