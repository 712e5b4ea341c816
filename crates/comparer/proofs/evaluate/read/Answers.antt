use native.Mathlib.Omega.{arith}
use Rattle.comparer.specs.Work.{Keeps}
use Rattle.comparer.proofs.Leaves.{read_none, read_out, read-written, read_start, read_full}
use Rattle.comparer.proofs.evaluate.read.Goals as goal

pub returns-in_err-k : goal.returns-in_err-k
unfolding Keeps
returns-in_err-k c = rw c.from_residual.ensures (read_none _ _ _ _ _ _ c.in_err-k.ensures _ _ _ _)

pub returns-then-k-cells : goal.returns-then-k-cells
unfolding Keeps
returns-then-k-cells c = read_out _ _ _ _ _ _ _ c.in_ok-k.ensures c.if-k-cells.true _ _ _ _

pub returns-then-id-ne0 : goal.returns-then-id-ne0
unfolding Keeps
returns-then-id-ne0 c = (c.requires, read-written _ _ _ _ _ _ _ c.in_ok-k.ensures c.if-id-ne0.true)

pub returns-in_err-p : goal.returns-in_err-p
unfolding Keeps
returns-in_err-p c = rw c.from_residual-in_err-p.ensures (read_full _ _ _ _ _ _ _ c.in_ok-k.ensures c.if-id-ne0.false _ _ _ (omega arith) c.in_err-p.ensures)

pub returns : goal.returns
unfolding Keeps
returns c = (c.in_ok-p.ensures.0, read_start _ _ _ _ _ _ _ c.in_ok-k.ensures c.if-id-ne0.false _ _ _ c.in_ok-p.ensures.1)
