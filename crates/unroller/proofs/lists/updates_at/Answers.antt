use native.Mathlib.Omega.{arith}
use mathlib.Core.Path.{sym}
use Prim.Native.Nat.{◌+◌, ◌-◌}
use Rattle.unroller.proofs.CheckUpdates.{going_start, going_end, going_last, going_stop, going_step, marked_length}
use Rattle.unroller.proofs.lists.updates_at.Goals as goal

pub loop-init : goal.loop-init
loop-init c = (omega arith, c.requires, going_start _ _ _)

pub returns-then-ended : goal.returns-then-ended
returns-then-ended c = going_end _ _ _ _ _ _ _ c.loop.invariant.2 (sym c.if-ended.ensures)

pub returns-in_default : goal.returns-in_default
returns-in_default c = going_stop _ _ _ _ _ _ _ c.loop.invariant.2 c.update_at.new.state (sym c.if-ended.ensures) c.in_default.ensures

pub loop-preserved : goal.loop-preserved
loop-preserved c =
    let i = c.loop.invariant in
    let u = c.in-Some.ensures in
    (u.3, marked_length _ _ _ u.5 i.1, going_step _ _ _ _ _ _ _ i.2 _ _ _ (2048 - (c.loop.counter + 1)) (sym c.if-ended.ensures) u (omega arith))

pub returns : goal.returns
returns c = going_last _ _ _ _ _ _ _ c.loop.invariant.2 (omega arith) _ c.ended-2.ensures
