use native.Mathlib.Omega.{arith}
use mathlib.Core.Path.{sym}
use Prim.Native.Nat.{◌+◌}
use lib.ListN.{get_or, drop}
use Rattle.unroller.proofs.CheckUpdates.{up-few, up-code, up-target, up-expr, up-nodes, up_all, read-tree, third}
use Rattle.model.specs.Update.{size}
use Rattle.unroller.specs.Decode.{expr}
use Rattle.unroller.specs.State.{readable_in, writable_in}
use Rattle.unroller.proofs.lists.update_at.Goals.{then-list-lt3-via-then-list-lt3, then-list-lt3-via-else-list-lt3+then-list-at, then-code-ne1-via-then-code-ne1, then-code-ne1-via-else-code-ne1+then-not-writable}
use Rattle.unroller.proofs.lists.update_at.Goals as goal

pub returns-then-list-lt3 : goal.returns-then-list-lt3
returns-then-list-lt3 c =
    let a = c.args in
    up-few a.ops.now (writable_in a.state.now) (readable_in a.state.now) a.count a.list.now a.at
    (elim c.then-list-lt3.branch [ then-list-lt3-via-then-list-lt3 w ↦ omega arith | then-list-lt3-via-else-list-lt3+then-list-at w ↦ omega arith ])

pub returns-then-code-ne1 : goal.returns-then-code-ne1
returns-then-code-ne1 c =
    let a = c.args in
    elim c.then-code-ne1.branch [
      | then-code-ne1-via-then-code-ne1 w ↦ up-code a.ops.now (writable_in a.state.now) (readable_in a.state.now) a.count a.list.now a.at (omega arith) w.if-code-ne1.true
      | then-code-ne1-via-else-code-ne1+then-not-writable w ↦
          up-target a.ops.now (writable_in a.state.now) (readable_in a.state.now) a.count a.list.now a.at (omega arith) w.if-code-ne1.false (sym w.if-not-writable.ensures)
    ]

pub returns-then-next-eq0 : goal.returns-then-next-eq0
returns-then-next-eq0 c =
    let a = c.args in
    up-expr a.ops.now (writable_in a.state.now) (readable_in a.state.now) a.count a.list.now a.at (omega arith) c.if-code-ne1.false (sym c.if-not-writable.ensures) c.node-next.result c.if-next-eq0.true c.node-next.ensures

pub returns-then-count-size : goal.returns-then-count-size
returns-then-count-size c =
    let a = c.args in
    let x = c.node-next.result in
    let q = read-tree a.list.now (a.at + 3) (expr a.ops.now (readable_in a.state.now) 12 (drop (a.at + 3) a.list.now)) x (omega arith) c.node-next.ensures in
    let d = third (a.at + 3) x (size q.0) q.2 in
    up-nodes a.ops.now (writable_in a.state.now) (readable_in a.state.now) a.count a.list.now a.at (omega arith) c.if-code-ne1.false (sym c.if-not-writable.ensures) q.0 x q.1 (omega arith)

pub returns : goal.returns
returns c =
    let a = c.args in
    let s = a.list.now in
    let x = c.node-next.result in
    let q = read-tree s (a.at + 3) (expr a.ops.now (readable_in a.state.now) 12 (drop (a.at + 3) s)) x (omega arith) c.node-next.ensures in
    let d = third (a.at + 3) x (size q.0) q.2 in
    let w = sym c.if-not-writable.ensures in
    (record { array = get_or s (a.at + 1) 0; target = get_or s (a.at + 2) 0; source = q.0 }, up_all a.ops.now (writable_in a.state.now) (readable_in a.state.now) a.count s a.at (omega arith) c.if-code-ne1.false w q.0 x q.1 (omega arith), omega arith, omega arith, w, c.mark.ensures)
