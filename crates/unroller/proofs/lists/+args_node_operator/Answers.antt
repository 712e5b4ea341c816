use native.Mathlib.Omega.{arith}
use mathlib.Core.Path.{◌≡◌}
use Prim.Native.Nat.{◌+◌, ◌-◌}
use Rattle.unroller.specs.State.{readable_in}
use Rattle.unroller.specs.CheckAnswers.{No, answer_of}
use Rattle.unroller.proofs.CheckTrees.{node-short, node_leaf_yes, node_leaf_no, node-operator, node-operator_bad, operator_none, operator_unknown, operator_some, args_end, args-stop, args-step}
use Rattle.unroller.proofs.lists.+args_node_operator.Goals as goal

pub args-loop-init : goal.args-loop-init
args-loop-init t c =
    let e : c.args.n - 0 ≡ c.args.n = omega arith in
    (omega arith, λ r z. rw e at z)

pub args-returns-then-place-eq0 : goal.args-returns-then-place-eq0
args-returns-then-place-eq0 t c =
    let i = c.loop.invariant in
    let a = c.args in
    i.1 No (args-stop a.ops.now (readable_in a.state.now) a.list.now a.left c.loop.place (a.n - c.loop.counter) c.node-place.result (omega arith) c.node-place.ensures c.if-place-eq0.true)

pub args-loop-preserved : goal.args-loop-preserved
args-loop-preserved t c =
    let i = c.loop.invariant in
    let a = c.args in
    (omega arith, λ r z. i.1 r (args-step a.ops.now (readable_in a.state.now) a.list.now a.left c.loop.place (a.n - c.loop.counter) (a.n - (c.loop.counter + 1)) c.node-place.result (omega arith) c.node-place.ensures (omega arith) r z))

pub args-returns : goal.args-returns
args-returns t c =
    let i = c.loop.invariant in
    let a = c.args in
    i.1 (answer_of c.loop.place) (args_end a.ops.now (readable_in a.state.now) a.list.now a.left c.loop.place (a.n - c.loop.counter) i.0 (omega arith))

pub node-returns-then-list-lt3 : goal.node-returns-then-list-lt3
node-returns-then-list-lt3 t c =
    let a = c.args in
    node-short a.ops.now (readable_in a.state.now) a.list.now a.at a.left (omega arith)

pub node-returns-then-y-eq0 : goal.node-returns-then-y-eq0
node-returns-then-y-eq0 t c =
    let a = c.args in
    node-operator a.ops.now (readable_in a.state.now) a.list.now a.at a.left (omega arith) (answer_of c.operator.result) c.if-code-eq17.true c.if-y-eq0.true c.operator.ensures

pub node-returns-then-code-eq17 : goal.node-returns-then-code-eq17
node-returns-then-code-eq17 t c =
    let a = c.args in
    node-operator_bad a.ops.now (readable_in a.state.now) a.list.now a.at a.left (omega arith) c.if-code-eq17.true c.if-y-eq0.false

pub node-returns-then-leaf : goal.node-returns-then-leaf
node-returns-then-leaf t c =
    let a = c.args in
    node_leaf_yes a.ops.now (readable_in a.state.now) a.list.now a.at a.left (omega arith) c.leaf.result c.if-leaf.true c.leaf.ensures

pub node-returns : goal.node-returns
node-returns t c =
    let a = c.args in
    node_leaf_no a.ops.now (readable_in a.state.now) a.list.now a.at a.left (omega arith) c.leaf.result c.if-leaf.false c.leaf.ensures

pub operator-returns-then-left-eq0 : goal.operator-returns-then-left-eq0
operator-returns-then-left-eq0 t c =
    let a = c.args in
    operator_none a.ops.now (readable_in a.state.now) a.list.now a.at a.left a.o c.if-left-eq0.true

pub operator-returns-then-ops-k : goal.operator-returns-then-ops-k
operator-returns-then-ops-k t c =
    let a = c.args in
    operator_unknown a.ops.now (readable_in a.state.now) a.list.now a.at a.left a.o c.if-ops-k.true

pub operator-returns : goal.operator-returns
operator-returns t c =
    let a = c.args in
    operator_some a.ops.now (readable_in a.state.now) a.list.now a.at a.left (a.left - 1) a.o c.arity.result (answer_of c.args-2.result) (omega arith) c.if-ops-k.false c.arity.ensures c.args-2.ensures
