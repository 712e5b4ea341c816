use mathlib.Core.List.{[]}
use borrow.Author.Rules.{rules}
use native.Mathlib.Omega.{arith}
use Rattle.comparer.specs.Work.{Keeps, Steps}
use Rattle.comparer.proofs.Leaves.{node_leaf, works_over}
use Rattle.comparer.proofs.Arguments.{node-short, node_deep, node-full, node_put, all_none, all_full, all_picked, four_picked}
use Rattle.comparer.proofs.evaluate.+args_node.Goals as goal

pub args-loop-k-init : goal.args-loop-k-init
args-loop-k-init t c = (c.requires.1, λ at count ids cells m w. w)

pub args-node-requires : goal.args-node-requires
args-node-requires t c = (omega arith, (c.requires.0, c.loop-k.invariant.0))

pub args-returns-in_err-s : goal.args-returns-in_err-s
unfolding Steps
args-returns-in_err-s t c =
    rw c.from_residual.ensures λ id. (c.loop-k.invariant.1 _ _ _ _ _ (all_full _ _ _ _ _ _ _ _ _ _ c.loop-k-test.true _ _ _ _ _ (c.in_err-s.ensures 0) (omega arith) _ _))

pub args-loop-k-preserved : goal.args-loop-k-preserved
unfolding Steps
args-loop-k-preserved t c =
    let l = c.loop-k in
    let s = c.in_ok-s.ensures in (
      s.0,
      λ at count ids cells m w. l.invariant.1 at count ids cells m
          (all_picked _ _ _ _ _ _ _ _ _ _ c.loop-k-test.true _ _ _ _ _ s.1 s.0 c.requires.2 _
          (λ _. four_picked l.a0 l.a1 l.a2 l.a3 l.k c.in_ok-s.s.id _ _ _ _ c.pick-a0.ensures c.pick-a1.ensures c.pick-a2.ensures c.pick-a3.ensures) at count ids cells m w),
    )

pub args-returns : goal.args-returns
unfolding Steps
args-returns t c = (c.loop-k.invariant.0, c.loop-k.invariant.1 _ _ _ _ _ (all_none _ _ _ _ _ _ _ _ _ _ c.loop-k-test.false))

pub node-returns-then-list-at : goal.node-returns-then-list-at
unfolding Steps
node-returns-then-list-at t c = λ id. node-short _ _ _ _ _ _ _ (omega arith) _ _ _ _ _

pub node-returns-in_err-kept : goal.node-returns-in_err-kept
unfolding Keeps Steps
node-returns-in_err-kept t c =
    rw c.from_residual.ensures λ id. (works_over _ _ _ _ _ _ _ _ _ _ _ _ _ _ _ (omega arith) (node_leaf _ _ _ _ _ _ _ _ _ _ _ _ c.if-list-at-ne17.true c.in_err-kept.ensures))

pub node-returns-then-list-at-ne17 : goal.node-returns-then-list-at-ne17
unfolding Keeps Steps
node-returns-then-list-at-ne17 t c = (c.in_ok-kept.ensures.0, node_leaf _ _ _ _ _ _ _ _ _ _ _ _ c.if-list-at-ne17.true c.in_ok-kept.ensures.1)

pub node-returns-then-left-eq0 : goal.node-returns-then-left-eq0
unfolding Steps
node-returns-then-left-eq0 t c = λ id. node_deep _ _ _ _ _ _ _ c.if-list-at-ne17.false c.if-left-eq0.true _ _ _ _ _

pub node-args-requires : goal.node-args-requires
node-args-requires t c = (omega arith, search rules)

pub node-returns-in_err-row : goal.node-returns-in_err-row
unfolding Steps
node-returns-in_err-row t c =
    rw c.from_residual-in_err-row.ensures λ id. (node-full _ _ _ _ _ _ _ c.if-list-at-ne17.false _ c.byte_of-byte.ensures _ c.arity-n.ensures _ _ _ _ _ (c.in_err-row.ensures []) (omega arith) _ _ _ _ _ (omega arith))

pub node-returns-in_err-whole : goal.node-returns-in_err-whole
unfolding Keeps Steps
node-returns-in_err-whole t c =
    let r = c.in_ok-row.ensures in
    rw c.from_residual-in_err-whole.ensures λ id.
    (works_over _ _ _ _ _ _ _ _ _ _ _ _ _ _ _ (omega arith)
    (node_put _ _ _ _ _ _ _ c.if-list-at-ne17.false _ c.byte_of-byte.ensures _ c.arity-n.ensures _ _ _ _ _ r.1 r.0 _ _ _ c.in_err-whole.ensures))

pub node-returns : goal.node-returns
unfolding Keeps Steps
node-returns t c =
    let r = c.in_ok-row.ensures in
    let k = c.in_ok-whole.ensures in
    (k.0, node_put _ _ _ _ _ _ _ c.if-list-at-ne17.false _ c.byte_of-byte.ensures _ c.arity-n.ensures _ _ _ _ _ r.1 r.0 _ _ _ k.1)
