use native.Mathlib.Omega.{arith}
use mathlib.Core.Path.{◌∙◌}
use Rattle.reader.specs.Grammar.{node as node_of}
use Rattle.reader.proofs.Nodes.{args_end, args_stop, args_step, args_fits, code_fits, node_fits, arity_held, operator_is}
use Rattle.reader.proofs.Steps.{handed, read-got}
use Rattle.reader.proofs.expressions.+args_node.Goals as goal

pub args-returns-in_err-own : goal.args-returns-in_err-own
args-returns-in_err-own t c = rw (handed c.from_residual.ensures) (args_stop _ _ _ _ c.node.ensures _ (omega arith) c.in_err-own.was ∙ c.loop.invariant.1)

pub args-overflow_add-nodes : goal.args-overflow_add-nodes
args-overflow_add-nodes t c = let v = node_fits _ _ _ _ _ c.node.ensures c.in_ok-own.was in omega (arith, v.0, v.1, c.loop.invariant.0)

pub args-loop-preserved : goal.args-loop-preserved
args-loop-preserved t c =
    let v = node_fits _ _ _ _ _ c.node.ensures c.in_ok-own.was in
    (omega (arith, v.0, c.loop.invariant.0), args_step _ _ _ _ c.node.ensures _ _ _ c.in_ok-own.was (omega arith) (omega arith) ∙ c.loop.invariant.1)

pub args-returns : goal.args-returns
args-returns t c = args_end _ _ _ _ _ (omega arith) ∙ c.loop.invariant.1

pub node-args-requires : goal.node-args-requires
node-args-requires t c =
    let v = arity_held _ _ _ _ _ c.operator_at.ensures c.in_ok-n.was in
    let b = code_fits _ _ c.byte_at.ensures c.in_ok-code.was in
    omega (arith, v.0, v.1, v.2, b)

pub node-overflow_add-result : goal.node-overflow_add-result
node-overflow_add-result t c =
    let v = arity_held _ _ _ _ _ c.operator_at.ensures c.in_ok-n.was in
    let w = args_fits _ _ _ _ _ _ v.2 c.args-2.ensures c.in_ok-nodes.was in
    omega (arith, v.1, w.0, w.1)

pub node-returns : goal.node-returns
unfolding node_of
node-returns t c =
    rw (read-got c.byte_at.ensures c.in_ok-code.was, c.if-code-ne17.false) (operator_is _ _ _ _ _ _ c.operator_at.ensures c.in_ok-n.was c.args-2.ensures c.in_ok-nodes.was (omega arith))
