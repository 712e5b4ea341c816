use mathlib.Core.Path.{◌∙◌}
use Prim.Native.Nat.{◌*◌}
use native.Mathlib.Omega.{arith}
use Rattle.unroller.proofs.CheckArrays.{filled_part}
use Rattle.unroller.proofs.CheckTable.{sofar_none, sofar_all, sofar_stop, sofar_order, sofar_full, sofar_more}
use Rattle.unroller.proofs.lists.arrays_at.Goals as goal

pub loop-k-init : goal.loop-k-init
loop-k-init c = (omega arith, c.requires.state_len.0, sofar_none _ _ _ c.requires.state_len.0 c.requires.state_len.1)

pub returns-in_default : goal.returns-in_default
returns-in_default c = sofar_stop _ _ _ _ _ _ c.loop-k.invariant.2 c.loop-k-test.true c.in_default.ensures

pub returns-then-role-ne3 : goal.returns-then-role-ne3
returns-then-role-ne3 c = sofar_order _ _ _ _ _ _ c.loop-k.invariant.2 c.loop-k-test.true _ _ c.in-Some.ensures c.if-local.true c.if-role-ne3.true

pub returns-then-sum-n-gt-MOST_CELLS : goal.returns-then-sum-n-gt-MOST_CELLS
returns-then-sum-n-gt-MOST_CELLS c =
    sofar_full _ _ _ _ _ _ c.loop-k.invariant.2 c.loop-k-test.true _ _ c.in-Some.ensures c.else-local.either c.if-sum-n-gt-MOST_CELLS.true

pub loop-k-preserved : goal.loop-k-preserved
loop-k-preserved c =
    let i = c.loop-k.invariant in
    let f = filled_part c.loop-k.state c.fill.new.self (2048 * c.loop-k.k) c.in-Some.n c.first_state.result (omega arith) (c.fill.ensures.after (λ y e. e)) in
    (omega arith, f.same_length ∙ i.1, sofar_more _ _ _ _ _ _ i.2 c.loop-k-test.true _ _ c.in-Some.ensures c.else-local.either _ _ c.if-sum-n-gt-MOST_CELLS.false c.requires.header_words_in_bounds.1 f c.first_state.ensures)

pub returns : goal.returns
returns c =
    sofar_all _ _ _ _ _ _ c.loop-k.invariant.2 (omega arith)
