use Rattle.std.proofs.Common.{sym, ◌∙◌, arith}
use Rattle.terms.proofs.Walks.{find_end, find_over, find_hit, find_next}
use Rattle.terms.proofs.find.Goals as goal

pub returns-then-alike : goal.returns-then-alike
returns-then-alike c =
    let l = c.loop-at in
    let h = c.if-alike.true in
    sym (find_hit _ _ l.top l.at _ _ (omega arith) (omega arith) (omega arith) c.is_node-alike.ensures (λ e. cc)) ∙ l.invariant.1

pub loop-at-preserved : goal.loop-at-preserved
loop-at-preserved c =
    let l = c.loop-at in
    let h = c.if-alike.false in
    (omega arith, sym (find_next _ _ l.top l.at _ _ (omega arith) (omega arith) (omega arith) c.is_node-alike.ensures (λ e. cc)) ∙ l.invariant.1)

pub returns-else-at-top : goal.returns-else-at-top
returns-else-at-top c = sym (find_over _ _ c.loop-at.top c.loop-at.at (omega arith)) ∙ c.loop-at.invariant.1

pub returns-after-loop-at : goal.returns-after-loop-at
returns-after-loop-at c = sym (rw c.loop-at-test.false (find_end _ _ c.loop-at.top)) ∙ c.loop-at.invariant.1
