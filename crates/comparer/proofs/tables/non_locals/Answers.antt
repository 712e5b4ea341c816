use native.Mathlib.Omega.{arith}
use borrow.Author.Count.{below_more}
use Rattle.comparer.proofs.tables.non_locals.Goals as goal

pub loop-a-init : goal.loop-a-init
loop-a-init c = λ a h. absurd (omega arith)

pub returns-then-list-a-eq3 : goal.returns-then-list-a-eq3
returns-then-list-a-eq3 c = record { most = omega arith; before = c.loop-a.invariant; ends = λ _. c.if-list-a-eq3.true }

pub loop-a-preserved : goal.loop-a-preserved
loop-a-preserved c = below_more _ _ c.loop-a.invariant c.if-list-a-eq3.false

pub returns : goal.returns
returns c = record { most = omega arith; before = λ a h. c.loop-a.invariant a (omega arith); ends = λ h. absurd (omega arith) }
