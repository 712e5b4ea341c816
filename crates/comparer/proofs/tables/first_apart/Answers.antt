use native.Mathlib.Omega.{arith}
use Rattle.comparer.proofs.Headers.{same_more}
use Rattle.comparer.proofs.tables.first_apart.Goals as goal

pub loop-i-init : goal.loop-i-init
loop-i-init c = λ j h k. absurd (omega arith)

pub returns-then-left-i : goal.returns-then-left-i
returns-then-left-i c = record { low = omega arith; high = omega arith; same = c.loop-i.invariant; apart = λ _ e. let h = c.if-left-i.true in absurd (omega arith) }

pub loop-i-preserved : goal.loop-i-preserved
loop-i-preserved c = same_more c.args.left.now c.args.right.now _ c.loop-i.i c.loop-i.invariant (let h = c.if-left-i.false in omega arith)

pub returns : goal.returns
returns c = record { low = omega arith; high = omega arith; same = λ j h k. c.loop-i.invariant j h (omega arith); apart = λ h _. absurd (omega arith) }
