use borrow.Author.Rules.{rules}
use native.Mathlib.Omega.{arith}
use Rattle.comparer.proofs.Masks.{bits-room, bits_out, bits-other, bits_all, bits_none}
use Rattle.comparer.proofs.tables.out_bits.Goals as goal

pub loop-a-init : goal.loop-a-init
loop-a-init c = bits_none _ _

pub overflow_mul-bits : goal.overflow_mul-bits
overflow_mul-bits c = let h = bits-room _ _ _ _ c.loop-a.auto.a c.loop-a.invariant c.loop-a-test.true c.requires.arrays in search rules

pub overflow_add-bits : goal.overflow_add-bits
overflow_add-bits c = let h = bits-room _ _ _ _ c.loop-a.auto.a c.loop-a.invariant c.loop-a-test.true c.requires.arrays in search rules

pub loop-a-preserved-then-list-a-eq1 : goal.loop-a-preserved-then-list-a-eq1
loop-a-preserved-then-list-a-eq1 c = bits_out _ _ _ _ c.loop-a.auto.a c.loop-a.invariant c.loop-a-test.true _ (omega arith) (omega (arith, c.if-list-a-eq1.true))

pub overflow_mul-bits-else-list-a-eq1 : goal.overflow_mul-bits-else-list-a-eq1
overflow_mul-bits-else-list-a-eq1 c = let h = bits-room _ _ _ _ c.loop-a.auto.a c.loop-a.invariant c.loop-a-test.true c.requires.arrays in search rules

pub loop-a-preserved : goal.loop-a-preserved
loop-a-preserved c = bits-other _ _ _ _ c.loop-a.auto.a c.loop-a.invariant c.loop-a-test.true _ (omega arith) (λ e. let h = c.if-list-a-eq1.false in omega arith)

pub returns : goal.returns
returns c = bits_all _ _ _ _ c.loop-a.auto.a c.loop-a.invariant c.loop-a-test.false
