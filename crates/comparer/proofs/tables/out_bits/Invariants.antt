use Prim.Native.Nat.{◌-◌}
use mathlib.Core.Path.{◌≡◌}
use Rattle.comparer.specs.Headers.{bits_from}
use Rattle.comparer.proofs.tables.out_bits.Given as goal

abbrev pub invariant-loop-a : goal.invariant-loop-a
invariant-loop-a l = l.bits ≡ bits_from l.list l.a (l.n - l.a)
