use mathlib.Core.Path.{◌≡◌}
use Prim.Native.Nat.{◌+◌, ◌-◌, ◌*◌, ◌/◌, ◌^◌, ◌≤◌, ◌<◌}
use lib.IntN.{nat_abs}
use Rattle.reader.specs.Entries.{bytes_of}
use Rattle.unroller.specs.Forms.{form_sum}
use Rattle.unroller.proofs.forms.form_value.Given as goal

abbrev pub invariant-loop-rest : goal.invariant-loop-rest
invariant-loop-rest l =
    (l.k ≤ 8) × (l.initial.rest < 2 ^ 64) × (l.rest ≡ l.initial.rest / 2 ^ (8 * l.k)) × (l.sum ≡ form_sum l.constant (bytes_of 8 l.initial.rest) l.indices l.k) × (nat_abs l.sum ≤ 32768 + l.k * 4194304)

abbrev pub decreases-loop-rest : goal.decreases-loop-rest
decreases-loop-rest l = 8 - l.k
