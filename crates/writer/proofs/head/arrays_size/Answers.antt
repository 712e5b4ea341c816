use mathlib.Core.Path.{refl, ◌≡◌, sym}
use Prim.Native.Nat.{◌+◌, ◌*◌, ◌-◌}
use native.Mathlib.Omega.{arith}
use Rattle.writer.proofs.Heading.{adds_step, adds_end}
use Rattle.writer.proofs.head.arrays_size.Goals as goal

pub loop-k-preserved : goal.loop-k-preserved
loop-k-preserved c =
    let a = c.args in
    let l = c.loop-k in
    let e : a.at + 5 * l.k + 5 ≡ a.at + 5 * (l.k + 1) = omega arith in
    let f : a.n - l.k - 1 ≡ a.n - (l.k + 1) = omega arith in
    rw (sym e, sym f) (adds_step a.list.now a.at a.n (a.at + 5 * l.k) (a.n - l.k) l.size l.invariant _ refl (omega arith))

pub returns : goal.returns
returns c =
    let all = let a = c.args in
    let l = c.loop-k in
    adds_end a.list.now a.at a.n (a.at + 5 * l.k) (a.n - l.k) l.size l.invariant (omega arith) in
    record { says = all.0; few = all.1 }
