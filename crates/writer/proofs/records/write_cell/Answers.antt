use mathlib.Core.Path.{refl, ap}
use Prim.Native.Nat.{ℕ, ◌+◌, ◌*◌}
use Rattle.writer.proofs.Cellwise.{cell_is}
use Rattle.writer.proofs.records.write_cell.Goals as goal

pub returns : goal.returns
returns c =
    let a = c.args in
    let p = c.requires in
    let e = cell_is a.list.now a.code a.x a.cell _ a.out.now c.put_subscripts.new.out c.low.result c.low-2.result p.0 p.1 c.low.ensures c.low-2.ensures refl p.2 p.3 c.put_subscripts.ensures in
    record { long = ap (λ (m : ℕ). 2 + 2 * m) refl; frame = e }
