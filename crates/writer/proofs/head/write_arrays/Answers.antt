use Prim.Native.Nat.{ℕ, ◌+◌, ◌*◌, ◌-◌}
use native.Mathlib.Omega.{arith}
use mathlib.Core.Path.{ap, sym, ◌≡◌}
use lib.ListN.{length}
use Rattle.writer.specs.Head.{array_bytes_at, arrays_bytes_at}
use Rattle.writer.proofs.Frames.{part_room}
use Rattle.writer.proofs.Writing.{writing_room, writing_part, writing_end, first_array, arrays-behind, arrays_next, arrays_none}
use Rattle.writer.proofs.head.write_arrays.Goals as goal

pub write_array-to-requires : goal.write_array-to-requires
write_array-to-requires c =
    let a = c.args in
    let l = c.loop-k in
    let p = c.requires in
    let k = first_array a.list.now (a.at + 5 * l.k) (a.n - l.k) l.invariant.0 (omega arith) in
    let m = writing_room (arrays_bytes_at a.list.now a.at a.n) a.out.now (arrays_bytes_at a.list.now (a.at + 5 * l.k) (a.n - l.k)) l.to l.out l.invariant.1 (array_bytes_at a.list.now (a.at + 5 * l.k)) (arrays_bytes_at a.list.now ((a.at + 5 * l.k) + 5) ((a.n - l.k) - 1)) (arrays_next a.list.now (a.at + 5 * l.k) (a.n - l.k) (omega arith)) p.1 in
    (k, part_room l.to (length (array_bytes_at a.list.now (a.at + 5 * l.k))) l.out m)

pub overflow_add-to : goal.overflow_add-to
overflow_add-to c =
    let a = c.args in
    let l = c.loop-k in
    let p = c.requires in
    let m = writing_room (arrays_bytes_at a.list.now a.at a.n) a.out.now (arrays_bytes_at a.list.now (a.at + 5 * l.k) (a.n - l.k)) l.to l.out l.invariant.1 (array_bytes_at a.list.now (a.at + 5 * l.k)) (arrays_bytes_at a.list.now ((a.at + 5 * l.k) + 5) ((a.n - l.k) - 1)) (arrays_next a.list.now (a.at + 5 * l.k) (a.n - l.k) (omega arith)) p.1 in
    omega arith

pub loop-k-preserved : goal.loop-k-preserved
loop-k-preserved c =
    let a = c.args in
    let l = c.loop-k in
    let p = c.requires in
    let e : a.at + 5 * l.k + 5 ≡ a.at + 5 * (l.k + 1) = omega arith in
    let f : a.n - l.k - 1 ≡ a.n - (l.k + 1) = omega arith in
    rw (sym e, sym f) (arrays-behind a.list.now (a.at + 5 * l.k) (a.n - l.k) l.invariant.0 (omega arith), writing_part (arrays_bytes_at a.list.now a.at a.n) a.out.now (arrays_bytes_at a.list.now (a.at + 5 * l.k) (a.n - l.k)) l.to l.out l.invariant.1 (array_bytes_at a.list.now (a.at + 5 * l.k)) (arrays_bytes_at a.list.now ((a.at + 5 * l.k) + 5) ((a.n - l.k) - 1)) c.write_array-to.new.out (l.to + c.write_array-to.result) (arrays_next a.list.now (a.at + 5 * l.k) (a.n - l.k) (omega arith)) p.1 c.write_array-to.ensures.frame (ap (λ (x : ℕ). l.to + x) c.write_array-to.ensures.long))

pub returns : goal.returns
returns c =
    let all = let a = c.args in
    let l = c.loop-k in
    writing_end (arrays_bytes_at a.list.now a.at a.n) a.out.now (arrays_bytes_at a.list.now (a.at + 5 * l.k) (a.n - l.k)) l.to l.out l.invariant.1 (arrays_none a.list.now (a.at + 5 * l.k) (a.n - l.k) (omega arith)) in
    record { long = all.0; frame = all.1 }
