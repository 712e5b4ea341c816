use native.Mathlib.Omega.{arith}
use mathlib.Core.Path.{◌≡◌, refl}
use Prim.Native.Nat.{◌+◌, ◌*◌}
use lib.ListN.{length}
use Rattle.writer.specs.Records.{record_bytes}
use Rattle.writer.proofs.Frames.{part_room}
use Rattle.writer.proofs.Cellwise.{putting_start, putting_same, putting_room, putting_next}
use Rattle.writer.proofs.records.write_expression.Goals as goal

pub loop-k-init : goal.loop-k-init
loop-k-init c =
    let a = c.args in
    putting_start a.list.now a.at a.n a.out.now

pub slice_bounds-write_record-count : goal.slice_bounds-write_record-count
slice_bounds-write_record-count c =
    let a = c.args in
    let p = c.requires in
    let l = c.loop-k in
    let t = c.loop-k-test.true in
    let m = putting_room a.list.now a.at a.n a.out.now l.k l.to l.out l.invariant p.1 t in
    omega arith

pub slice_bounds-write_record-start : goal.slice_bounds-write_record-start
slice_bounds-write_record-start c =
    let a = c.args in
    let p = c.requires in
    let l = c.loop-k in
    let t = c.loop-k-test.true in
    let m = putting_room a.list.now a.at a.n a.out.now l.k l.to l.out l.invariant p.1 t in
    omega arith

pub write_record-to-requires : goal.write_record-to-requires
write_record-to-requires c =
    let a = c.args in
    let p = c.requires in
    let l = c.loop-k in
    let t = c.loop-k-test.true in
    let m = putting_room a.list.now a.at a.n a.out.now l.k l.to l.out l.invariant p.1 t in
    (p.0 l.k t, part_room l.to (length (record_bytes a.list.now (a.at + 3 * l.k))) l.out m)

pub overflow_add-to : goal.overflow_add-to
overflow_add-to c =
    let a = c.args in
    let p = c.requires in
    let l = c.loop-k in
    let t = c.loop-k-test.true in
    let m = putting_room a.list.now a.at a.n a.out.now l.k l.to l.out l.invariant p.1 t in
    let e : c.write_record-to.result ≡ length (record_bytes a.list.now (a.at + 3 * l.k)) = c.write_record-to.ensures.long in
    let s = putting_same a.list.now a.at a.n a.out.now l.k l.to l.out l.invariant in
    omega arith

pub loop-k-preserved : goal.loop-k-preserved
loop-k-preserved c =
    let a = c.args in
    let p = c.requires in
    let l = c.loop-k in
    let t = c.loop-k-test.true in
    putting_next a.list.now a.at a.n a.out.now l.k l.to l.out l.invariant p.1 t _ _ _ refl (λ e. let h = c.if-list-from-eq-UPDATE.false in omega arith) c.write_record-to.ensures.long c.write_record-to.ensures.frame
