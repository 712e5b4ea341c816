use native.Mathlib.Omega.{arith}
use mathlib.Core.Path.{refl}
use Prim.Native.Nat.{◌+◌}
use Rattle.writer.proofs.Facts.{records, accepts, listed, sized_is, wide_is, all_known, wide_some, wide-writes, long-writes, room-writes, file-writes, total_is, bytes-few}
use Rattle.writer.proofs.entry.write_accepted.Goals as goal

pub measure-requires : goal.measure-requires
measure-requires c =
    let w = c.args.list.now in
    let q = accepts w c.requires in
    listed w q.what q.holds

pub overflow_sub-result : goal.overflow_sub-result
overflow_sub-result c =
    let w = c.args.list.now in
    let q = accepts w c.requires in
    let k = c.in-Err.wide.updates in
    let m = wide_is w q.what q.holds c.measure.result c.in-Err.wide c.measure.ensures c.in-Err.is in
    let s = wide_some w q.what q.holds (records q.what) refl k m in
    omega arith

pub head_size-requires : goal.head_size-requires
head_size-requires c =
    let w = c.args.list.now in
    let q = accepts w c.requires in
    q.holds.head

pub overflow_add-total : goal.overflow_add-total
overflow_add-total c =
    let w = c.args.list.now in
    let q = accepts w c.requires in
    let n = c.in-Ok.size.records in
    let b = c.in-Ok.size.bytes in
    let m = sized_is w q.what q.holds c.measure.result c.in-Ok.size c.measure.ensures c.in-Ok.is in
    let x = bytes-few w q.what q.holds n m.0 b m.1 in
    omega arith

pub overflow_add-total-in-Ok : goal.overflow_add-total-in-Ok
overflow_add-total-in-Ok c =
    let w = c.args.list.now in
    let q = accepts w c.requires in
    let n = c.in-Ok.size.records in
    let b = c.in-Ok.size.bytes in
    let m = sized_is w q.what q.holds c.measure.result c.in-Ok.size c.measure.ensures c.in-Ok.is in
    let x = bytes-few w q.what q.holds n m.0 b m.1 in
    omega arith

pub returns-then-total-gt-MOST_BYTES : goal.returns-then-total-gt-MOST_BYTES
returns-then-total-gt-MOST_BYTES c =
    let w = c.args.list.now in
    let q = accepts w c.requires in
    let n = c.in-Ok.size.records in
    let b = c.in-Ok.size.bytes in
    let m = sized_is w q.what q.holds c.measure.result c.in-Ok.size c.measure.ensures c.in-Ok.is in
    let h = c.head_size.result in
    let head = c.head_size.ensures in
    long-writes w q.what q.holds n m.0 h b head.says m.1 c.args.out.now (h + b + 1) refl (omega (arith, c.if-total-gt-MOST_BYTES.true))

pub returns-then-out-total : goal.returns-then-out-total
returns-then-out-total c =
    let w = c.args.list.now in
    let q = accepts w c.requires in
    let n = c.in-Ok.size.records in
    let b = c.in-Ok.size.bytes in
    let m = sized_is w q.what q.holds c.measure.result c.in-Ok.size c.measure.ensures c.in-Ok.is in
    let h = c.head_size.result in
    let head = c.head_size.ensures in
    room-writes w q.what q.holds n m.0 h b head.says m.1 c.args.out.now (h + b + 1) refl (omega (arith, c.if-out-total.true))

pub write_all-requires : goal.write_all-requires
write_all-requires c =
    let w = c.args.list.now in
    let q = accepts w c.requires in
    let n = c.in-Ok.size.records in
    let b = c.in-Ok.size.bytes in
    let m = sized_is w q.what q.holds c.measure.result c.in-Ok.size c.measure.ensures c.in-Ok.is in
    let h = c.head_size.result in
    let head = c.head_size.ensures in
    let t = total_is w q.what q.holds n m.0 h b head.says m.1 in
    (q.holds.head, all_known w q.what q.holds n m.0, omega (arith, c.if-out-total.false))

pub returns-in-Err : goal.returns-in-Err
returns-in-Err c =
    let w = c.args.list.now in
    let q = accepts w c.requires in
    let k = c.in-Err.wide.updates in
    let m = wide_is w q.what q.holds c.measure.result c.in-Err.wide c.measure.ensures c.in-Err.is in
    let s = wide_some w q.what q.holds (records q.what) refl k m in
    wide-writes w q.what q.holds (records q.what) refl k _ c.args.out.now m (omega arith)

pub returns-else-out-total : goal.returns-else-out-total
returns-else-out-total c =
    let w = c.args.list.now in
    let q = accepts w c.requires in
    let n = c.in-Ok.size.records in
    let b = c.in-Ok.size.bytes in
    let m = sized_is w q.what q.holds c.measure.result c.in-Ok.size c.measure.ensures c.in-Ok.is in
    let h = c.head_size.result in
    let head = c.head_size.ensures in
    file-writes w q.what q.holds n m.0 h b head.says m.1 c.args.out.now c.write_all.new.out (h + b + 1) refl (omega (arith, c.if-total-gt-MOST_BYTES.false)) (omega (arith, c.if-out-total.false)) c.write_all.ensures
