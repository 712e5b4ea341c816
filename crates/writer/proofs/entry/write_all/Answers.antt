use native.Mathlib.Omega.{arith}
use mathlib.Core.Path.{ap}
use Prim.Native.Nat.{ℕ}
use lib.ListN.{length}
use Rattle.writer.specs.Records.{records_bytes}
use Rattle.writer.specs.Head.{head_bytes}
use Rattle.writer.proofs.Frames.{part_room}
use Rattle.writer.proofs.Facts.{file-room, file_wrote}
use Rattle.writer.proofs.entry.write_all.Goals as goal

pub write_head-head-requires : goal.write_head-head-requires
write_head-head-requires c =
    let a = c.args in
    let w = a.list.now in
    let p = c.requires in
    let parts = file-room w a.n in
    let e = c.version_of-version.ensures in
    let v = ap (λ (x : ℕ). length (head_bytes w x)) e in
    (p.0, omega arith)

pub slice_bounds-write_statements-count : goal.slice_bounds-write_statements-count
slice_bounds-write_statements-count c =
    let a = c.args in
    let w = a.list.now in
    let parts = file-room w a.n in
    let e = c.version_of-version.ensures in
    let v = ap (λ (x : ℕ). length (head_bytes w x)) e in
    omega arith

pub slice_bounds-write_statements-start : goal.slice_bounds-write_statements-start
slice_bounds-write_statements-start c =
    let a = c.args in
    let w = a.list.now in
    let parts = file-room w a.n in
    let e = c.version_of-version.ensures in
    let v = ap (λ (x : ℕ). length (head_bytes w x)) e in
    omega arith

pub write_statements-size-requires : goal.write_statements-size-requires
write_statements-size-requires c =
    let a = c.args in
    let w = a.list.now in
    let p = c.requires in
    let parts = file-room w a.n in
    let e = c.version_of-version.ensures in
    let v = ap (λ (x : ℕ). length (head_bytes w x)) e in
    let head = c.write_head-head.result in
    let o1 = c.write_head-head.new.out in
    (p.1, part_room head (length (records_bytes w 98 a.n)) o1 (omega arith))

pub overflow_add-out : goal.overflow_add-out
overflow_add-out c =
    let a = c.args in
    let w = a.list.now in
    let parts = file-room w a.n in
    let e = c.version_of-version.ensures in
    let v = ap (λ (x : ℕ). length (head_bytes w x)) e in
    omega arith

pub bounds-out-head : goal.bounds-out-head
bounds-out-head c =
    let a = c.args in
    let w = a.list.now in
    let parts = file-room w a.n in
    let e = c.version_of-version.ensures in
    let v = ap (λ (x : ℕ). length (head_bytes w x)) e in
    omega arith

pub returns : goal.returns
returns c =
    let a = c.args in
    let w = a.list.now in
    let p = c.requires in
    let fits = p.2 in
    let e = c.version_of-version.ensures in
    let head = c.write_head-head.result in
    let o1 = c.write_head-head.new.out in
    let h = c.write_head-head.ensures.long in
    let part = c.write_statements-size.new.out in
    let s = c.write_statements-size.ensures.long in
    file_wrote w a.n c.version_of-version.result head c.write_statements-size.result a.out.now o1 part e fits h c.write_head-head.ensures.frame s c.write_statements-size.ensures.frame
