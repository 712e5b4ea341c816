use native.Mathlib.Omega.{arith}
use Prim.Native.Nat.{◌+◌, ◌-◌}
use lib.ListN.{length}
use Rattle.writer.specs.Records.{records_bytes}
use Rattle.writer.proofs.Frames.{part_room}
use Rattle.writer.proofs.Cellwise.{first_known, known_behind, records-room, statement-room, statement-puts}
use Rattle.writer.proofs.records.write_statement.Goals as goal

pub write_record-target-requires : goal.write_record-target-requires
write_record-target-requires c =
    let a = c.args in
    let p = c.requires in
    let room = statement-room a.list.now a.at a.n p.0 in
    (first_known a.list.now a.at a.n p.1 p.0, omega arith)

pub slice_bounds-write_expression-count : goal.slice_bounds-write_expression-count
slice_bounds-write_expression-count c =
    let a = c.args in
    let p = c.requires in
    let room = statement-room a.list.now a.at a.n p.0 in
    omega arith

pub slice_bounds-write_expression-start : goal.slice_bounds-write_expression-start
slice_bounds-write_expression-start c =
    let a = c.args in
    let p = c.requires in
    let room = statement-room a.list.now a.at a.n p.0 in
    omega arith

pub write_expression-source-requires : goal.write_expression-source-requires
write_expression-source-requires c =
    let a = c.args in
    let p = c.requires in
    let room = statement-room a.list.now a.at a.n p.0 in
    (known_behind a.list.now a.at a.n 1 p.1 p.0, part_room c.write_record-target.result (length (records_bytes a.list.now (a.at + 3) (a.n - 1))) c.write_record-target.new.out (omega arith))

pub overflow_add-result-2 : goal.overflow_add-result-2
overflow_add-result-2 c =
    let a = c.args in
    let p = c.requires in
    let w = statement-puts a.list.now a.at a.n c.write_record-target.result c.write_expression-source.result.records c.write_expression-source.result.bytes a.out.now c.write_record-target.new.out c.write_expression-source.new.out p.0 p.2 c.write_record-target.ensures.long c.write_record-target.ensures.frame c.write_expression-source.ensures in
    let k = w.long in
    let m = records-room a.list.now a.at a.n _ w.few in
    omega arith

pub returns : goal.returns
returns c =
    let a = c.args in
    let p = c.requires in
    statement-puts a.list.now a.at a.n c.write_record-target.result c.write_expression-source.result.records c.write_expression-source.result.bytes a.out.now c.write_record-target.new.out c.write_expression-source.new.out p.0 p.2 c.write_record-target.ensures.long c.write_record-target.ensures.frame c.write_expression-source.ensures
