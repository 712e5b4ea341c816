use native.Mathlib.Omega.{arith}
use mathlib.Core.Path.{ap}
use Prim.Native.Nat.{ℕ, ◌+◌, ◌-◌, ◌*◌}
use Rattle.writer.specs.Records.{records_bytes}
use Rattle.writer.proofs.Writing.{writing_part, writing_end}
use Rattle.writer.proofs.Cellwise.{known_behind, records-split, records_none, records-room}
use Rattle.writer.proofs.records.write_statements.Goals as goal

pub overflow_add-to : goal.overflow_add-to
overflow_add-to c =
    let a = c.args in
    let l = c.loop-left in
    let p = c.requires in
    let t = c.loop-left-test.true in
    let own = c.write_statement-own.result in
    let w = c.write_statement-own.ensures in
    let m = records-room a.list.now l.at l.left own.records w.few in
    let k = l.invariant.1.count in
    let b = w.long in
    let r = p.1 in
    omega arith

pub loop-left-preserved : goal.loop-left-preserved
loop-left-preserved c =
    let a = c.args in
    let l = c.loop-left in
    let p = c.requires in
    let t = c.loop-left-test.true in
    let own = c.write_statement-own.result in
    let w = c.write_statement-own.ensures in
    (known_behind a.list.now l.at l.left own.records l.invariant.0 w.few, writing_part (records_bytes a.list.now 98 a.n) a.out.now (records_bytes a.list.now l.at l.left) l.to l.out l.invariant.1 (records_bytes a.list.now l.at own.records) (records_bytes a.list.now (l.at + 3 * own.records) (l.left - own.records)) c.write_statement-own.new.out (l.to + own.bytes) (records-split a.list.now l.at l.left own.records w.few) p.1 w.frame (ap (λ (x : ℕ). l.to + x) w.long))

pub returns : goal.returns
returns c =
    let all = let a = c.args in
    let l = c.loop-left in
    writing_end (records_bytes a.list.now 98 a.n) a.out.now (records_bytes a.list.now l.at l.left) l.to l.out l.invariant.1 (records_none a.list.now l.at l.left (omega arith)) in
    record { long = all.0; frame = all.1 }
