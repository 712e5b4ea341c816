use native.Mathlib.Omega.{arith}
use mathlib.Core.Path.{◌≡◌, ◌∙◌}
use Prim.Native.Nat.{◌+◌, ◌-◌, ◌*◌}
use Rattle.unroller.proofs.Scan.{scan_end, scan_stop, scan_step}
use Rattle.unroller.specs.Writes.{may_read}
use Rattle.reader.specs.Entries.{viewed, tables_in}
use Rattle.unroller.proofs.statement.all_written.Goals as goal

pub loop-k-init : goal.loop-k-init
loop-k-init c =
    let e : c.args.n - 0 ≡ c.args.n = omega arith in
    let f : c.args.from + 3 * 0 ≡ c.args.from = omega arith in
    rw (e, f)

pub returns-then-not-record_fine : goal.returns-then-not-record_fine
returns-then-not-record_fine c =
    let a = c.args in
    scan_stop (may_read (tables_in a.tables.now) (viewed a.tables.now).bases a.flags.now) a.list.now (a.from + 3 * c.loop-k.k) (a.n - c.loop-k.k) (omega arith) c.if-not-record_fine.ensures ∙ c.loop-k.invariant

pub loop-k-preserved : goal.loop-k-preserved
loop-k-preserved c =
    let a = c.args in
    scan_step (may_read (tables_in a.tables.now) (viewed a.tables.now).bases a.flags.now) a.list.now (a.from + 3 * c.loop-k.k) (a.n - c.loop-k.k) (a.n - (c.loop-k.k + 1)) _ (omega arith) (omega arith) c.if-not-record_fine.ensures
    ∙ c.loop-k.invariant

pub returns : goal.returns
returns c =
    let a = c.args in
    scan_end (may_read (tables_in a.tables.now) (viewed a.tables.now).bases a.flags.now) a.list.now (a.from + 3 * c.loop-k.k) (a.n - c.loop-k.k) (omega arith) ∙ c.loop-k.invariant
