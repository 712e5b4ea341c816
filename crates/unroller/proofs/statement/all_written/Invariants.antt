use mathlib.Core.Path.{◌≡◌}
use Prim.Native.Nat.{◌+◌, ◌-◌, ◌*◌}
use lib.ListN.{drop}
use Rattle.unroller.specs.Writes.{may_read, scanned}
use Rattle.reader.specs.Entries.{viewed, tables_in}
use Rattle.unroller.proofs.statement.all_written.Given as goal

abbrev pub invariant-loop-k : goal.invariant-loop-k
invariant-loop-k l =
    scanned (may_read (tables_in l.tables) (viewed l.tables).bases l.flags) (l.n - l.k) (drop (l.from + 3 * l.k) l.list) ≡ scanned (may_read (tables_in l.tables) (viewed l.tables).bases l.flags) l.n (drop l.from l.list)
