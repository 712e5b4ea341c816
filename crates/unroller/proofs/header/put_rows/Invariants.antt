use Rattle.unroller.proofs.HeaderWords.{Rows}
use Rattle.unroller.proofs.header.put_rows.Given as goal

abbrev pub invariant-loop-k : goal.invariant-loop-k
invariant-loop-k l = Rows l.tables.roles l.tables.dimensions l.tables.extents l.initial.list l.k l.list
