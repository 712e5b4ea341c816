use Rattle.writer.specs.Records.{records_bytes, KnownAll}
use Rattle.writer.proofs.Writing.{Writing}
use Rattle.writer.proofs.records.write_statements.Given as goal

abbrev pub invariant-loop-left : goal.invariant-loop-left
invariant-loop-left l = KnownAll l.list l.at l.left × Writing (records_bytes l.list 98 l.n) l.initial.out (records_bytes l.list l.at l.left) l.to l.out

abbrev pub decreases-loop-left : goal.decreases-loop-left
decreases-loop-left l = l.left
