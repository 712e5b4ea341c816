use lib.ListN.{take}
use Rattle.reader.specs.Entries.{Puts}
use Rattle.reader.proofs.tables.put.Given as goal

abbrev pub invariant-loop-k : goal.invariant-loop-k
invariant-loop-k g l = Puts g.T.Into.converts (take l.k l.from) l.initial.r l.to l.r
