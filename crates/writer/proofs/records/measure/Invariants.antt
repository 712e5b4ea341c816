use Prim.Native.Nat.{◌-◌}
use lib.ListN.{length}
use Rattle.writer.specs.Answers.{Counted}
use Rattle.writer.proofs.Measuring.{Counting}
use Rattle.writer.proofs.records.measure.Given as goal

abbrev pub invariant-loop-at : goal.invariant-loop-at
invariant-loop-at l = (z : Counted l.list) × Counting l.list z.count l.at l.records l.updates l.bytes

abbrev pub decreases-loop-at : goal.decreases-loop-at
decreases-loop-at l = length l.list - l.at
