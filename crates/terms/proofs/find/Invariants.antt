use Rattle.std.proofs.Common.{◌≡◌, ◌≤◌}
use Rattle.terms.specs.Store.{find_of}
use Rattle.terms.proofs.find.Given as goal

abbrev pub invariant-loop-at : goal.invariant-loop-at
invariant-loop-at l = (l.top ≤ l.count) × (find_of l.memory l.at l.top l.node ≡ find_of l.memory l.start l.count l.node)

abbrev pub decreases-loop-at : goal.decreases-loop-at
decreases-loop-at l = l.top
