use Rattle.std.proofs.Common.{◌≤◌}
use Rattle.terms_run.proofs.found.Given as goal

abbrev pub invariant-loop-k : goal.invariant-loop-k
invariant-loop-k l = l.right ≤ l.k
