use mathlib.Core.Path.{◌≡◌}
use lib.ListN.{length}
use Rattle.unroller.specs.Words.{all_zero}
use Rattle.unroller.proofs.lists.zeros.Given as goal

abbrev pub invariant-loop-rest : goal.invariant-loop-rest
invariant-loop-rest l = all_zero l.rest ≡ all_zero l.words

abbrev pub decreases-loop-rest : goal.decreases-loop-rest
decreases-loop-rest l = length l.rest
