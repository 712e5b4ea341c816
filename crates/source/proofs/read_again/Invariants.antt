-- A failed read takes no byte.
use Rattle.std.specs.Io.KnownBytes.{Keeps}
use Rattle.source.proofs.read_again.Given as goal

abbrev pub invariant-loop-left : goal.invariant-loop-left
invariant-loop-left g l = Keeps (g.R.Read.remaining l.initial.input) (g.R.Read.remaining l.input)

abbrev pub decreases-loop-left : goal.decreases-loop-left
decreases-loop-left g l = l.left
