use Rattle.std.proofs.Common.{rules}
use Rattle.source.proofs.Parts.{took-more}
use Rattle.source.proofs.fill.Goals as goal

pub loop-done-preserved : goal.loop-done-preserved
loop-done-preserved g c =
    (search rules, took-more _ _ _ _ _ _ _ _ c.loop-done.invariant.0 (search rules) c.loop-done.invariant.1 c.in-Ok.ensures.bytes.0)
