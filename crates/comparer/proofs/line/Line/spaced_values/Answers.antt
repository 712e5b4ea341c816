use Rattle.std.proofs.Common.{rules, subst, get_or, ℤ, pos}
use mir.Syntax.{w16}
use mir.Facts.{to_z-of_z}
use mir.Val.{SFits}
use Rattle.comparer.specs.Line.{spaced}
use Rattle.comparer.specs.ExplainLine.{signed}
use Rattle.comparer.specs.Writing.{Adds}
use Rattle.comparer.proofs.Writing.{adds_none, indices_more}
use Rattle.comparer.proofs.line.Line.spaced_values.Goals as goal

pub loop-z-init : goal.loop-z-init
loop-z-init c = adds_none _

pub loop-z-preserved : goal.loop-z-preserved
loop-z-preserved c =
    let l = c.loop-z in
    let fits : SFits w16 (get_or c.args.values.now l.z-index (pos 0)) = search rules in
    indices_more _ l.out _ c.args.values.now l.z-index l.invariant
    (subst (λ (z : ℤ). Adds l.out (spaced (signed z)) c.spaced_signed-out.result) (to_z-of_z fits) c.spaced_signed-out.ensures)
