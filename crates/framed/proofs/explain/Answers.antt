use Rattle.std.proofs.Common.{sym, ap, ◌∙◌}
use Rattle.comparer.specs.ExplainAnswers.{chosen_says}
use Rattle.framed.specs.Masked.{explanation_under}
use Rattle.framed.proofs.explain.Goals as goal

pub returns-in-None : goal.returns-in-None
returns-in-None c = c.explain_input.ensures.0 ∙ ap (λ m. explanation_under m (chosen_says c.args.side) c.args.input.now) (sym c.in-None.is)

pub returns-in-Some : goal.returns-in-Some
returns-in-Some c = c.explain_input_masked.ensures.0 ∙ ap (λ m. explanation_under m (chosen_says c.args.side) c.args.input.now) (sym c.in-Some.is)
