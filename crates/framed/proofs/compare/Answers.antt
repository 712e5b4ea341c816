use Rattle.std.proofs.Common.{sym, ap, ◌∙◌}
use Rattle.framed.specs.Masked.{reply_under}
use Rattle.framed.proofs.compare.Goals as goal

pub returns-in-None : goal.returns-in-None
returns-in-None c = c.compare_input.ensures.0 ∙ ap (λ m. reply_under m c.args.input.now) (sym c.in-None.is)

pub returns-in-Some : goal.returns-in-Some
returns-in-Some c = c.compare_input_masked.ensures.0 ∙ ap (λ m. reply_under m c.args.input.now) (sym c.in-Some.is)
