use mathlib.Core.Path.{◌∙◌, ap}
use Rattle.cabi.specs.Numbers.{unrolled_numbers}
use Rattle.cabi.proofs.tengmua_unroll.Goals as goal

pub returns : goal.returns
returns c = record { value = c.unrolled_numbers.ensures ∙ ap unrolled_numbers c.unroll-answer.ensures.reply; list_after = c.unroll-answer.ensures.leaves }
