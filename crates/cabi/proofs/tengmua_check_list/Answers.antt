use mathlib.Core.Path.{◌∙◌, ap}
use Rattle.cabi.specs.Numbers.{checked_numbers}
use Rattle.cabi.proofs.tengmua_check_list.Goals as goal

pub returns : goal.returns
returns c = c.checked_numbers.ensures ∙ ap checked_numbers c.check_list-answer.ensures
