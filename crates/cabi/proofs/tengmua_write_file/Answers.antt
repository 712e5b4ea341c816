use mathlib.Core.Path.{◌∙◌, ap}
use Rattle.cabi.specs.Numbers.{written_numbers}
use Rattle.cabi.proofs.tengmua_write_file.Goals as goal

pub returns : goal.returns
returns c = record { value = c.written_numbers.ensures ∙ ap written_numbers c.write_file-answer.ensures.reply; out_after = c.write_file-answer.ensures.leaves }
