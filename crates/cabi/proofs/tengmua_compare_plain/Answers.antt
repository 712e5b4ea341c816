use mathlib.Core.Path.{◌∙◌, ap}
use Rattle.cabi.specs.Numbers.{numbers_of}
use Rattle.cabi.proofs.tengmua_compare_plain.Goals as goal

pub returns : goal.returns
returns c = let e = c.compare_programs-reply.ensures in (c.reply_numbers.ensures ∙ ap numbers_of e.0, e.1, e.2, e.3, e.4)
