use mathlib.Core.Path.{◌∙◌, ap}
use Rattle.cabi.specs.Numbers.{numbers_of}
use Rattle.cabi.proofs.tengmua_compare_lists.Goals as goal

pub returns : goal.returns
returns c = let e = c.compare_lists-reply.ensures in (c.reply_numbers.ensures ∙ ap numbers_of e.0, e.1, e.2)
