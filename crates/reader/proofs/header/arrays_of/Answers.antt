use mathlib.Core.Path.{◌∙◌}
use Rattle.reader.specs.Entries.{packed, threes, bases}
use Rattle.reader.proofs.Heads.{array_table_parts, arrays_start}
use Rattle.reader.proofs.header.arrays_of.Goals as goal

pub returns : goal.returns
unfolding packed threes bases
returns c = λ ops l b. c.arrays_at.ensures ∙ rw (array_table_parts, ← c.in_ok-n.ensures.says) (arrays_start _ _ _ ops _ c.in_ok-n.ensures.most (rw (← l, b)))
