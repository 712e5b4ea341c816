use mathlib.Core.Path.{sym, ◌∙◌}
use Rattle.reader.proofs.Packing.{operators_are, arrays_are}
use Rattle.unroller.proofs.HeaderWords.{head_put}
use Rattle.unroller.proofs.header.header.Goals as goal

pub returns : goal.returns
returns c = rw (c.put_rows.ensures, c.put_operators.ensures) (head_put _ _ _ _ (c.min.ensures ∙ sym (operators_are _)) (c.min-2.ensures ∙ sym (arrays_are _)))
