use mathlib.Core.Path.{◌∙◌}
use Rattle.comparer.proofs.ListEntries.{says-ok}
use Rattle.comparer.proofs.lists.is_accepted.Goals as goal

pub returns : goal.returns
returns c = c.is_ok.ensures.value ∙ says-ok _ c.requires _ c.check_list.ensures
