use mathlib.Core.Path.{◌∙◌}
use borrow.Author.Tests.{le-leb}
use Rattle.unroller.proofs.CheckZeros.{ended_past}
use Rattle.unroller.proofs.lists.ended.Goals as goal

pub returns-then-list-at : goal.returns-then-list-at
returns-then-list-at c = le-leb _ _ c.if-list-at.true ∙ ended_past _ _ c.if-list-at.true
