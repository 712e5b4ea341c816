use Rattle.unroller.proofs.CheckWhole.{whole_none, whole_all}
use Rattle.unroller.proofs.lists.accepts.Goals as goal

pub returns-then-header : goal.returns-then-header
returns-then-header c = whole_all _ _ _ c.if-header.ensures c.updates_at.ensures

pub returns-else-header : goal.returns-else-header
returns-else-header c = whole_none _ _ c.if-header.false c.if-header.ensures
