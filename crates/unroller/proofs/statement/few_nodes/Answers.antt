use mathlib.Core.Path.{sym, ◌∙◌}
use Rattle.unroller.proofs.Updating.{few_bytes, few_none, few-told}
use Rattle.unroller.proofs.statement.few_nodes.Goals as goal

pub returns-then-not-too_many : goal.returns-then-not-too_many
returns-then-not-too_many c = few_bytes _ _ _ _ _ _ (sym c.too_many.ensures ∙ c.if-not-too_many.true)

pub returns-in-Ok : goal.returns-in-Ok
returns-in-Ok c = few-told _ _ _ _ _ _ c.nodes_behind.result c.nodes_behind.ensures _ c.in-Ok.is _ c.too_many-in-Ok.ensures

pub returns-in-Err : goal.returns-in-Err
returns-in-Err c = few_none _ _ _ _ _ _ c.nodes_behind.result c.nodes_behind.ensures _ c.in-Err.is _
