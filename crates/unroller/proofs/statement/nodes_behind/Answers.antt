use Rattle.unroller.proofs.Updating.{source_no, behind_no, behind_is}
use Rattle.unroller.proofs.statement.nodes_behind.Goals as goal

pub returns-in_err-source : goal.returns-in_err-source
returns-in_err-source c = source_no _ _ _ _ _ c.dimensions_of.result c.dimensions_of.ensures c.forms_end.result c.forms_end.ensures _ c.in_err-source.was _

pub returns-in_err-nodes : goal.returns-in_err-nodes
returns-in_err-nodes c =
    behind_no _ _ _ _ _ c.dimensions_of.result c.dimensions_of.ensures c.forms_end.result c.forms_end.ensures _ c.in_ok-source.was c.expression_end.result c.expression_end.ensures _ c.in_err-nodes.was _

pub returns : goal.returns
returns c =
    behind_is _ _ _ _ _ c.dimensions_of.result c.dimensions_of.ensures c.forms_end.result c.forms_end.ensures _ c.in_ok-source.was c.expression_end.result c.expression_end.ensures _ _ c.in_ok-nodes.was
