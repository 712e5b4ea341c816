use mathlib.Core.Path.{◌∙◌, ap}
use Rattle.comparer.specs.Entry.{enough_lent}
use Rattle.comparer.specs.Explain.{Chosen, explanation}
use Rattle.cabi.specs.Numbers.{explanation_numbers}
use Rattle.cabi.proofs.tengmua_explain.Goals as goal

pub shape_of-left_list : goal.shape_of-left_list
shape_of-left_list c = c.explain-explanation.auto.left_list

pub shape_of-right_list : goal.shape_of-right_list
shape_of-right_list c = c.explain-explanation.auto.right_list

pub shape_of-cells : goal.shape_of-cells
shape_of-cells c = c.explain-explanation.auto.cells

pub shape_of-terms : goal.shape_of-terms
shape_of-terms c = c.explain-explanation.auto.terms

pub returns : goal.returns
returns c = let a = c.args in let e = c.explain-explanation.ensures in let long = enough_lent a.left_list.now a.right_list.now a.cells.now a.terms.now in (c.explanation_numbers.ensures ∙ ap explanation_numbers (e.0 ∙ ap (λ (s : Chosen). explanation long a.mask s a.left.now a.right.now) c.chosen_by-chosen.ensures), e.1, e.2, e.3, e.4)
