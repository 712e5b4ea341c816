use Rattle.std.proofs.Common.{◌≡◌, ◌∙◌, ◌≤◌, true, length}
use Rattle.model.specs.Memory.{list_words}
use Rattle.comparer.specs.Answers.{reply_says}
use Rattle.comparer.specs.Entry.{enough_lent}
use Rattle.comparer.specs.ExplainAnswers.{chosen_says}
use Rattle.comparer.proofs.Explains.{input-says, input-leaves, long-list}
use Rattle.comparer.proofs.explanation.explain_input_masked.Goals as goal

pub returns : goal.returns
returns c =
    let a = c.args in
    let m = c.compare_input_masked-reply in
    let left = a.left_list.now in
    let long = enough_lent left a.right_list.now a.cells.now a.terms.now in
    let room : long ≡ true → list_words ≤ length left = long-list left a.right_list.now a.cells.now a.terms.now in
    let says = input-says long (λ x. a.mask) (chosen_says a.side) a.input.now (reply_says m.result) m.ensures.0 left m.new.left_list m.ensures.1 room in
    let leaves = input-leaves long (λ x. a.mask) (chosen_says a.side) a.input.now (reply_says m.result) m.ensures.0 left m.new.left_list m.ensures.1 room in
    (c.framed.ensures.says ∙ says, c.framed.ensures.leaves ∙ leaves, m.ensures.2, m.ensures.3, m.ensures.4)
