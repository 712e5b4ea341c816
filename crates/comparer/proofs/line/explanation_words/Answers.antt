use Rattle.std.proofs.Common.{List, ℕ, min, subst}
use Rattle.comparer.specs.ExplainLine.{spaced_first}
use Rattle.comparer.specs.Writing.{Adds}
use Rattle.comparer.proofs.Writing.{written-begins, starting-begins, few-indices, values_counted, words_of}
use Rattle.comparer.proofs.line.explanation_words.Goals as goal

pub returns-in-Written : goal.returns-in-Written
returns-in-Written c =
    let x = c.args.explanation in
    let v = c.values.ensures in
    words_of x _ c.in-Written.is _ (written-begins c.new.result c.new.ensures c.in-Written.a c.in-Written.e x.from x.to (spaced_first (min x.count 8) x.indices) (few-indices x.count x.indices)
    c.text.result c.spaced_number.result c.spaced_number-element.result c.spaced_number-start.result c.spaced_number-stretch.result c.spaced_values.result
    c.text.ensures c.spaced_number.ensures c.spaced_number-element.ensures c.spaced_number-start.ensures c.spaced_number-stretch.ensures
    (subst (λ (l : List ℕ). Adds c.spaced_number-stretch.result l c.spaced_values.result) (values_counted _ _ _ v.values v.count) c.spaced_values.ensures))

pub returns-in-Starting : goal.returns-in-Starting
returns-in-Starting c =
    let x = c.args.explanation in
    words_of x _ c.in-Starting.is _ (starting-begins c.new-in-Starting.result c.new-in-Starting.ensures c.text-in-Starting.result c.spaced_number-in-Starting.result c.spaced_number-in-Starting-2.result
    c.in-Starting.a c.in-Starting.e c.text-in-Starting.ensures c.spaced_number-in-Starting.ensures c.spaced_number-in-Starting-2.ensures)

pub returns-in-Refused : goal.returns-in-Refused
returns-in-Refused c = let x = c.args.explanation in words_of x _ c.in-Refused.is _ c.words.ensures
