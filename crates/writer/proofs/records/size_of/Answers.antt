use mathlib.Core.Path.{refl}
use Rattle.writer.proofs.Measuring.{literal-size, constant-size, operator-size, cell-size}
use Rattle.writer.proofs.records.size_of.Goals as goal

pub returns-then-code-eq-LITERAL : goal.returns-then-code-eq-LITERAL
returns-then-code-eq-LITERAL c =
    let a = c.args in
    literal-size a.list.now a.at _ refl c.if-code-eq-LITERAL.true

pub returns-then-code-eq-CONSTANT : goal.returns-then-code-eq-CONSTANT
returns-then-code-eq-CONSTANT c =
    let a = c.args in
    constant-size a.list.now a.at _ refl c.if-code-eq-LITERAL.false c.if-code-eq-CONSTANT.true

pub returns-then-code-eq-OPERATOR : goal.returns-then-code-eq-OPERATOR
returns-then-code-eq-OPERATOR c =
    let a = c.args in
    operator-size a.list.now a.at _ refl c.if-code-eq-LITERAL.false c.if-code-eq-CONSTANT.false c.if-code-eq-OPERATOR.true

pub returns : goal.returns
returns c =
    let a = c.args in
    let z = c.requires in
    cell-size a.list.now a.at _ refl _ _ refl refl z c.if-code-eq-LITERAL.false c.if-code-eq-CONSTANT.false c.if-code-eq-OPERATOR.false
