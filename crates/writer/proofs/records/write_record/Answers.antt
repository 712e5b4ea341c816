use mathlib.Core.Path.{refl}
use native.Mathlib.Omega.{arith}
use Rattle.writer.proofs.Cellwise.{number-known, sizes-known, literal-room, constant-room, operator-room, cell_room, literal_wrote, constant_wrote, operator_wrote, cell_wrote}
use Rattle.writer.proofs.records.write_record.Goals as goal

pub write_literal-requires : goal.write_literal-requires
write_literal-requires c =
    let a = c.args in
    let p = c.requires in
    literal-room a.list.now a.at _ _ refl refl _ p.1 c.if-code-eq-LITERAL.true

pub returns-then-code-eq-LITERAL : goal.returns-then-code-eq-LITERAL
returns-then-code-eq-LITERAL c =
    let all = let a = c.args in
    literal_wrote a.list.now a.at _ _ refl refl c.write_literal.result a.out.now _ c.if-code-eq-LITERAL.true c.write_literal.ensures.long c.write_literal.ensures.frame in
    record { long = all.0; frame = all.1 }

pub write_constant-requires : goal.write_constant-requires
write_constant-requires c =
    let a = c.args in
    let p = c.requires in
    constant-room a.list.now a.at _ _ refl refl _ p.1 c.if-code-eq-LITERAL.false c.if-code-eq-CONSTANT.true

pub returns-then-code-eq-CONSTANT : goal.returns-then-code-eq-CONSTANT
returns-then-code-eq-CONSTANT c =
    let all = let a = c.args in
    constant_wrote a.list.now a.at _ _ refl refl c.write_constant.result a.out.now _ c.if-code-eq-LITERAL.false c.if-code-eq-CONSTANT.true c.write_constant.ensures.long c.write_constant.ensures.frame in
    record { long = all.0; frame = all.1 }

pub write_operator-requires : goal.write_operator-requires
write_operator-requires c =
    let a = c.args in
    let p = c.requires in
    (number-known a.list.now a.at _ _ refl refl p.0 c.if-code-eq-LITERAL.false c.if-code-eq-CONSTANT.false, operator-room a.list.now a.at _ _ refl refl _ p.1 c.if-code-eq-LITERAL.false c.if-code-eq-CONSTANT.false c.if-code-eq-OPERATOR.true)

pub returns-then-code-eq-OPERATOR : goal.returns-then-code-eq-OPERATOR
returns-then-code-eq-OPERATOR c =
    let all = let a = c.args in
    operator_wrote a.list.now a.at _ _ refl refl c.write_operator.result a.out.now _ c.if-code-eq-LITERAL.false c.if-code-eq-CONSTANT.false c.if-code-eq-OPERATOR.true c.write_operator.ensures.long c.write_operator.ensures.frame in
    record { long = all.0; frame = all.1 }

pub write_cell-requires : goal.write_cell-requires
write_cell-requires c =
    let a = c.args in
    let p = c.requires in
    ((let f = p.0.code in omega arith), number-known a.list.now a.at _ _ refl refl p.0 c.if-code-eq-LITERAL.false c.if-code-eq-CONSTANT.false, sizes-known a.list.now a.at _ _ refl refl p.0 c.if-code-eq-LITERAL.false c.if-code-eq-CONSTANT.false c.if-code-eq-OPERATOR.false, cell_room a.list.now a.at _ _ refl refl _ p.1 _ refl p.0 c.if-code-eq-LITERAL.false c.if-code-eq-CONSTANT.false c.if-code-eq-OPERATOR.false)

pub returns : goal.returns
returns c =
    let all = let a = c.args in
    let p = c.requires in
    cell_wrote a.list.now a.at _ _ refl refl c.write_cell.result a.out.now _ _ (omega arith) p.0 c.if-code-eq-LITERAL.false c.if-code-eq-CONSTANT.false c.if-code-eq-OPERATOR.false c.write_cell.ensures.long c.write_cell.ensures.frame in
    record { long = all.0; frame = all.1 }
