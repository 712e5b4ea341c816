use native.Mathlib.Omega.{arith}
use mathlib.Core.Path.{refl, sym, ◌∙◌}
use borrow.Author.Tests.{not-true, not-false}
use Rattle.writer.proofs.Heading.{marks_stop, marks_step, marks_end}
use mathlib.Core.Path.{ap}
use mathlib.Core.Bool.{not}
use Rattle.writer.proofs.head.version_of.Goals as goal

pub returns-then-not-is_operator : goal.returns-then-not-is_operator
returns-then-not-is_operator c =
    let a = c.args in
    let z = c.requires in
    let l = c.loop-k in
    let e = refl in
    marks_stop a.list.now _ e z l.k l.invariant _ refl c.loop-k-test.true (sym c.is_operator.ensures ∙ not-true c.is_operator.result (ap not c.if-not-is_operator.true))

pub loop-k-preserved : goal.loop-k-preserved
loop-k-preserved c =
    let a = c.args in
    let z = c.requires in
    let l = c.loop-k in
    let e = refl in
    marks_step a.list.now _ e z l.k l.invariant _ refl c.loop-k-test.true (sym c.is_operator.ensures ∙ not-false c.is_operator.result (ap not c.if-not-is_operator.false))

pub returns : goal.returns
returns c =
    let a = c.args in
    let z = c.requires in
    let l = c.loop-k in
    let e = refl in
    marks_end a.list.now _ e z l.k l.invariant (omega arith)
