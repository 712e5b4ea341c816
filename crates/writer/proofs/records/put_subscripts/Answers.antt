use mathlib.Core.Path.{refl}
use Rattle.writer.proofs.Subscripts.{dividing_step, dividing_end}
use Rattle.writer.proofs.records.put_subscripts.Goals as goal

pub loop-k-preserved : goal.loop-k-preserved
loop-k-preserved c =
    let a = c.args in
    let l = c.loop-k in
    let z = c.requires.0 in
    dividing_step a.list.now a.at a.n a.cell a.out.now z l.rest l.k l.out l.invariant _ refl c.loop-k-test.true c.put_half.new.out c.requires.1 c.put_half.ensures

pub returns : goal.returns
returns c =
    let a = c.args in
    let l = c.loop-k in
    let z = c.requires.0 in
    dividing_end a.list.now a.at a.n a.cell a.out.now z l.rest l.k l.out l.invariant c.put_half-2.new.out c.loop-k-test.false c.put_half-2.ensures
