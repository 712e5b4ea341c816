use mathlib.Core.Path.{refl}
use native.Mathlib.Omega.{arith}
use Rattle.writer.proofs.Heading.{head-long}
use Rattle.writer.proofs.head.head_size.Goals as goal

pub returns : goal.returns
returns c =
    let a = c.args in
    let z = c.requires in
    let e = refl in
    let f = refl in
    record { says = (λ version. let l = head-long a.list.now version z _ _ e f in let r = c.arrays_size-size.ensures.says in omega arith); few = (let r = c.arrays_size-size.ensures.few in omega arith) }
