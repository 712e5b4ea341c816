use native.Mathlib.Omega.{arith}
use mathlib.Core.Path.{refl}
use Rattle.writer.proofs.Frames.{one_then, two_long}
use Rattle.writer.specs.File.{little_bytes}
use Rattle.writer.proofs.records.write_literal.Goals as goal

pub returns : goal.returns
returns c =
    let a = c.args in
    let k = two_long a.x in
    let e = one_then a.out.now c.put_half.new.out (little_bytes 2 a.x) 18 (omega arith) c.put_half.ensures in
    record { long = refl; frame = e }
