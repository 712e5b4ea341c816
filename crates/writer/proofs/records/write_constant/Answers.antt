use native.Mathlib.Omega.{arith}
use mathlib.Core.Path.{refl}
use Rattle.writer.proofs.Frames.{one_then, constant-long}
use Rattle.writer.specs.File.{little_bytes}
use Rattle.writer.proofs.records.write_constant.Goals as goal

pub returns : goal.returns
returns c =
    let a = c.args in
    let k = constant-long a.x in
    let e = one_then a.out.now c.put_word.new.out (little_bytes 4 a.x) 19 (omega arith) c.put_word.ensures in
    record { long = refl; frame = e }
