use lib.ListN.{get_or}
use mathlib.Core.Path.{refl}
use native.Mathlib.Omega.{arith}
use Prim.Native.Nat.{◌+◌, ◌-◌, ◌*◌}
use Rattle.writer.specs.File.{little_bytes}
use Rattle.writer.specs.Head.{dimensions_at}
use Rattle.writer.proofs.Frames.{two_long}
use Rattle.writer.proofs.Writing.{writing_part, writing_end, dimensions_next, dimensions_none, dimensions-long}
use Rattle.writer.proofs.head.put_dimensions.Goals as goal

pub loop-k-preserved : goal.loop-k-preserved
loop-k-preserved c =
    let a = c.args in
    let l = c.loop-k in
    let p = c.requires in
    writing_part (dimensions_at a.list.now a.at a.n) a.out.now (dimensions_at a.list.now (a.at + l.k) (a.n - l.k)) (2 * l.k) l.out l.invariant (little_bytes 2 _) (dimensions_at a.list.now (a.at + (l.k + 1)) (a.n - (l.k + 1))) c.put_half.new.out (2 * (l.k + 1)) (dimensions_next a.list.now a.at a.n l.k _ refl p.0 c.loop-k-test.true) (let g = dimensions-long a.list.now a.at a.n p.0 in let q = p.1 in omega arith) c.put_half.ensures (let t = two_long (get_or a.list.now (a.at + l.k) 0) in omega arith)

pub returns : goal.returns
returns c =
    let a = c.args in
    let l = c.loop-k in
    (writing_end (dimensions_at a.list.now a.at a.n) a.out.now (dimensions_at a.list.now (a.at + l.k) (a.n - l.k)) (2 * l.k) l.out l.invariant (dimensions_none a.list.now a.at a.n l.k (omega arith))).1
