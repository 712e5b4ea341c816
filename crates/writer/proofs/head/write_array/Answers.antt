use Prim.Native.Nat.{◌+◌}
use lib.ListN.{get_or}
use mathlib.Core.Path.{refl}
use native.Mathlib.Omega.{arith}
use Prim.Native.Nat.{◌*◌}
use Rattle.writer.proofs.Frames.{part_room}
use Rattle.writer.proofs.Writing.{array_long, array_bytes_lem, array_wrote}
use Rattle.writer.proofs.head.write_array.Goals as goal

pub put_bytes-requires : goal.put_bytes-requires
put_bytes-requires c =
    let a = c.args in
    let p = c.requires in
    ((let t = p.0.there in let u = p.0.three in let r = p.1 in let v = array_long a.list.now a.at p.0 in omega arith), (let t = p.0.there in let u = p.0.three in let r = p.1 in let v = array_long a.list.now a.at p.0 in omega arith), array_bytes_lem a.list.now a.at p.0)

pub slice_bounds-put_dimensions-count : goal.slice_bounds-put_dimensions-count
slice_bounds-put_dimensions-count c =
    let a = c.args in
    let p = c.requires in
    let v = array_long a.list.now a.at p.0 in
    omega arith

pub slice_bounds-put_dimensions-start : goal.slice_bounds-put_dimensions-start
slice_bounds-put_dimensions-start c =
    let a = c.args in
    let p = c.requires in
    let v = array_long a.list.now a.at p.0 in
    omega arith

pub put_dimensions-requires : goal.put_dimensions-requires
put_dimensions-requires c =
    let a = c.args in
    let p = c.requires in
    ((let t = p.0.there in let u = p.0.three in let r = p.1 in let v = array_long a.list.now a.at p.0 in omega arith), part_room 2 (2 * get_or a.list.now (a.at + 1) 0) c.put_bytes.new.out (let t = p.0.there in let u = p.0.three in let r = p.1 in let v = array_long a.list.now a.at p.0 in let k = c.put_bytes.auto.out in omega arith))

pub returns : goal.returns
returns c =
    let all = let a = c.args in
    let p = c.requires in
    let w = array_wrote a.list.now a.at _ a.out.now c.put_bytes.new.out c.put_dimensions.new.out p.0 refl p.1 c.put_bytes.ensures c.put_dimensions.ensures in
    w in
    record { long = all.0; frame = all.1 }
