use lib.ListN.{get_or}
use native.Mathlib.Omega.{arith}
use mathlib.Core.Path.{refl}
use Prim.Native.Nat.{◌+◌, ◌-◌}
use lib.ListN.{length}
use borrow.Rule.Slice.PartMut.{put_mid}
use Rattle.writer.specs.Head.{arrays_bytes_at}
use Rattle.writer.proofs.Frames.{part_room}
use Rattle.writer.proofs.Heading.{head-long, head_words_lem, count_word, head_wrote}
use Rattle.writer.proofs.head.write_head.Goals as goal

pub write_mark-requires : goal.write_mark-requires
write_mark-requires c =
    let a = c.args in
    let w = a.list.now in
    let z = c.requires.0 in
    let n = get_or w 0 0 in
    let m = get_or w 17 0 in
    let long = head-long w a.version z n m refl refl in
    omega arith

pub slice_bounds-put_bytes-count : goal.slice_bounds-put_bytes-count
slice_bounds-put_bytes-count c =
    let a = c.args in
    let w = a.list.now in
    let z = c.requires.0 in
    let n = get_or w 0 0 in
    let m = get_or w 17 0 in
    let long = head-long w a.version z n m refl refl in
    omega arith

pub slice_bounds-put_bytes-start : goal.slice_bounds-put_bytes-start
slice_bounds-put_bytes-start c =
    let a = c.args in
    let w = a.list.now in
    let z = c.requires.0 in
    let n = get_or w 0 0 in
    let m = get_or w 17 0 in
    let long = head-long w a.version z n m refl refl in
    omega arith

pub put_bytes-requires : goal.put_bytes-requires
put_bytes-requires c =
    let a = c.args in
    let w = a.list.now in
    let z = c.requires.0 in
    let n = get_or w 0 0 in
    let m = get_or w 17 0 in
    let long = head-long w a.version z n m refl refl in
    let o1 = c.write_mark.new.out in
    (omega arith, part_room 5 (n + 1) o1 (omega arith), head_words_lem w a.version z n refl)

pub slice_bounds-put_bytes-count-2 : goal.slice_bounds-put_bytes-count-2
slice_bounds-put_bytes-count-2 c =
    let a = c.args in
    let w = a.list.now in
    let z = c.requires.0 in
    let n = get_or w 0 0 in
    let m = get_or w 17 0 in
    let long = head-long w a.version z n m refl refl in
    omega arith

pub slice_bounds-put_bytes-start-2 : goal.slice_bounds-put_bytes-start-2
slice_bounds-put_bytes-start-2 c =
    let a = c.args in
    let w = a.list.now in
    let z = c.requires.0 in
    let n = get_or w 0 0 in
    let m = get_or w 17 0 in
    let long = head-long w a.version z n m refl refl in
    omega arith

pub put_bytes-requires-2 : goal.put_bytes-requires-2
put_bytes-requires-2 c =
    let a = c.args in
    let w = a.list.now in
    let z = c.requires.0 in
    let n = get_or w 0 0 in
    let m = get_or w 17 0 in
    let long = head-long w a.version z n m refl refl in
    let o1 = c.write_mark.new.out in
    let p2 = c.put_bytes.new.out in
    let o2 = put_mid 5 (length o1 - 5) o1 p2 in
    (omega arith, part_room (6 + n) 1 o2 (omega arith), count_word w a.version z)

pub slice_bounds-write_arrays-count : goal.slice_bounds-write_arrays-count
slice_bounds-write_arrays-count c =
    let a = c.args in
    let w = a.list.now in
    let z = c.requires.0 in
    let n = get_or w 0 0 in
    let m = get_or w 17 0 in
    let long = head-long w a.version z n m refl refl in
    omega arith

pub slice_bounds-write_arrays-start : goal.slice_bounds-write_arrays-start
slice_bounds-write_arrays-start c =
    let a = c.args in
    let w = a.list.now in
    let z = c.requires.0 in
    let n = get_or w 0 0 in
    let m = get_or w 17 0 in
    let long = head-long w a.version z n m refl refl in
    omega arith

pub write_arrays-size-requires : goal.write_arrays-size-requires
write_arrays-size-requires c =
    let a = c.args in
    let w = a.list.now in
    let z = c.requires.0 in
    let n = get_or w 0 0 in
    let m = get_or w 17 0 in
    let long = head-long w a.version z n m refl refl in
    let o1 = c.write_mark.new.out in
    let p2 = c.put_bytes.new.out in
    let o2 = put_mid 5 (length o1 - 5) o1 p2 in
    let p3 = c.put_bytes-2.new.out in
    let o3 = put_mid (6 + n) (length o2 - (6 + n)) o2 p3 in
    (z.arrays, part_room (7 + n) (length (arrays_bytes_at w 18 m)) o3 (omega arith))

pub overflow_add-result-2 : goal.overflow_add-result-2
overflow_add-result-2 c =
    let a = c.args in
    let w = a.list.now in
    let z = c.requires.0 in
    let n = get_or w 0 0 in
    let m = get_or w 17 0 in
    let long = head-long w a.version z n m refl refl in
    omega arith

pub returns : goal.returns
returns c =
    let all = let a = c.args in
    let w = a.list.now in
    let z = c.requires.0 in
    let room = c.requires.1 in
    let n = get_or w 0 0 in
    let m = get_or w 17 0 in
    let o1 = c.write_mark.new.out in
    let p2 = c.put_bytes.new.out in
    let p3 = c.put_bytes-2.new.out in
    let p4 = c.write_arrays-size.new.out in
    let s = c.write_arrays-size.ensures.long in
    head_wrote w a.version z n m refl refl a.out.now o1 p2 p3 p4 c.write_arrays-size.result room c.write_mark.ensures c.put_bytes.ensures c.put_bytes-2.ensures c.write_arrays-size.ensures.frame s in
    record { long = all.0; frame = all.1 }
