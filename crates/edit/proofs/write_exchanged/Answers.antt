use Prim.Native.Nat.{◌+◌, ◌-◌}
use mathlib.Core.Path.{sym}
use native.Mathlib.Omega.{arith}
use lib.ListN.{length, drop, length-drop}
use lib.Seq.{length-take-le}
use Rattle.bits.specs.Part.{part-from}
use Rattle.text.specs.Put.{wrote-more, wrote_as}
use Rattle.record.specs.RecordLaws.{exchanged-at}
use Rattle.edit.proofs.write_exchanged.Goals as goal

pub overflow_add-rest : goal.overflow_add-rest
overflow_add-rest c =
    let place_of = c.place_of-place in
    let made = exchanged-at _ _ c.args.replacement.now _ c.requires.seeking place_of.ensures in
    let fits = made.fits in
    omega arith

pub slice_bounds-write_bytes-end : goal.slice_bounds-write_bytes-end
slice_bounds-write_bytes-end c =
    let place_of = c.place_of-place in
    let made = exchanged-at _ _ c.args.replacement.now _ c.requires.seeking place_of.ensures in
    let fits = made.fits in
    sym (length-take-le _ _ (omega arith))

pub write_bytes-at-requires : goal.write_bytes-at-requires
write_bytes-at-requires c =
    let place_of = c.place_of-place in
    let made = exchanged-at _ _ c.args.replacement.now _ c.requires.seeking place_of.ensures in
    let fits = made.fits in
    let size = made.size in
    let room = c.requires.replacement_in_bounds in
    let front = length-take-le place_of.result.start c.args.file.now (omega arith) in
    omega arith

pub write_bytes-next-requires : goal.write_bytes-next-requires
write_bytes-next-requires c =
    let place_of = c.place_of-place in
    let made = exchanged-at _ _ c.args.replacement.now _ c.requires.seeking place_of.ensures in
    let fits = made.fits in
    let size = made.size in
    let room = c.requires.replacement_in_bounds in
    let front = length-take-le place_of.result.start c.args.file.now (omega arith) in
    let one = c.write_bytes-at.ensures in
    let end = one.end_is in
    let same = one.size in
    omega arith

pub slice_bounds-write_bytes-count : goal.slice_bounds-write_bytes-count
slice_bounds-write_bytes-count c =
    let place_of = c.place_of-place in
    (exchanged-at _ _ c.args.replacement.now _ c.requires.seeking place_of.ensures).fits

pub slice_bounds-write_bytes-start : goal.slice_bounds-write_bytes-start
slice_bounds-write_bytes-start c =
    let place_of = c.place_of-place in
    (exchanged-at _ _ c.args.replacement.now _ c.requires.seeking place_of.ensures).fits

pub write_bytes-requires : goal.write_bytes-requires
write_bytes-requires c =
    let place_of = c.place_of-place in
    let made = exchanged-at _ _ c.args.replacement.now _ c.requires.seeking place_of.ensures in
    let fits = made.fits in
    let size = made.size in
    let room = c.requires.replacement_in_bounds in
    let front = length-take-le place_of.result.start c.args.file.now (omega arith) in
    let one = c.write_bytes-at.ensures in
    let two = c.write_bytes-next.ensures in
    let end = one.end_is in
    let same = one.size in
    let end2 = two.end_is in
    let same2 = two.size in
    let left = length-drop (place_of.result.start + place_of.result.len) c.args.file.now in
    let back = length-take-le (length c.args.file.now - (place_of.result.start + place_of.result.len)) (drop (place_of.result.start + place_of.result.len) c.args.file.now) (omega arith) in
    omega arith

pub returns : goal.returns
returns c =
    let place_of = c.place_of-place in
    let made = exchanged-at _ _ c.args.replacement.now _ c.requires.seeking place_of.ensures in
    let one = c.write_bytes-at.ensures in
    let two = c.write_bytes-next.ensures in
    let three = wrote_as (part-from c.args.file.now (place_of.result.start + place_of.result.len)) c.write_bytes.ensures in
    wrote_as (sym made.parts) (wrote-more one (wrote-more two three))
