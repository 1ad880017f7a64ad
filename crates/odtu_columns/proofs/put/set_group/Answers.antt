use Rattle.std.proofs.Common.{◌+◌, refl, arith, get_or}
use Rattle.frame_geometry.specs.Places.{place_of}
use Rattle.odtu_columns.proofs.PutGroup.{group_put_more, group_kept_more, size_before}
use Rattle.odtu_columns.proofs.put.set_group.Goals as goal

pub loop-i-init : goal.loop-i-init
loop-i-init c = record {
  put = λ j l. absurd (let bad : ⊥ = omega arith in bad);
  kept = λ place none. refl;
}

pub loop-i-preserved : goal.loop-i-preserved
loop-i-preserved c =
    let slots = c.args.slots.now in
    let row = c.args.row in
    let first = c.args.first in
    let i = c.loop-i.i in
    let frame = c.loop-i.frame in
    let now = c.set.new.self in
    let inv = c.loop-i.invariant in
    let is = c.set.ensures.written in
    let size = size_before frame now (place_of 4080 row (first + get_or slots i 0)) _ is c.set.ensures.size in
    record {
      put = group_put_more slots c.args.bytes.now frame now row first i c.requires.slots c.requires.rising c.loop-i-test.true c.requires.row_low c.requires.row_high size is inv.put;
      kept = group_kept_more slots c.args.bytes.now c.args.frame.now frame now row first i is inv.kept;
    }
