use Rattle.std.proofs.Common.{◌∙◌, arith, length-take}
use Rattle.odu_client.proofs.PayloadRows.{payload_filled}
use Rattle.odu_client.proofs.Making.{rows_are}
use Rattle.odu_client.proofs.frame_maker.put_payload.Goals as goal

pub slice_bounds-copy_from_slice-end : goal.slice_bounds-copy_from_slice-end
slice_bounds-copy_from_slice-end c = (let l = length-take 3808 c.args.payload.now in let r = c.requires in omega arith)

pub returns : goal.returns
returns c =
    let payload = c.args.payload.now in
    let p1 = c.copy_from_slice.new.self in
    let p2 = c.copy_from_slice-2.new.self in
    let p3 = c.copy_from_slice-3.new.self in
    let p4 = c.copy_from_slice-4.new.self in
    payload_filled c.args.frame.now p1 p2 p3 p4 c.payload_row_mut.ensures.frame (omega arith) (omega arith) (omega arith) (omega arith)
    ∙ rows_are payload p1 p2 p3 p4 c.requires c.copy_from_slice.ensures.after c.copy_from_slice-2.ensures.after c.copy_from_slice-3.ensures.after c.copy_from_slice-4.ensures.after
