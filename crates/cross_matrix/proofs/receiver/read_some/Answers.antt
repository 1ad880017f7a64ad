use Rattle.std.proofs.Common.{◌++◌, take}
use Rattle.std.specs.Prelude.{option_to_list, option_copied}
use Rattle.port_base.specs.OutPlace.{out_view}
use Rattle.gfp_frames.specs.Delivered.{delivered}
use Rattle.cross_matrix.proofs.Runs.{none_more, run_more}
use Rattle.cross_matrix.proofs.receiver.read_some.Goals as goal

pub returns-in_default-Some-clause-stands : goal.returns-in_default-Some-clause-stands
returns-in_default-Some-clause-stands g c = λ first earlier read h.
    let more = take c.take_some.result.0 c.args.bytes.now in
    let packets = option_to_list (option_copied c.take_some.result.1) in
    run_more first (out_view g.K.Sink c.args.place.now) (out_view g.K.Sink c.take.new.place) earlier read more packets c.args.reader.now c.take_some.follows.lender-at-none c.args.lines.now c.take.new.self
    (c.take_some.ensures.packets read h.has_read) (c.take_some.follows.holds-at-none read h.has_read) (rw c.in_default-Some.is-1 (rw c.in_default-Some.packet-is at (c.take.ensures first (earlier ++ delivered read)))) h

pub returns-in_default-None-clause-stands : goal.returns-in_default-None-clause-stands
returns-in_default-None-clause-stands g c = λ first earlier read h.
    let more = take c.take_some.result.0 c.args.bytes.now in
    let packets = option_to_list (option_copied c.take_some.result.1) in
    let now = out_view g.K.Sink c.args.place.now in
    run_more first now now earlier read more packets c.args.reader.now c.take_some.follows.lender-at-none c.args.lines.now c.args.lines.now
    (c.take_some.ensures.packets read h.has_read) (c.take_some.follows.holds-at-none read h.has_read) (rw c.in_default-None.is-1 (none_more first now (earlier ++ delivered read) c.args.lines.now)) h
