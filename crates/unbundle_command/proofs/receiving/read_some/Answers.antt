use Rattle.std.proofs.Common.{◌++◌, take}
use Rattle.std.specs.Prelude.{option_to_list, option_map}
use Rattle.port_base.specs.Racks.{bays_view}
use Rattle.gfp_linear.specs.ChannelArrivals.{channel_arrivals, seen}
use Rattle.unbundle_command.proofs.Runs.{none_more, run_more}
use Rattle.unbundle_command.proofs.receiving.read_some.Goals as goal

pub returns-in_default-Some-clause-read : goal.returns-in_default-Some-clause-read
returns-in_default-Some-clause-read g c = λ first earlier read h.
    let further = take c.take_some.result.0 c.args.bytes.now in
    let more = option_to_list (option_map seen c.take_some.result.1) in
    run_more first (bays_view g.I.Source g.O.Sink c.args.bays.now) (bays_view g.I.Source g.O.Sink c.take.new.bays) earlier read further more c.args.reader.now c.take_some.follows.lender-at-none c.args.outputs.now c.take.new.self
    (c.take_some.ensures.arrivals read h.has_read) (c.take_some.follows.holds-at-none read h.has_read) (rw c.in_default-Some.is-1 (rw c.in_default-Some.arrival-is at (c.take.ensures.stands first (earlier ++ channel_arrivals read)))) h

pub returns-in_default-None-clause-read : goal.returns-in_default-None-clause-read
returns-in_default-None-clause-read g c = λ first earlier read h.
    let further = take c.take_some.result.0 c.args.bytes.now in
    let more = option_to_list (option_map seen c.take_some.result.1) in
    let now = bays_view g.I.Source g.O.Sink c.args.bays.now in
    run_more first now now earlier read further more c.args.reader.now c.take_some.follows.lender-at-none c.args.outputs.now c.args.outputs.now
    (c.take_some.ensures.arrivals read h.has_read) (c.take_some.follows.holds-at-none read h.has_read) (rw c.in_default-None.is-1 (none_more first now (earlier ++ channel_arrivals read) c.args.outputs.now)) h
