use Rattle.std.proofs.Common.{◌≡◌, List, vec_len}
use Rattle.port_base.specs.Racks.{bays_view}
use Rattle.port_base.specs.Views.{BaysView}
use Rattle.gfp_linear.specs.ChannelArrivals.{ChannelArrival}
use Rattle.unbundle_command.specs.Steps.Receiving.{ChannelsStand, NoneHeld, OnlyClientsOut}
use Rattle.unbundle_command.proofs.outputs.flush_all.Given as goal

-- the lines of the channels so far have left
abbrev pub invariant-loop-cid : goal.invariant-loop-cid
invariant-loop-cid g l = record {
  many : vec_len l.channels ≡ 16;
  stands : (first : BaysView) (arrived : List ChannelArrival) → ChannelsStand first (bays_view g.I.Source g.O.Sink l.fn.bays) arrived l.fn.channels.items
      → ChannelsStand first (bays_view g.I.Source g.O.Sink l.bays) arrived l.channels.items;
  none : NoneHeld l.cid l.channels.items;
  alone : OnlyClientsOut (bays_view g.I.Source g.O.Sink l.fn.bays) (bays_view g.I.Source g.O.Sink l.bays);
}
