use Rattle.std.proofs.Common.{◌∙◌, ◌++◌, ap}
use Rattle.gfp_linear.specs.ChannelFrames.{packet_area}
use Rattle.gfp_linear.proofs.ChannelAreas.{packet_area_fits}
use Rattle.gfp_linear.proofs.maker.ChannelMaker.put_packet.Goals as goal

pub offer_area-requires-clause-area : goal.offer_area-requires-clause-area
offer_area-requires-clause-area c =
    packet_area_fits c.index.result.now c.args.packet.now c.as_slice.result.now c.requires.packet.0 c.requires.packet.1
    (c.as_slice.ensures.value ∙ c.append_packet_area.ensures.items ∙ ap (λ y. y ++ packet_area c.index.result.now c.args.packet.now) c.clear.ensures.items)
