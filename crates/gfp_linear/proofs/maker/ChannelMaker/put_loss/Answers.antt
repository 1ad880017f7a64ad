use Rattle.std.proofs.Common.{◌∙◌, ◌++◌, ap}
use Rattle.gfp_linear.specs.ChannelFrames.{loss_area}
use Rattle.gfp_linear.proofs.ChannelAreas.{loss_area_fits}
use Rattle.gfp_linear.proofs.maker.ChannelMaker.put_loss.Goals as goal

pub offer_area-requires-clause-area : goal.offer_area-requires-clause-area
offer_area-requires-clause-area c =
    loss_area_fits c.index.result.now c.as_slice.result.now (c.as_slice.ensures.value ∙ c.append_loss_area.ensures.items ∙ ap (λ y. y ++ loss_area c.index.result.now) c.clear.ensures.items)
