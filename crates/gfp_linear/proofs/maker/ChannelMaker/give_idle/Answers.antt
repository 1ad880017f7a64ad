use Rattle.std.proofs.Common.{◌≡◌, ◌-◌, ◌+◌, ◌/◌, ◌++◌, ap, length, map, refl, subst, sym}
use Rattle.gfp_linear.specs.Weaver.{HasWoven, idles_on}
use Rattle.gfp_linear.proofs.Weaving.{idles_given}
use Rattle.gfp_linear.proofs.maker.ChannelMaker.give_idle.Goals as goal

pub returns-clause-woven : goal.returns-clause-woven
returns-clause-woven c = λ cids at emitted woven.
    subst (HasWoven cids (idles_on ((length c.args.into.now + 3) / 4) at) (emitted ++ c.fill.new.into)) (sym c.pass_idles.ensures)
    (idles_given cids at emitted c.fill.new.into _ (length c.args.into.now) c.idles_for-idles.result c.args.self.now _ c.fill.new.self woven c.requires (sym c.self.view_is) c.fill.ensures.made refl c.idles_for-idles.ensures)
