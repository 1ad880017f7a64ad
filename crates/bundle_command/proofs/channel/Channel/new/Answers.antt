use Rattle.std.proofs.Common.{[], refl, ap}
use Rattle.packet_text.specs.LinesStand.{LinesView}
use Rattle.bundle_command.proofs.channel.Channel.new.Goals as goal

pub returns-clause-stands : goal.returns-clause-stands
returns-clause-stands c = λ first. record {
  beyond = [];
  text = c.in_ok-new.ensures.stands first;
  so = (refl, refl, ap (λ (v : LinesView). v.answer) c.in_ok-new.ensures.fresh);
  short = refl;
  count = refl;
}
