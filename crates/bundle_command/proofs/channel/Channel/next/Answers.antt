use Rattle.std.proofs.Common.{refl}
use Rattle.port_base.specs.InPlace.{in_view}
use Rattle.packet_text.specs.LinesStand.{lines_view}
use Rattle.bundle_command.proofs.Channels.{no_news, stays_over}
use Rattle.bundle_command.proofs.channel.Channel.next.Goals as goal

pub returns-in_default : goal.returns-in_default
returns-in_default g c = record {
  answered = λ first read offered h. stays_over first (in_view g.I.Source c.args.place.now) read offered _ c.args.self.now (no_news c.args.self.now.standing (lines_view c.args.self.now.lines).packet c.in_default.not-Going) h;
  answer = refl;
  closed = (c.in_default.not-Fresh, c.requires.«open»);
  packet = λ going. absurd (c.in_default.not-Going going);
  client = refl;
}
