use Rattle.std.proofs.Common.{arith}
use Rattle.gfp_linear.proofs.Weaving.{lost_woven, late_woven, loss_in_hand}
use Rattle.gfp_linear.proofs.maker.ChannelMaker.lost.Goals as goal

pub returns-then-wait_of-gt0 : goal.returns-then-wait_of-gt0
returns-then-wait_of-gt0 c = record {
  woven = λ cids at emitted woven.
      late_woven cids at emitted c.args.self.now c.nothing.new.self c.channel-channel.result woven c.channel-channel.ensures.channel c.channel-channel.ensures.within (omega (arith, c.wait_of.ensures, c.if-wait_of-gt0.true))
      (c.nothing.ensures.woven cids at emitted woven);
  round = c.nothing.ensures.round;
}

pub returns-else-wait_of-gt0 : goal.returns-else-wait_of-gt0
returns-else-wait_of-gt0 c = record {
  woven = λ cids at emitted woven.
      lost_woven cids at emitted c.args.self.now c.put_loss.new.self c.channel-channel.result woven c.requires c.channel-channel.ensures.channel c.channel-channel.ensures.within (omega (arith, c.wait_of.ensures, c.if-wait_of-gt0.false))
      c.put_loss.ensures;
  round = λ none. absurd (loss_in_hand c.args.self.now c.put_loss.new.self c.channel-channel.result c.put_loss.ensures none);
}
