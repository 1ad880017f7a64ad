use Rattle.std.proofs.Common.{length, ap, arith}
use Rattle.gfp_linear.specs.Weaver.{WeaverState}
use Rattle.gfp_linear.proofs.Weaving.{idle_woven, idle_in_hand}
use Rattle.gfp_linear.proofs.maker.ChannelMaker.nothing.Goals as goal

pub returns-else-self-len : goal.returns-else-self-len
returns-else-self-len c = record {
  woven = λ cids at emitted woven.
      let count = ap (λ (s : WeaverState). length s.cids) c.self.view_is in
      let asked = ap (λ (s : WeaverState). s.asked) c.self.view_is in
      idle_woven cids at emitted c.args.self.now c.put_idle.new.self woven c.requires (omega (arith, c.if-self-len.false, c.len.ensures)) c.put_idle.ensures;
  round = λ none. absurd (idle_in_hand c.args.self.now c.put_idle.new.self c.put_idle.ensures none);
}
