use Rattle.gfp_linear.proofs.Weaving.{packet_woven, packet_in_hand}
use Rattle.gfp_linear.proofs.maker.ChannelMaker.give.Goals as goal

pub returns : goal.returns
returns c = record {
  woven = λ cids at emitted woven.
      packet_woven cids at emitted c.args.self.now c.put_packet.new.self c.channel-channel.result c.args.packet.now woven c.requires.asked c.channel-channel.ensures.channel c.put_packet.ensures;
  hand = packet_in_hand c.args.self.now c.put_packet.new.self c.channel-channel.result c.args.packet.now c.put_packet.ensures;
}
