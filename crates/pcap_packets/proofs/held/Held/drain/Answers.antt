use Rattle.std.proofs.Common.{◌∙◌, ap, take}
use Rattle.port_base.specs.Bytes.{after}
use Rattle.pcap_packets.specs.HeldBytes.{held}
use Rattle.pcap_packets.proofs.Windows.{went_more}
use Rattle.pcap_packets.proofs.held.Held.drain.Goals as goal

pub loop-sink-preserved : goal.loop-sink-preserved
loop-sink-preserved g c =
    let n = c.in_ok-count.count in
    record {
      written = went_more (held c.args.self.now) (held c.loop-sink.self) (held c.pass.new.self) (g.S.Sink.got c.args.sink.now) (g.S.Sink.got c.loop-sink.sink) (g.S.Sink.got c.write.new.self) n
          c.loop-sink.invariant.written c.pass.ensures (c.in_ok-count.ensures.bytes ∙ ap (λ bytes. after (g.S.Sink.got c.loop-sink.sink) (take n bytes)) c.bytes.ensures);
      well = c.in_ok-count.ensures.well ∙ c.loop-sink.invariant.well;
    }
