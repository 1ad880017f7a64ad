use Rattle.std.proofs.Common.{take}
use Rattle.pcap_packets.specs.HeldBytes.{held}
use Rattle.pcap_packets.proofs.ManyStand.{stands_went, got_went}
use Rattle.pcap_packets.proofs.sink.PcapSink.write_together.Goals as goal

pub invariant_of-self : goal.invariant_of-self
invariant_of-self g c =
    let old = c.args.self.now in
    let new = c.write_lines.new.self in
    let e = c.write_lines.ensures in
    let b = c.is_between.ensures in
    let t = c.if-not-is_between.false in
    record {
      stands = stands_went c.write_lines.result.0 (take c.write_lines.result.1 c.args.lines.now) (g.S.Sink.got old.inner) (g.S.Sink.got c.write_lines.new.sink) old.lines.begun new.begun (held old.lines.line) (held new.line) (held old.lines.rest) (held new.rest)
          old.stands (b.begun t) (b.line t) (b.rest t) e.begun e.sent e.rest;
    }

pub returns-clause-got : goal.returns-clause-got
returns-clause-got g c =
    let old = c.args.self.now in
    let new = c.write_lines.new.self in
    let e = c.write_lines.ensures in
    let b = c.is_between.ensures in
    let t = c.if-not-is_between.false in
    got_went c.write_lines.result.0 (take c.write_lines.result.1 c.args.lines.now) (g.S.Sink.got old.inner) (g.S.Sink.got c.write_lines.new.sink) old.lines.begun (held old.lines.line) (held new.line) (held old.lines.rest) (held new.rest)
    old.stands (b.begun t) (b.line t) (b.rest t) e.sent e.rest
