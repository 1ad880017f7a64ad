use Rattle.std.proofs.Common.{[]}
use Rattle.pcap_packets.specs.HeldBytes.{held}
use Rattle.pcap_packets.specs.Steps.Writing.{Went}
use Rattle.pcap_packets.proofs.Standing.{stand_either, got_whole, got_part, line_of_record, record_fits}
use Rattle.pcap_packets.proofs.sink.PcapSink.write_record.Goals as goal

pub invariant_of-self : goal.invariant_of-self
invariant_of-self g c =
    let old = c.args.self.now in
    let new = c.write.new.self in
    record {
      stands = stand_either c.write.result (g.S.Sink.got old.inner) (g.S.Sink.got c.write.new.sink) old.lines.begun new.begun (held old.lines.line) (held new.line) (held old.lines.rest) (held new.rest) old.stands (record_fits old.lines c.requires) c.write.ensures.sent c.requires
          c.write.ensures.begun c.write.ensures.whole c.write.ensures.part;
    }

pub returns-in-Ok-clause-got : goal.returns-in-Ok-clause-got
returns-in-Ok-clause-got g c =
    let old = c.args.self.now in
    let written : Went (held old.lines.rest) (g.S.Sink.got old.inner) [] (g.S.Sink.got c.write.new.sink) = rw c.in-Ok.ensures.whole.0 at c.write.ensures.sent in
    rw c.in-Ok.ensures.whole.1 (got_whole (g.S.Sink.got old.inner) (g.S.Sink.got c.write.new.sink) old.lines.begun (held old.lines.line) (held old.lines.rest) old.stands (record_fits old.lines c.requires) written c.requires (line_of_record old.lines c.requires))

pub returns-in-Err-clause-got : goal.returns-in-Err-clause-got
returns-in-Err-clause-got g c =
    let old = c.args.self.now in
    rw c.in-Err.ensures.part.1 (got_part (g.S.Sink.got old.inner) (g.S.Sink.got c.write.new.sink) old.lines.begun (held old.lines.line) (held old.lines.rest) (held c.write.new.self.rest) old.stands (record_fits old.lines c.requires) c.write.ensures.sent c.in-Err.ensures.part.0)
