use Rattle.std.proofs.Common.{arith}
use Rattle.pcap_packets.specs.HeldBytes.{held}
use Rattle.pcap_packets.proofs.Standing.{fresh_stands, fresh_text}
use Rattle.pcap_packets.proofs.sink.PcapSink.new.Goals as goal

pub invariant_of-result : goal.invariant_of-result
invariant_of-result g c =
    let lines = c.in_ok-new.field-0 in
    record { stands = fresh_stands (g.S.Sink.got c.args.inner) lines.begun (held lines.line) (held lines.rest) c.requires c.in_ok-new.ensures.begun c.in_ok-new.ensures.rest }

pub returns-clause-got : goal.returns-clause-got
returns-clause-got g c = fresh_text (g.S.Sink.got c.args.inner) (held c.in_ok-new.field-0.line) c.requires c.in_ok-new.ensures.line

pub returns-clause-faults : goal.returns-clause-faults
returns-clause-faults g c = omega arith
