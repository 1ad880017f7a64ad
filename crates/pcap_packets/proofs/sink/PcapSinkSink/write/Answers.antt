use Rattle.pcap_packets.proofs.Digits.{lf_first}
use Rattle.pcap_packets.proofs.sink.PcapSinkSink.write.Goals as goal

pub returns-then-first-eq-LF-clause-taken : goal.returns-then-first-eq-LF-clause-taken
returns-then-first-eq-LF-clause-taken g c =
    let f = lf_first c.args.bytes.now c.in-Some.first.now c.in-Some.ensures.value c.if-first-eq-LF.true in
    rw f.is (c.end_line.ensures.taken f.more)

pub returns-then-first-eq-LF-clause-fails : goal.returns-then-first-eq-LF-clause-fails
returns-then-first-eq-LF-clause-fails g c =
    let f = lf_first c.args.bytes.now c.in-Some.first.now c.in-Some.ensures.value c.if-first-eq-LF.true in
    rw f.is (c.end_line.ensures.fails f.more)

pub returns-then-first-eq-LF-clause-refused : goal.returns-then-first-eq-LF-clause-refused
returns-then-first-eq-LF-clause-refused g c =
    let f = lf_first c.args.bytes.now c.in-Some.first.now c.in-Some.ensures.value c.if-first-eq-LF.true in
    rw f.is (c.end_line.ensures.refused f.more)
