use Rattle.std.proofs.Common.{◌≡◌, ◌≤◌, ◌<◌, arith, length, true}
use Rattle.pcap_packets.specs.HeldBytes.{held}
use Rattle.pcap_packets.specs.CaptureText.{captured, is_whole_record}
use Rattle.pcap_packets.proofs.Records.{whole_record}
use Rattle.pcap_packets.proofs.Fronts.{line_made, line_bad}
use Rattle.pcap_packets.proofs.lines.CaptureLines.next_line.Goals as goal

pub make_line-requires-clause-whole : goal.make_line-requires-clause-whole
make_line-requires-clause-whole c =
    let whole : is_whole_record c.args.order (held c.args.self.now.hand) ≡ true = rw c.bytes.ensures at c.in-Whole.ensures.0 in
    let is : captured c.args.order (held c.args.self.now.hand) ≡ c.in-Whole.size = rw c.bytes.ensures at c.in-Whole.ensures.1 in
    let packet = (whole_record c.args.order (held c.args.self.now.hand) whole).packet in
    omega (arith, is, packet)

pub make_line-requires-clause-fits : goal.make_line-requires-clause-fits
make_line-requires-clause-fits c =
    let whole : is_whole_record c.args.order (held c.args.self.now.hand) ≡ true = rw c.bytes.ensures at c.in-Whole.ensures.0 in
    let is : captured c.args.order (held c.args.self.now.hand) ≡ c.in-Whole.size = rw c.bytes.ensures at c.in-Whole.ensures.1 in
    let fits = (whole_record c.args.order (held c.args.self.now.hand) whole).fits in
    omega (arith, is, fits)

pub returns-in-Whole-clause-same : goal.returns-in-Whole-clause-same
returns-in-Whole-clause-same c =
    let whole : is_whole_record c.args.order (held c.args.self.now.hand) ≡ true = rw c.bytes.ensures at c.in-Whole.ensures.0 in
    let is : captured c.args.order (held c.args.self.now.hand) ≡ c.in-Whole.size = rw c.bytes.ensures at c.in-Whole.ensures.1 in
    λ coming. rw (c.make_line.ensures.stage, c.requires.records)
    (line_made c.args.order (held c.args.self.now.line) (held c.args.self.now.hand) (held c.make_line.new.self.hand) (held c.make_line.new.self.line) c.in-Whole.size c.requires.empty whole is c.make_line.ensures.line c.make_line.ensures.hand coming)

pub returns-in-Bad-clause-same : goal.returns-in-Bad-clause-same
returns-in-Bad-clause-same c =
    let old = c.args.self.now in
    let header : 16 ≤ length (held old.hand) = rw c.bytes.ensures at c.in-Bad.ensures.0 in
    let many : 65527 < captured c.args.order (held old.hand) = rw c.bytes.ensures at c.in-Bad.ensures.1 in
    λ coming. rw (c.end_badly.ensures.stage, c.requires.records) (line_bad c.args.order (held old.line) (held old.hand) (held c.end_badly.new.self.line) c.requires.empty header many c.end_badly.ensures.line coming)
