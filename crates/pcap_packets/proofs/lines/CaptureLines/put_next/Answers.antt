use Rattle.std.proofs.Common.{◌≡◌, arith, true, take, ap, sym}
use Rattle.pcap_packets.specs.HeldBytes.{held}
use Rattle.pcap_packets.specs.CaptureText.{captured, is_whole_record}
use Rattle.pcap_packets.specs.Captures.{lines_left}
use Rattle.pcap_packets.specs.declared.held.Held.{Held}
use Rattle.pcap_packets.specs.declared.lines.CaptureLines.{CaptureLines}
use Rattle.pcap_packets.proofs.Records.{whole_record}
use Rattle.pcap_packets.proofs.Fronts.{line_put, put_or_not}
use Rattle.pcap_packets.proofs.lines.CaptureLines.put_next.Goals as goal

pub put_line-requires-clause-whole : goal.put_line-requires-clause-whole
put_line-requires-clause-whole c =
    let whole : is_whole_record c.args.order (held c.args.self.now.hand) ≡ true = rw c.bytes.ensures at c.in-Whole.ensures.0 in
    let is : captured c.args.order (held c.args.self.now.hand) ≡ c.in-Whole.size = rw c.bytes.ensures at c.in-Whole.ensures.1 in
    let packet = (whole_record c.args.order (held c.args.self.now.hand) whole).packet in
    omega (arith, is, packet)

pub put_line-requires-clause-fits : goal.put_line-requires-clause-fits
put_line-requires-clause-fits c =
    let whole : is_whole_record c.args.order (held c.args.self.now.hand) ≡ true = rw c.bytes.ensures at c.in-Whole.ensures.0 in
    let is : captured c.args.order (held c.args.self.now.hand) ≡ c.in-Whole.size = rw c.bytes.ensures at c.in-Whole.ensures.1 in
    let fits = (whole_record c.args.order (held c.args.self.now.hand) whole).fits in
    omega (arith, is, fits)

pub returns-in-Whole-clause-bytes : goal.returns-in-Whole-clause-bytes
returns-in-Whole-clause-bytes c =
    let old = c.args.self.now in
    let new = c.put_line.new.self in
    let n = c.put_line.result in
    let e = c.put_line.ensures in
    let whole : is_whole_record c.args.order (held old.hand) ≡ true = rw c.bytes.ensures at c.in-Whole.ensures.0 in
    let is : captured c.args.order (held old.hand) ≡ c.in-Whole.size = rw c.bytes.ensures at c.in-Whole.ensures.1 in
    put_or_not n c.put_line.new.into (lines_left old) (lines_left new) (λ zero coming. ap (λ (l : CaptureLines). lines_left l coming) (sym (e.none zero)))
    (λ some coming. rw (e.stage, c.requires.records)
    (line_put c.args.order (held old.line) (held old.hand) (held new.line) (held new.hand) (take n c.put_line.new.into) c.in-Whole.size c.requires.empty (ap (λ (h : Held). held h) e.line) whole is (e.put some) (e.hand some) coming))
