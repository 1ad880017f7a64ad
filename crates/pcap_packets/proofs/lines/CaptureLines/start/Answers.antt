use Rattle.std.proofs.Common.{◌≡◌, ◌≤◌, ◌∙◌, ap, sym, length, None}
use Rattle.pcap_packets.specs.HeldBytes.{held}
use Rattle.pcap_packets.specs.CaptureText.{header_order}
use Rattle.pcap_packets.proofs.Fronts.{header_bad}
use Rattle.pcap_packets.proofs.lines.CaptureLines.start.Goals as goal

pub returns-in-None-clause-same : goal.returns-in-None-clause-same
returns-in-None-clause-same c =
    let old = c.args.self.now in
    let long : 24 ≤ length (held old.hand) = rw c.bytes.ensures at c.if-bytes-lt-FILE_HEADER.false in
    let other : header_order (held old.hand) ≡ None = ap header_order (sym c.bytes-2.ensures) ∙ sym c.in-None.ensures in
    λ coming. rw (c.end_badly.ensures.stage, c.requires.start) (header_bad (held old.line) (held old.hand) (held c.end_badly.new.self.line) c.requires.empty long other c.end_badly.ensures.line coming)
