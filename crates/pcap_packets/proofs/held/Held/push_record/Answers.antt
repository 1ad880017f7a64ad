use Rattle.std.proofs.Common.{◌≡◌, ◌/◌, ◌++◌, ◌∙◌, ap, length, arith, append_assoc, sym}
use Rattle.pcap_packets.specs.HeldBytes.{held}
use Rattle.pcap_packets.specs.Written.{packet_of}
use Rattle.pcap_packets.specs.Decoding.{header_of}
use Rattle.pcap_packets.proofs.Digits.{length-packet_of}
use Rattle.pcap_packets.proofs.DecodedDigits.{header_joined}
use Rattle.pcap_packets.proofs.held.Held.push_record.Goals as goal

pub returns-clause-bytes : goal.returns-clause-bytes
returns-clause-bytes c =
    let digits = c.args.digits.now in
    let even = c.requires.even in
    let two = length-packet_of digits c.requires.digits even in
    let is : length digits / 2 ≡ length (packet_of digits) = omega (arith, two) in
    c.push_packet.ensures.bytes ∙ ap (λ l. l ++ packet_of digits) (c.push_header.ensures.bytes ∙ ap (λ n. held c.args.self.now ++ header_of n) is)
    ∙ append_assoc (held c.args.self.now) (header_of (length (packet_of digits))) (packet_of digits) ∙ ap (λ l. held c.args.self.now ++ l) (sym (header_joined (packet_of digits)))
