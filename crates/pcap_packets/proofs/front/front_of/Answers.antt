use Rattle.std.proofs.Common.{◌≡◌, ◌≤◌, ◌<◌, ◌-◌, nat_le, true, false, length, arith, sym, ◌∙◌}
use Rattle.std.proofs.lemmas.Bool.Decides.{nat_tests}
use Rattle.pcap_packets.specs.CaptureText.{captured}
use Rattle.pcap_packets.proofs.Records.{is_whole}
use Rattle.pcap_packets.proofs.Fronts.{begun}
use Rattle.pcap_packets.proofs.front.front_of.Goals as goal

pub returns-then-bytes-lt-RECORD_HEADER : goal.returns-then-bytes-lt-RECORD_HEADER
returns-then-bytes-lt-RECORD_HEADER c =
    let short = c.if-bytes-lt-RECORD_HEADER.true in
    begun c.args.order c.args.bytes.now (omega arith) (λ w. (let header = w.header in omega (arith, header, short)))

pub returns-then-not-has_packet : goal.returns-then-not-has_packet
returns-then-not-has_packet c =
    let size = c.captured_bytes-size.result in
    let bytes = c.args.bytes.now in
    let is = c.captured_bytes-size.ensures in
    let few = c.if-size-gt-MOST_PACKET.false in
    let header = c.if-bytes-lt-RECORD_HEADER.false in
    let test : nat_le size (length bytes - 16) ≡ false = sym c.has_packet.ensures ∙ c.if-not-has_packet.true in
    let short : length bytes - 16 < size = grind (arith, nat_tests, test) in
    begun c.args.order bytes (omega (arith, short, few, header)) (λ w. (let packet = w.packet in omega (arith, packet, short, is, header)))

pub returns : goal.returns
returns c =
    let size = c.captured_bytes-size.result in
    let bytes = c.args.bytes.now in
    let is : captured c.args.order bytes ≡ size = sym c.captured_bytes-size.ensures in
    let header = c.if-bytes-lt-RECORD_HEADER.false in
    let few = c.if-size-gt-MOST_PACKET.false in
    let test : nat_le size (length bytes - 16) ≡ true = sym c.has_packet.ensures ∙ c.if-not-has_packet.false in
    let all : size ≤ length bytes - 16 = grind (arith, nat_tests, test) in
    (is_whole c.args.order bytes (record { header = omega (arith, header); fits = omega (arith, is, few); packet = omega (arith, is, all, header) }), is)
