use Rattle.std.proofs.Common.{◌≡◌, ◌≤◌, ◌/◌, ◌++◌, ◌∙◌, length, take, arith, ap}
use Rattle.std.proofs.lemmas.List.{take_all}
use Rattle.port_base.proofs.TakenTwice.{front}
use Rattle.pcap_packets.specs.Written.{packet_of}
use Rattle.pcap_packets.proofs.Digits.{packet_decoded, decoded_is}
use Rattle.pcap_packets.proofs.held.decode_at.Goals as goal

pub returns : goal.returns
returns c =
    let digits = c.args.digits.now in
    let new = c.decode_digits-digits.new.bytes in
    let room = c.requires.room in
    let size : length new ≡ length digits / 2 = omega (arith, c.decode_digits-digits.auto.bytes, room) in
    let few : c.args.at ≤ length c.args.buffer.now = omega (arith, room) in
    let some : length digits / 2 ≤ length new = omega (arith, size) in
    let all : length new ≤ length digits / 2 = omega (arith, size) in
    let is : new ≡ packet_of digits = decoded_is c.decode_digits-digits.result _ new (packet_of digits) c.decode_digits-digits.ensures (packet_decoded digits c.requires.digits c.requires.even) in
    front c.args.buffer.now new _ c.args.at (length digits / 2) few some ∙ ap (λ l. take c.args.at c.args.buffer.now ++ l) (take_all (length digits / 2) new all ∙ is)
