use Rattle.std.proofs.Common.{◌≡◌, ◌/◌, ap, ◌∙◌}
use Rattle.std.specs.Int.{to_le_bytes, w32}
use Rattle.pcap_packets.proofs.DecodedDigits.{header_put, behind_put}
use Rattle.pcap_packets.proofs.making.put_header.Goals as goal

pub returns-clause-front : goal.returns-clause-front
returns-clause-front c =
    let size = c.to_le_bytes-size.result in
    let is : size ≡ to_le_bytes w32 (c.args.digits / 2) = c.to_le_bytes-size.ensures ∙ ap (to_le_bytes w32) c.packet_size.ensures in
    header_put c.args.buffer.now c.put_at.new.buffer c.put_at-2.new.buffer c.put_at-3.new.buffer size (c.args.digits / 2) c.args.at is c.put_at.ensures.front c.put_at-2.ensures.front c.put_at-3.ensures.front

pub returns-clause-behind : goal.returns-clause-behind
returns-clause-behind c =
    let size = c.to_le_bytes-size.result in
    let is : size ≡ to_le_bytes w32 (c.args.digits / 2) = c.to_le_bytes-size.ensures ∙ ap (to_le_bytes w32) c.packet_size.ensures in
    behind_put c.args.buffer.now c.put_at.new.buffer c.put_at-2.new.buffer c.put_at-3.new.buffer size (c.args.digits / 2) c.args.at is c.put_at.ensures.behind c.put_at-2.ensures.behind c.put_at-3.ensures.behind
