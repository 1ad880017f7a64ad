use Rattle.std.proofs.Common.{◌≡◌, ◌/◌, ◌++◌, ◌∙◌, length, take, arith, refl, ap}
use Rattle.std.proofs.lemmas.List.{with_items_is}
use Rattle.pcap_packets.specs.Written.{packet_of}
use Rattle.pcap_packets.proofs.Windows.{length-held, pushed}
use Rattle.pcap_packets.proofs.held.Held.push_packet.Goals as goal

pub decode_at-requires-clause-room : goal.decode_at-requires-clause-room
decode_at-requires-clause-room c =
    let h = c.args.self.now in
    let size = length-held h in
    let front = c.requires.front in
    let room = c.requires.room in
    let all = h.room in
    omega (arith, size, front, room, all, c.deref_mut.ensures.len)

pub invariant_of-self : goal.invariant_of-self
invariant_of-self c =
    let h = c.args.self.now in
    let size = length-held h in
    let front = c.requires.front in
    let room = c.requires.room in
    let within = h.within in
    record { room = h.room; order = omega (arith, h.order); within = omega (arith, size, front, room, within) }

pub returns-clause-bytes : goal.returns-clause-bytes
returns-clause-bytes c =
    let h = c.args.self.now in
    let ys = c.decode_at.new.buffer in
    let size : length ys ≡ h.bytes.len = c.decode_at.auto.buffer ∙ c.deref_mut.ensures.len in
    pushed h _ ys (packet_of c.args.digits.now) (length c.args.digits.now / 2) c.requires.front (with_items_is h.bytes ys size) refl refl (c.decode_at.ensures ∙ ap (λ xs. take h.end xs ++ packet_of c.args.digits.now) c.deref_mut.ensures.value)
