use Rattle.std.proofs.Common.{◌≡◌, ◌/◌, ◌++◌, ◌∙◌, length, take, arith, refl, ap}
use Rattle.std.proofs.lemmas.List.{with_items_is}
use Rattle.pcap_packets.specs.Decoding.{header_of}
use Rattle.pcap_packets.proofs.Windows.{length-held, pushed}
use Rattle.pcap_packets.proofs.held.Held.push_header.Goals as goal

pub put_header-requires-clause-room : goal.put_header-requires-clause-room
put_header-requires-clause-room c =
    let h = c.args.self.now in
    let size = length-held h in
    let front = c.requires.front in
    let room = c.requires.room in
    let all = h.room in
    omega (arith, size, front, room, all, c.deref_mut.ensures.len)

pub invariant_of-self : goal.invariant_of-self
invariant_of-self c =
    let h = c.args.self.now in
    let size = length-held h in
    let front = c.requires.front in
    let room = c.requires.room in
    let within = h.within in
    record { room = h.room; order = omega (arith, h.order); within = omega (arith, size, front, room, within) }

pub returns-clause-bytes : goal.returns-clause-bytes
returns-clause-bytes c =
    let h = c.args.self.now in
    let ys = c.put_header.new.buffer in
    let size : length ys ≡ h.bytes.len = c.put_header.auto.buffer ∙ c.deref_mut.ensures.len in
    pushed h _ ys (header_of (c.args.digits / 2)) 16 c.requires.front (with_items_is h.bytes ys size) refl refl (c.put_header.ensures.front ∙ ap (λ xs. take h.end xs ++ header_of (c.args.digits / 2)) c.deref_mut.ensures.value)
