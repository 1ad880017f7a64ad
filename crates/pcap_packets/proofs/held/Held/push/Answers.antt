use Rattle.std.proofs.Common.{◌≡◌, ◌++◌, ◌∙◌, length, take, arith, refl, ap}
use Rattle.std.proofs.lemmas.List.{with_items_is}
use Rattle.pcap_packets.proofs.Windows.{length-held, pushed}
use Rattle.pcap_packets.proofs.held.Held.push.Goals as goal

pub put_at-requires : goal.put_at-requires
put_at-requires c =
    let h = c.args.self.now in
    let size = length-held h in
    let front = c.requires.front in
    let room = c.requires.room in
    let all = h.room in
    omega (arith, size, front, room, all, c.deref_mut.ensures.len)

pub returns-clause-bytes : goal.returns-clause-bytes
returns-clause-bytes c =
    let h = c.args.self.now in
    let ys = c.put_at.new.buffer in
    let size : length ys ≡ h.bytes.len = c.put_at.auto.buffer ∙ c.deref_mut.ensures.len in
    pushed h _ ys c.args.bytes.now (length c.args.bytes.now) c.requires.front (with_items_is h.bytes ys size) refl refl (c.put_at.ensures.front ∙ ap (λ xs. take h.end xs ++ c.args.bytes.now) c.deref_mut.ensures.value)
