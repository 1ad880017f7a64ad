use Rattle.std.proofs.Common.{◌≡◌, ◌<◌, ◌+◌, ◌/◌, ◌++◌, ◌∙◌, length, take, arith, refl, ap}
use Rattle.std.proofs.lemmas.List.{with_items_is}
use Rattle.pcap_packets.specs.HeldBytes.{held}
use Rattle.pcap_packets.specs.Written.{packet_of, record_of}
use Rattle.pcap_packets.proofs.Windows.{pushed}
use Rattle.pcap_packets.proofs.DecodedDigits.{one_more, held_front}
use Rattle.pcap_packets.proofs.held.Held.push_line.Goals as goal

pub returns-then-digits-eq0-clause-none : goal.returns-then-digits-eq0-clause-none
returns-then-digits-eq0-clause-none c = λ none. (
    let h = c.args.self.now in
    let ys = c.put_record-digits.new.buffer in
    let size : length ys ≡ h.bytes.len = c.put_record-digits.auto.buffer ∙ c.deref_mut.ensures.len in
    held_front h _ ys c.requires.front (with_items_is h.bytes ys size) refl refl (c.put_record-digits.ensures.none c.if-digits-eq0.true ∙ ap (take h.end) c.deref_mut.ensures.value))

pub returns-clause-some : goal.returns-clause-some
returns-clause-some c = λ more. (
    let h = c.args.self.now in
    let ys = c.put_record-digits.new.buffer in
    let digits = c.put_record-digits.result in
    let e = c.put_record-digits.ensures in
    let some : 0 < digits = omega (arith, c.if-digits-eq0.false) in
    let size : length ys ≡ h.bytes.len = c.put_record-digits.auto.buffer ∙ c.deref_mut.ensures.len in
    let packet = packet_of (take digits c.args.text.now) in
    one_more c.args.text.now (held h) _ digits (e.whole some) (e.end some)
    (pushed h _ ys (record_of packet) (16 + digits / 2) c.requires.front (with_items_is h.bytes ys size) refl refl (e.record some ∙ ap (λ xs. take h.end xs ++ record_of packet) c.deref_mut.ensures.value)))
