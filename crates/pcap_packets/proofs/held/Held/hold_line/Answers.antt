use Rattle.std.proofs.Common.{◌≡◌, ◌-◌, ◌∙◌, ap, take, drop, length, sym}
use Rattle.std.proofs.lemmas.List.{with_items_is}
use Rattle.pcap_packets.specs.HeldBytes.{held}
use Rattle.packet_text.specs.PacketText.{packet_line}
use Rattle.pcap_packets.proofs.Windows.{front_window, length-packet_line}
use Rattle.pcap_packets.proofs.held.Held.hold_line.Goals as goal

pub returns : goal.returns
unfolding held
returns c =
    let n = c.put_line-count.result in
    let text = c.put_line-count.new.text in
    let size : length text ≡ c.args.self.now.bytes.len = c.put_line-count.auto.text ∙ c.deref_mut.ensures.len in
    ap (λ xs. take (n - 0) (drop 0 xs)) (with_items_is c.args.self.now.bytes text size)
    ∙ front_window (packet_line c.args.packet.now) text n _ (length-packet_line c.args.packet.now ∙ sym c.put_line-count.ensures.size) c.put_line-count.ensures.line
