use Rattle.std.proofs.Common.{◌≡◌, ◌-◌, ◌∙◌, ap, take, drop, length, refl}
use Rattle.std.proofs.lemmas.List.{with_items_is}
use Rattle.pcap_packets.specs.HeldBytes.{held}
use Rattle.pcap_packets.proofs.Windows.{front_window}
use Rattle.pcap_packets.proofs.held.Held.hold.Goals as goal

pub returns : goal.returns
unfolding held
returns c =
    let n = length c.args.bytes.now in
    let size : length c.put_in_front.new.buffer ≡ c.args.self.now.bytes.len = c.put_in_front.auto.buffer ∙ c.deref_mut.ensures.len in
    ap (λ xs. take (n - 0) (drop 0 xs)) (with_items_is c.args.self.now.bytes c.put_in_front.new.buffer size) ∙ front_window c.args.bytes.now c.put_in_front.new.buffer n _ refl c.put_in_front.ensures
