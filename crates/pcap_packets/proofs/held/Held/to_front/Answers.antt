use Rattle.std.proofs.Common.{◌≤◌, ◌-◌, ◌∙◌, arith, ap, take, drop, length}
use Rattle.pcap_packets.specs.HeldBytes.{held}
use Rattle.pcap_packets.proofs.Windows.{window_moved, length-held}
use Rattle.pcap_packets.proofs.held.Held.to_front.Goals as goal

pub returns-then-self-clause-same : goal.returns-then-self-clause-same
unfolding held
returns-then-self-clause-same c =
    let h = c.args.self.now in
    let room = h.room in
    let within = h.within in
    let fits : h.end ≤ length h.bytes.items = omega (arith, room, within) in
    ap (λ xs. take (h.end - h.at - 0) (drop 0 xs)) c.copy_within.ensures.items ∙ window_moved h.bytes.items h.at h.end h.order fits

pub returns-then-self-clause-room : goal.returns-then-self-clause-room
returns-then-self-clause-room c = let size = length-held c.args.self.now in let few = c.requires in omega (arith, size, few)
