use Rattle.std.proofs.Common.{◌≡◌, ◌≤◌, ◌+◌, ◌-◌, ◌++◌, take, drop, ap, arith, ◌∙◌}
use Rattle.pcap_packets.specs.HeldBytes.{held}
use Rattle.pcap_packets.proofs.Windows.{length-held, window_front, window_behind}
use Rattle.pcap_packets.proofs.held.Held.give.Goals as goal

pub returns-clause-size : goal.returns-clause-size
returns-clause-size c = let size = length-held c.args.self.now in rw size c.min-count.ensures

pub returns-clause-bytes : goal.returns-clause-bytes
unfolding held
returns-clause-bytes c =
    let h = c.args.self.now in
    let n = c.min-count.result in
    let order = h.order in
    let few = c.min-count.ensures in
    let fits : h.at + n ≤ h.end = omega (arith, order, few) in
    let piece : h.at + n - h.at ≡ n = omega arith in
    let copied : c.copy_from_slice.new.self ≡ take n (take (h.end - h.at) (drop h.at h.bytes.items)) =
    c.copy_from_slice.ensures.after ∙ ap (λ k. take k (drop h.at c.deref.result.now)) piece ∙ ap (λ xs. take n (drop h.at xs)) c.deref.ensures.value ∙ window_front h.bytes.items h.at h.end n fits in
    ap (λ front. front ++ drop n c.args.into.now) copied

pub returns-clause-rest : goal.returns-clause-rest
unfolding held
returns-clause-rest c =
    let h = c.args.self.now in
    let n = c.min-count.result in
    let order = h.order in
    let few = c.min-count.ensures in
    let fits : h.at + n ≤ h.end = omega (arith, order, few) in
    window_behind h.bytes.items h.at h.end n fits
