use Rattle.std.proofs.Common.{arith, ap, length}
use Rattle.std.proofs.lemmas.Bool.Decides.{nat_tests}
use Rattle.pcap_packets.proofs.Windows.{length-held, no_bytes}
use Rattle.pcap_packets.specs.HeldBytes.{held}
use Rattle.pcap_packets.proofs.held.Held.is_empty.Goals as goal

pub returns : goal.returns
returns c =
    let size = length-held c.args.self.now in
    let order = c.args.self.now.order in
    (λ same. no_bytes (held c.args.self.now) (grind (arith, nat_tests, size, same)), λ none. (let zero = ap length none in grind (arith, nat_tests, size, zero, order)))
