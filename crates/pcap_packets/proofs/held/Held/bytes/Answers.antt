use Rattle.std.proofs.Common.{◌-◌, take, drop, ap}
use Rattle.pcap_packets.specs.HeldBytes.{held}
use Rattle.pcap_packets.proofs.held.Held.bytes.Goals as goal

pub returns : goal.returns
unfolding held
returns c = ap (λ xs. take (c.args.self.now.end - c.args.self.now.at) (drop c.args.self.now.at xs)) c.deref.ensures.value
