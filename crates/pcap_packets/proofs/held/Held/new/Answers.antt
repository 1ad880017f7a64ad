use Rattle.std.proofs.Common.{refl}
use Rattle.pcap_packets.specs.HeldBytes.{held}
use Rattle.pcap_packets.proofs.held.Held.new.Goals as goal

pub returns-clause-none : goal.returns-clause-none
unfolding held
returns-clause-none c = refl
