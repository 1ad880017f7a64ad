use Rattle.std.proofs.Common.{arith, ◌≤◌, ◌+◌}
use Rattle.pcap_packets.proofs.Windows.{length-held, window_behind}
use Rattle.pcap_packets.specs.HeldBytes.{held}
use Rattle.pcap_packets.proofs.held.Held.pass.Goals as goal

pub overflow_add-self : goal.overflow_add-self
overflow_add-self c = let size = length-held c.args.self.now in let fits = c.requires in let w = c.args.self.now.within in omega arith

pub invariant_of-self : goal.invariant_of-self
invariant_of-self c = let size = length-held c.args.self.now in let fits = c.requires in let w = c.args.self.now.within in record { room = c.args.self.now.room; order = omega arith; within = w }

pub returns : goal.returns
unfolding held
returns c =
    let size = length-held c.args.self.now in
    let few = c.requires in let order = c.args.self.now.order in let fits : c.args.self.now.at + c.args.count ≤ c.args.self.now.end = omega (arith, size, few, order) in
    window_behind c.args.self.now.bytes.items c.args.self.now.at c.args.self.now.end c.args.count fits
