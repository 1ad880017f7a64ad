use Rattle.std.proofs.Common.{rules}
use Rattle.connection_laws.proofs.Delivery.{gets_what_is_carried, delivers_its_packets}
use Rattle.connection_laws.proofs.carriage.packets_at_client.Goals as goal

pub returns-clause-bytes : goal.returns-clause-bytes
returns-clause-bytes c = search (rules, gets_what_is_carried)

pub returns-clause-packets : goal.returns-clause-packets
returns-clause-packets c = search (rules, delivers_its_packets)
