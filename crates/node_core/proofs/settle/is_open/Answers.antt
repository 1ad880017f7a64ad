use Rattle.std.proofs.Common.{ap}
use Rattle.node_links.proofs.LinkLaws.{takes_from_client}
use Rattle.node_moments.proofs.LinkPorts.{touched_in}
use Rattle.node_core.proofs.Asked.{open_answer}
use Rattle.node_core.proofs.settle.is_open.Goals as goal

pub returns-in-Client : goal.returns-in-Client
returns-in-Client c = open_answer c.args.link.now c.in-Client.field-0 c.client_in.result.1 c.in-Client.is (λ x first now read n input stands may. ap (λ t. t.1) (c.client_in.ensures x first now read n input stands may))

pub client_in-requires : goal.client_in-requires
client_in-requires c = record { client = takes_from_client c.args.link.now c.in-Client.field-0 (touched_in c.in-Client.field-0 c.args.link.now.entry c.in-Client.is) }
