use Rattle.node_links.proofs.Emptied.{emptied_in}
use Rattle.node_links.proofs.retire.retire_from.Goals as goal

pub returns-then-n : goal.returns-then-n
returns-then-n g c = emptied_in g.P.Source g.K.Sink c.args.bays.now c.args.from.now c.in-Client.n _ c.retire.new.self c.in-Client.is c.client_in_mut.ensures.value c.retire.ensures.retired
