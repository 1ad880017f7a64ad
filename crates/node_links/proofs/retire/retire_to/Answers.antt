use Rattle.node_links.proofs.Emptied.{emptied_out}
use Rattle.node_links.proofs.retire.retire_to.Goals as goal

pub returns-then-n : goal.returns-then-n
returns-then-n g c = emptied_out g.P.Source g.K.Sink c.args.bays.now c.args.to.now c.in-Client.n _ c.retire.new.self c.in-Client.is c.client_out_mut.ensures.value c.retire.ensures.retired
