use Rattle.live_calls.specs.Held.{Opened}
use Rattle.node_handle.proofs.Answering.{is_new}
use Rattle.node_handle.proofs.calls.open.Goals as goal

pub returns-in-Ok-clause-opened : goal.returns-in-Ok-clause-opened
returns-in-Ok-clause-opened c = λ e.
    is_new (Opened c.args.text.now) c.args.node.now.value c.put_node.new.node.value c.in-Ok.held c.in_default.ensures.taken (c.put_node.ensures.put e) c.in-Ok.ensures.opened
