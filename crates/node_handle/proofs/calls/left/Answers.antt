use Rattle.std.proofs.Common.{subst}
use Rattle.node_handle.specs.Calls.{Leaves, NeedsRoom}
use Rattle.node_handle.proofs.Answering.{owns}
use Rattle.node_handle.proofs.calls.left.Goals as goal

pub returns-in-Some-clause-left : goal.returns-in-Some-clause-left
returns-in-Some-clause-left c = λ e.
    let leaves = Leaves c.args.output c.put_output-code.new.room c.put_output-code.new.told.length in
    owns leaves c.args.node.now.value c.in-Some.held.value c.in-Some.ensures.taken (subst leaves c.deref.ensures (c.put_output-code.ensures.left e))

pub returns-in-Some-clause-little : goal.returns-in-Some-clause-little
returns-in-Some-clause-little c = λ e.
    let needs = NeedsRoom c.args.output c.args.room.now c.put_output-code.new.told.length in
    owns needs c.args.node.now.value c.in-Some.held.value c.in-Some.ensures.taken (subst needs c.deref.ensures (c.put_output-code.ensures.little e))
