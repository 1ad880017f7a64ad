use Rattle.std.proofs.Common.{rules}
use Rattle.live_calls.specs.Held.{IsUntouched}
use Rattle.node_handle.proofs.Answering.{moved}
use Rattle.node_handle.proofs.calls.end_input.Goals as goal

pub returns-then-there-clause-still : goal.returns-then-there-clause-still
returns-then-there-clause-still c = λ called.
    moved IsUntouched c.args.node.now.value c.of.result.value c.deref_mut.result.now c.end_input-there.new.self (search rules) (search rules) c.end_input-there.ensures.still

pub returns-else-there-clause-still : goal.returns-else-there-clause-still
returns-else-there-clause-still c = λ called.
    moved IsUntouched c.args.node.now.value c.of.result.value c.deref_mut.result.now c.end_input-there.new.self (search rules) (search rules) c.end_input-there.ensures.still
