use Rattle.std.proofs.Common.{rules, sym, ◌∙◌}
use Rattle.live_calls.specs.Held.{IsUntouched, Takes}
use Rattle.node_handle.proofs.Answering.{is_taken, moved, not_taken}
use Rattle.node_handle.proofs.calls.hand_in.Goals as goal

pub returns-in-Some-clause-taken : goal.returns-in-Some-clause-taken
returns-in-Some-clause-taken c = λ e.
    let was = c.deref_mut.result.now in
    moved (Takes c.args.input c.args.bytes.now) c.args.node.now.value c.of.result.value was c.hand_in-answer.new.self (search rules) (search rules)
    (c.hand_in-answer.ensures.taken (is_taken c.hand_in-answer.result (sym c.handed_code.ensures ∙ e)))

pub returns-in-Some-clause-still : goal.returns-in-Some-clause-still
returns-in-Some-clause-still c = λ not called.
    let was = c.deref_mut.result.now in
    moved IsUntouched c.args.node.now.value c.of.result.value was c.hand_in-answer.new.self (search rules) (search rules)
    (c.hand_in-answer.ensures.still (not_taken c.hand_in-answer.result (λ e. not (c.handed_code.ensures ∙ e))))
