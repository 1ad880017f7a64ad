use Rattle.std.proofs.Common.{rules, ◌≡◌, ◌∙◌, Ok, sym}
use Rattle.live_node.specs.declared.live_node.Turned.TheVariants as turned
use Rattle.live_calls.specs.Held.{GoesFrom, IsUntouched, TurnsOn}
use Rattle.node_handle.specs.Calls.{IsOver}
use Rattle.node_handle.proofs.Answering.{is_done, is_over, moved, not_done}
use Rattle.node_handle.proofs.calls.turn.Goals as goal

pub returns-in-Some-clause-done : goal.returns-in-Some-clause-done
returns-in-Some-clause-done c = λ e.
    let answer = c.do_turn-answer.result in
    moved TurnsOn c.args.node.now.value c.of.result.value c.deref_mut.result.now c.do_turn-answer.new.self (search rules) (search rules)
    (c.do_turn-answer.ensures.done (is_done answer (sym c.turned_code.ensures ∙ e)))

pub returns-in-Some-clause-goes : goal.returns-in-Some-clause-goes
returns-in-Some-clause-goes c = λ called.
    moved GoesFrom c.args.node.now.value c.of.result.value c.deref_mut.result.now c.do_turn-answer.new.self (search rules) (search rules) c.do_turn-answer.ensures.goes

pub returns-in-Some-clause-still : goal.returns-in-Some-clause-still
returns-in-Some-clause-still c = λ not lack called.
    let was = c.deref_mut.result.now in
    let is = c.do_turn-answer.new.self in
    moved IsUntouched c.args.node.now.value c.of.result.value was is (search rules) (search rules)
    (not_done c.do_turn-answer.result (IsUntouched was is) c.do_turn-answer.ensures.still (λ e. not (c.turned_code.ensures ∙ e)) (λ e. lack (c.turned_code.ensures ∙ e)))

pub returns-in-Some-clause-over : goal.returns-in-Some-clause-over
returns-in-Some-clause-over c = λ e.
    let answer = c.do_turn-answer.result in
    let is : answer ≡ Ok turned.Over = is_over answer (sym c.turned_code.ensures ∙ e) in
    let over : IsOver c.deref_mut.result.now c.do_turn-answer.new.self = c.do_turn-answer.ensures.over is in
    moved IsOver c.args.node.now.value c.of.result.value c.deref_mut.result.now c.do_turn-answer.new.self (search rules) (search rules) over
