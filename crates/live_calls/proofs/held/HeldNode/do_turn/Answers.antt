use Rattle.live_calls.proofs.held.HeldNode.do_turn.Goals as goal

pub returns-clause-done : goal.returns-clause-done
returns-clause-done c = λ done.
    let e = c.do_turn.ensures in
    record { past = e.done done; served = e.served done; handed = e.handed done }
