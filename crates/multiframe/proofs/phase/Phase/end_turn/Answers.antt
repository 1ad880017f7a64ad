use Rattle.otn_base.specs.LineSlots.{slots_of}
use Rattle.multiframe.proofs.TurnLaw.{some_slots, turn_law}
use Rattle.multiframe.proofs.phase.Phase.end_turn.Goals as goal

pub returns-clause-line : goal.returns-clause-line
returns-clause-line c = λ ms lock e.
    let law = turn_law (slots_of c.args.self.now.kind) ms lock (some_slots c.args.self.now.kind) in
    let said = c.close.ensures.multiframe in
    record {
      multiframe = (λ t. law.multiframe.0 (rw e at (said.0 t)), λ w. said.1 (rw e (law.multiframe.1 w)));
      after = rw (c.close.ensures.after, e) law.after;
    }
