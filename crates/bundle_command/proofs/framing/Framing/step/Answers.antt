use Rattle.std.proofs.Common.{◌≡◌, ◌≤◌, length, take, arith, sym, ap, ◌∙◌, length-drop}
use Rattle.std.proofs.lemmas.List.{length-take-le}
use Rattle.port_base.specs.Racks.{bays_view}
use Rattle.bundle_command.proofs.Frames.{frame_gives}
use Rattle.bundle_command.proofs.framing.Framing.step.Goals as goal

pub returns-clause-stands : goal.returns-clause-stands
returns-clause-stands g c = λ clients first due h.
    let out = c.give.new.into in
    let count = c.give.result in
    let long : length (take count out) ≡ count = length-take-le count out (let within = c.give.ensures.within in let size = c.give.ensures.size in omega arith) in
    frame_gives clients first (bays_view g.I.Source g.O.Sink c.have_frame.new.bays) due (take count out) c.have_frame.new.self c.give.new.self c.give.ensures.bytes
    (let some = c.give.ensures.some in omega arith) (let d = length-drop c.have_frame.new.self.at c.have_frame.new.self.frame in let size = c.have_frame.new.self.size in omega arith)
    c.give.ensures.rest.0 c.give.ensures.rest.1 c.give.ensures.rest.2 (c.have_frame.ensures.stands clients first due h)
