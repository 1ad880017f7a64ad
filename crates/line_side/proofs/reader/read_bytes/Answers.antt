use Rattle.std.proofs.Common.{false, ap, length, arith, ◌∙◌, subst}
use Rattle.std.proofs.lemmas.List.{length-take-le}
use Rattle.port_base.specs.AtHand.{place_at_hand}
use Rattle.port_base.specs.InPlace.{in_view}
use Rattle.port_base.specs.declared.in_place.Reading.TheVariants.{Full}
use Rattle.line_side.specs.Steps.Reader.{FrameRead}
use Rattle.line_side.proofs.Reading.{hand_live, frame_at_hand}
use Rattle.line_side.proofs.reader.read_bytes.Goals as goal

pub show-requires : goal.show-requires
show-requires g c =
    let first = c.in-Some.ensures.first in
    (omega arith, ap length first.0 ∙ length-take-le 16320 (place_at_hand g.P.Source c.look_ahead.new.self) first.1)

pub returns-in-Some : goal.returns-in-Some
returns-in-Some g c =
    let place = c.look_ahead.new.self in
    let is = in_view g.P.Source c.pass.new.self in
    let first = c.in-Some.ensures.first in
    let e = c.pass.ensures in
    let live = hand_live g.P.Source place first.1 in
    let came = frame_at_hand (in_view g.P.Source place) is (place_at_hand g.P.Source place) c.show.new.self live first.1 e.passed e.state e.ended e.faults (c.show.ensures ∙ first.0) in
    subst (λ was. FrameRead false Full was c.show.new.self is) c.look_ahead.ensures.view came
