-- A live node that has done a turn.
use Rattle.std.proofs.Common.{◌≡◌, sym, subst}
use Rattle.port_base.specs.Views.{BaysView}
use Rattle.port_base.specs.declared.bays.Rack.{Rack}
use Rattle.filled_ports.specs.declared.sink.FilledSink.{FilledSink}
use Rattle.filled_ports.specs.declared.source.FilledSource.{FilledSource}
use Rattle.plan_file.specs.declared.plan.Plan.{Plan}
use Rattle.node_moments.specs.NodeView.{NodeView, IsNode}
use Rattle.node_moments.specs.Stands.{InputBytes, StandsAt, no_bytes}
use Rattle.network_core.specs.Turns.{LeadsLater}
use Rattle.live_laws.specs.Live.{AreServed, OpensWith, LiveStands}
use Rattle.live_laws.specs.LiveTurns.{inputs_of, HaveLeft}
use Rattle.live_laws.proofs.Live.{live_goes}
use Rattle.live_laws.proofs.LiveTurns.{live_turns}
use Rattle.live_node.specs.Live.{GoesOn, IsStill, PutsOut}
use Rattle.live_node.specs.Places.{places}
use Rattle.live_node.proofs.Calm.{calm}

pub opens_live : (plan : Plan) (old new : NodeView) (was : BaysView) (rack : Rack FilledSource FilledSink) → LeadsLater old was new (places rack)
    → OpensWith no_bytes was
    → StandsAt plan was no_bytes old was → IsNode new → LiveStands plan no_bytes new (places rack)
opens_live plan old new was rack goes opens h node =
    let later = goes plan was no_bytes h in
    record { first = was; opens = opens; read = later.more; stands = later.stands; calm = calm rack; is = node }

-- what its outputs kept was let go of, the turn ended, and the outputs of the next were served
pub turned : (old mid new : NodeView) (was kept : BaysView) (then rack : Rack FilledSource FilledSink) → kept ≡ was → LeadsLater old kept mid (places then)
    → LeadsLater mid (places then) new (places rack)
    → IsNode mid → IsNode new → GoesOn old new was (places rack)
turned old mid new was kept then rack same one two node node_too plan handed h =
    let first : LiveStands plan handed old kept = subst (λ v. LiveStands plan handed old v) (sym same) h in
    live_goes mid new (places then) (places rack) two (calm rack) node_too plan handed (live_goes old mid kept (places then) one (calm then) node plan handed first)

pub still : (node : NodeView) (bays : BaysView) → GoesOn node node bays bays
still node bays plan handed h = h

-- where nothing has changed it stands as it stood
pub stays_as : (plan : Plan) (handed : InputBytes) (old new : NodeView) (was is : BaysView) → IsStill old new was is → LiveStands plan handed old was
    → LiveStands plan handed new is
stays_as plan handed old new was is s h = subst (λ n. LiveStands plan handed n is) (sym s.node) (subst (λ v. LiveStands plan handed old v) (sym s.places) h)

-- what has left, where its outputs are served
pub puts_out : (old new : NodeView) (was is : BaysView) → GoesOn old new was is → AreServed new → PutsOut old new was is
puts_out old new was is goes served plan handed h = live_turns plan handed new is (goes plan handed h) served
