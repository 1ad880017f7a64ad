-- API: the nodes of a network with their places, and what all of them do at once.
use Rattle.std.specs.Prelude.{◌≡◌, ◌≤◌, ◌<◌, ◌+◌, ℕ, false, List, length, slice_get, Some}
use Rattle.otn_base.specs.declared.kind.PortName.TheVariants as port
use Rattle.port_base.specs.Racks.{bays_view}
use Rattle.port_base.specs.Views.{BaysView}
use Rattle.port_base.specs.declared.bays.Rack.{Rack}
use Rattle.port_base.specs.declared.sink.Sink as sink
use Rattle.port_base.specs.declared.source.Source as source
use Rattle.node_moments.specs.NodeView.{is_ready}
use Rattle.node_core.specs.Growing.{OutputsGrow}
use Rattle.network_core.specs.Turns.{LeadsLater}
use Rattle.network_run.specs.EdgePorts.{edge_at_hand, edge_ended, edge_faults, edge_left, is_edge_boxed, edge_got, edge_keeps, edge_out_faults, is_edge_out_boxed}
use Rattle.network_run.specs.declared.ports.NetIn.{NetIn}
use Rattle.network_run.specs.declared.ports.NetOut.{NetOut}
use Rattle.network_run.specs.declared.site.Site.{Site}

-- ---- what is seen

-- the meanings of what the places of a site hold, by those of the ports at the edge
abbrev pub net_source : {P : Type 0} → source.Ghosts P → source.Ghosts (NetIn P)
net_source p = record {
  left = edge_left p.left;
  faults = edge_faults p.faults;
  ended = edge_ended p.ended;
  boxed = is_edge_boxed p.boxed;
  at_hand = edge_at_hand p.at_hand;
}

abbrev pub net_sink : {K : Type 0} → sink.Ghosts K → sink.Ghosts (NetOut K)
net_sink k = record {
  got = edge_got k.got;
  faults = edge_out_faults k.faults;
  keeps = edge_keeps k.keeps;
  boxed = is_edge_out_boxed k.boxed;
}

-- its places
abbrev pub rack_view : {P K : Type 0} → source.Ghosts P → sink.Ghosts K → Rack (NetIn P) (NetOut K) → BaysView
rack_view p k rack = bays_view (net_source p) (net_sink k) rack

abbrev pub site_view : {P K : Type 0} → source.Ghosts P → sink.Ghosts K → Site P K → BaysView
site_view p k site = rack_view p k site.bays

-- ---- what a site does

-- each went from what it was to what it is in this way, and none is there that was not
pub record EachOne {A : Type 0} (Goes : A → A → Type 0) (olds news : List A) : Type 0 where
  pub count : length news ≡ length olds
  pub each : (i : ℕ) (old new : A) → slice_get olds i ≡ Some old → slice_get news i ≡ Some new → Goes old new

-- its node is in the same turn
pub record SameMoment {P K : Type 0} (old new : Site P K) : Type 0 where
  pub turns : new.node.turns ≡ old.node.turns
  pub past : new.node.past ≡ old.node.past

-- no line out of its node has a piece left in the turn
abbrev pub LinesShut : {P K : Type 0} → Site P K → Type 0
LinesShut site = (b : ℕ) → b < 4 → is_ready site.node (port.LineOut b) ≡ false

-- the node went on from whatever moment of whatever plan it stood at, by all pieces of its lines out in the turn, and
-- what these got grew
pub record SiteWent {P K : Type 0} (p : source.Ghosts P) (k : sink.Ghosts K) (old new : Site P K) : Type 0 where
  pub stands : LeadsLater old.node (site_view p k old) new.node (site_view p k new)
  pub grows : OutputsGrow (site_view p k old) (site_view p k new)
  pub moment : SameMoment old new
  pub shut : LinesShut new

-- its node has done a turn more, where it was not past its last
pub record IsTurned {P K : Type 0} (old new : Site P K) : Type 0 where
  pub turns : new.node.turns ≡ old.node.turns
  pub rests : old.node.turns ≤ old.node.past → new.node.past ≡ old.node.past
  pub done : old.node.past + 1 ≤ old.node.turns → new.node.past ≡ old.node.past + 1

-- the same to the end of its turn; one that was past its last turn is as it was
pub record SiteTurned {P K : Type 0} (p : source.Ghosts P) (k : sink.Ghosts K) (old new : Site P K) : Type 0 where
  pub stands : LeadsLater old.node (site_view p k old) new.node (site_view p k new)
  pub grows : OutputsGrow (site_view p k old) (site_view p k new)
  pub turned : IsTurned old new

-- nothing of it that is seen has changed
pub record SiteStill {P K : Type 0} (p : source.Ghosts P) (k : sink.Ghosts K) (old new : Site P K) : Type 0 where
  pub node : new.node ≡ old.node
  pub places : site_view p k new ≡ site_view p k old

-- its node is as it was
abbrev pub SameNode : {P K : Type 0} → Site P K → Site P K → Type 0
SameNode old new = new.node ≡ old.node

-- all nodes are past their last turns
abbrev pub AllOver : {P K : Type 0} → List (Site P K) → Type 0
AllOver sites = (i : ℕ) (site : Site _ _) → slice_get sites i ≡ Some site → site.node.turns ≤ site.node.past

-- some node is not
pub record HasGoing {P K : Type 0} (sites : List (Site P K)) : Type 0 where
  pub i : ℕ
  pub site : Site P K
  pub at : slice_get sites i ≡ Some site
  pub going : site.node.past + 1 ≤ site.node.turns

-- what is to leave on the lines of all nodes in their turns has left
abbrev pub AllSent : {P K : Type 0} → List (Site P K) → Type 0
AllSent sites = (i : ℕ) (site : Site _ _) → slice_get sites i ≡ Some site → LinesShut site
