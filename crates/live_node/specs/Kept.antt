-- API: what the outputs of a live node keep: what leaves in the next turn, and is handed out.
use Rattle.std.specs.Prelude.{◌≡◌, ◌≢◌, ◌<◌, ◌+◌, ◌-◌, ◌^◌, ℕ, List, ◌++◌, [], Some, get_or, length}
use Rattle.port_base.specs.Racks.{line_outs, client_outs}
use Rattle.port_base.specs.Views.{Live, Dead, OutView, BaysView, line_out_at, client_out_at}
use Rattle.port_base.specs.declared.bays.Rack.{Rack}
use Rattle.plan_file.specs.declared.plan.Plan.{Plan}
use Rattle.filled_ports.specs.declared.sink.FilledSink.{FilledSink}
use Rattle.filled_ports.specs.declared.source.FilledSource.{FilledSource}
use Rattle.node_moments.specs.NodeView.{NodeView}
use Rattle.node_moments.specs.Stands.{InputBytes}
use Rattle.live_laws.specs.Live.{telling, LiveStands}
use Rattle.live_laws.specs.LivePairs.{HasGot}
use Rattle.live_node.specs.Places.{places, line_kept, client_kept}

-- ---- what is handed out

-- An output keeps all that its place got since, and nothing else: what a live place got by now is what it had got then,
-- and behind that what is kept. A place that was emptied keeps nothing, and none is dead.
pub record HandsOut (was is : OutView) (kept : List ℕ) : Type 0 where
  pub alive : is.state ≢ Dead
  pub adds : (bytes others : List ℕ) → HasGot was bytes → HasGot is others → others ≡ bytes ++ kept
  pub emptied : is.state ≢ Live → kept ≡ []

-- each output does
pub record OutputsHandOut (was : BaysView) (bays : Rack FilledSource FilledSink) : Type 0 where
  pub line : (b : ℕ) → b < 4 → HandsOut (line_out_at was b) (line_out_at (places bays) b) (line_kept bays b)
  pub client : (n : ℕ) → n < 16 → HandsOut (client_out_at was n) (client_out_at (places bays) n) (client_kept bays n)

-- a node that stood so has gone on to where it hands out what its outputs got since, each byte once
abbrev pub HandsOutSince : (old : NodeView) → (was : BaysView) → Rack FilledSource FilledSink → Type 0
HandsOutSince old was bays = (plan : Plan) (handed : InputBytes) → LiveStands plan handed old was
    → OutputsHandOut was bays

-- of a node from which nothing was let go: each output keeps all that its place got
pub record KeepsAll (bays : Rack FilledSource FilledSink) : Type 0 where
  pub line : (b : ℕ) → b < 4 → HandsOut telling (line_out_at (places bays) b) (line_kept bays b)
  pub client : (n : ℕ) → n < 16 → HandsOut telling (client_out_at (places bays) n) (client_kept bays n)

-- what is kept is as it was
pub record KeepsOutputs (old new : Rack FilledSource FilledSink) : Type 0 where
  pub lines : line_outs new ≡ line_outs old
  pub clients : client_outs new ≡ client_outs old

-- ---- how it is known

-- so many bytes were sent to the outputs, by the counts of their places
pub record AreSent (lines clients : List ℕ) (bays : BaysView) : Type 0 where
  pub line : (b : ℕ) → b < 4 → get_or lines b 0 ≡ (line_out_at bays b).number
  pub client : (n : ℕ) → n < 16 → get_or clients n 0 ≡ (client_out_at bays n).number

-- no byte was
pub record AreNone (lines clients : List ℕ) : Type 0 where
  pub line : (b : ℕ) → b < 4 → get_or lines b 0 ≡ 0
  pub client : (n : ℕ) → n < 16 → get_or clients n 0 ≡ 0

-- A place is not dead. What a live one got ends with what is kept; and its count, which has not come to its end, is
-- that of so many bytes, and of these.
pub record KeepsSince (sent : ℕ) (place : OutView) (kept : List ℕ) : Type 0 where
  pub alive : place.state ≢ Dead
  pub ends : place.state ≡ Live → (past : List ℕ) × (place.got ≡ Some (past ++ kept))
  pub few : place.state ≡ Live → place.number < 2 ^ 64 - 1
  pub count : place.state ≡ Live → place.number ≡ sent + length kept
  pub none : place.state ≢ Live → kept ≡ []

-- the first so many lines, and clients, do
abbrev pub LinesKeep : ℕ → (sent : List ℕ) → Rack FilledSource FilledSink → Type 0
LinesKeep many sent bays = (b : ℕ) → b < many
    → KeepsSince (get_or sent b 0) (line_out_at (places bays) b) (line_kept bays b)

abbrev pub ClientsKeep : ℕ → (sent : List ℕ) → Rack FilledSource FilledSink → Type 0
ClientsKeep many sent bays = (n : ℕ) → n < many
    → KeepsSince (get_or sent n 0) (client_out_at (places bays) n) (client_kept bays n)

pub record OutputsKeep (lines clients : List ℕ) (bays : Rack FilledSource FilledSink) : Type 0 where
  pub line : LinesKeep 4 lines bays
  pub client : ClientsKeep 16 clients bays
