-- Believed: racks of places, and what is seen of them.
use Rattle.std.specs.Prelude.{◌≡◌, ℕ, List, map, replicate}
use Rattle.std.specs.Vec.{with_item}
use Rattle.port_base.specs.Views.{BaysView}
use Rattle.port_base.specs.InPlace.{in_view}
use Rattle.port_base.specs.OutPlace.{out_view}
use Rattle.port_base.specs.declared.source.Source as source
use Rattle.port_base.specs.declared.sink.Sink as sink
use Rattle.port_base.specs.declared.bays.Rack.{Rack}
use Rattle.port_base.specs.declared.in_place.InPlaceOf.{InPlaceOf}
use Rattle.port_base.specs.declared.in_place.InPlaceOf.TheVariants as input
use Rattle.port_base.specs.declared.out_place.OutPlaceOf.{OutPlaceOf}
use Rattle.port_base.specs.declared.out_place.OutPlaceOf.TheVariants as output

-- the places for line inputs
abbrev pub line_ins : {P K : Type 0} → Rack P K → List (InPlaceOf P)
line_ins rack = rack.line_in.items

-- the places for line outputs
abbrev pub line_outs : {P K : Type 0} → Rack P K → List (OutPlaceOf K)
line_outs rack = rack.line_out.items

-- the places for client inputs
abbrev pub client_ins : {P K : Type 0} → Rack P K → List (InPlaceOf P)
client_ins rack = rack.client_in.items

-- the places for client outputs
abbrev pub client_outs : {P K : Type 0} → Rack P K → List (OutPlaceOf K)
client_outs rack = rack.client_out.items

-- what is seen of the places
abbrev pub bays_view : {P K : Type 0} → source.Ghosts P → sink.Ghosts K → Rack P K → BaysView
bays_view p k rack = record {
  line_in = map (in_view p) (line_ins rack);
  line_out = map (out_view k) (line_outs rack);
  client_in = map (in_view p) (client_ins rack);
  client_out = map (out_view k) (client_outs rack);
}

-- with another place at line input n, and every other place the same
abbrev pub with_line_in : {P K : Type 0} → Rack P K → ℕ → InPlaceOf P → Rack P K
with_line_in rack n place = record rack { line_in = with_item rack.line_in n place }

-- with another place at line output n
abbrev pub with_line_out : {P K : Type 0} → Rack P K → ℕ → OutPlaceOf K → Rack P K
with_line_out rack n place = record rack { line_out = with_item rack.line_out n place }

-- with another place at client input n
abbrev pub with_client_in : {P K : Type 0} → Rack P K → ℕ → InPlaceOf P → Rack P K
with_client_in rack n place = record rack { client_in = with_item rack.client_in n place }

-- with another place at client output n
abbrev pub with_client_out : {P K : Type 0} → Rack P K → ℕ → OutPlaceOf K → Rack P K
with_client_out rack n place = record rack { client_out = with_item rack.client_out n place }

-- all places are empty
pub record IsVacant {P K : Type 0} (rack : Rack P K) : Type 0 where
  pub line_in : line_ins rack ≡ replicate 4 input.Empty
  pub line_out : line_outs rack ≡ replicate 4 output.Empty
  pub client_in : client_ins rack ≡ replicate 16 input.Empty
  pub client_out : client_outs rack ≡ replicate 16 output.Empty
