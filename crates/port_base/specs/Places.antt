-- API: the places of a device by the names of their ports.
use Rattle.std.specs.Prelude.{◌≡◌, ◌≢◌}
use Rattle.otn_base.specs.declared.kind.PortName.{PortName}
use Rattle.otn_base.specs.declared.kind.PortName.TheVariants.{LineIn, LineOut, ClientIn, ClientOut}
use Rattle.port_base.specs.Views.{BaysView, InView, OutView, no_input, no_output, line_in_at, line_out_at, client_in_at, client_out_at}

-- what is seen of a place, for an input or for an output
pub data PlaceView : Type 0 where
  Input : InView → PlaceView
  Output : OutView → PlaceView

-- the place of a port
abbrev pub place_at : BaysView → PortName → PlaceView
place_at bays (LineIn n) = Input (line_in_at bays n)
place_at bays (LineOut n) = Output (line_out_at bays n)
place_at bays (ClientIn n) = Input (client_in_at bays n)
place_at bays (ClientOut n) = Output (client_out_at bays n)

-- a place for an input, and one with no port where the place is for an output
abbrev pub input_of : PlaceView → InView
input_of (Input place) = place
input_of (Output place) = no_input

-- a place for an output, and one with no port where the place is for an input
abbrev pub output_of : PlaceView → OutView
output_of (Input place) = no_output
output_of (Output place) = place

-- every place but this port's is as it was
pub record OnlyPort (port : PortName) (old new : BaysView) : Type 0 where
  pub others : (other : PortName) → other ≢ port → place_at new other ≡ place_at old other
