-- Believed: what is seen of a place for an output.
use Rattle.std.specs.Prelude.{ℕ}
use Rattle.port_base.specs.Retiring.{retired_sink}
use Rattle.port_base.specs.Views.{OutView, no_output, Live, Dead}
use Rattle.port_base.specs.declared.sink.Sink.{Ghosts}
use Rattle.port_base.specs.declared.out_place.OutPlaceOf.{OutPlaceOf}
use Rattle.port_base.specs.declared.out_place.OutPlaceOf.TheVariants as place

-- a live place with this port and this number
abbrev pub live_out : {K : Type 0} → Ghosts K → K → ℕ → OutView
live_out sink port n = record {
  state = Live;
  boxed = sink.boxed port;
  got = sink.got port;
  keeps = sink.keeps port;
  faults = sink.faults port;
  number = n;
}

-- a dead place with this port and this number
abbrev pub dead_out : {K : Type 0} → Ghosts K → K → ℕ → OutView
dead_out sink port n = record (live_out sink port n) { state = Dead }

-- what is seen of the place
abbrev pub out_view : {K : Type 0} → Ghosts K → OutPlaceOf K → OutView
out_view sink place.Empty = no_output
out_view sink (place.Live port n) = live_out sink port n
out_view sink (place.Retired sealed) = retired_sink (sink.keeps sealed.port) (sink.got sealed.port)
out_view sink (place.Dead sealed n) = dead_out sink sealed.port n
