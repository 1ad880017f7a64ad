-- Believed: what is seen of a place for an input.
use Rattle.std.specs.Prelude.{ℕ}
use Rattle.port_base.specs.Views.{InView, no_input, Live, Dead}
use Rattle.port_base.specs.declared.source.Source.{Ghosts}
use Rattle.port_base.specs.declared.in_place.InPlaceOf.{InPlaceOf}
use Rattle.port_base.specs.declared.in_place.InPlaceOf.TheVariants as place

-- a live place with this port and this number
abbrev pub live_in : {P : Type 0} → Ghosts P → P → ℕ → InView
live_in source port n = record {
  state = Live;
  boxed = source.boxed port;
  left = source.left port;
  ended = source.ended port;
  faults = source.faults port;
  number = n;
}

-- a dead place with this port and this number
abbrev pub dead_in : {P : Type 0} → Ghosts P → P → ℕ → InView
dead_in source port n = record (live_in source port n) { state = Dead }

-- what is seen of the place
abbrev pub in_view : {P : Type 0} → Ghosts P → InPlaceOf P → InView
in_view source place.Empty = no_input
in_view source (place.Live port n) = live_in source port n
in_view source (place.Dead sealed n) = dead_in source sealed.port n
