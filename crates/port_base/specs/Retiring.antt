-- Believed: places at the stop of their connection.
use Rattle.std.specs.Prelude.{ℕ, Bool, true, false, List, [], Option, Some}
use Rattle.port_base.specs.Views.{State, Empty, Live, Dead, InView, OutView, no_input, no_output}

-- an input place that stood so is seen so after it was retired
abbrev pub retired_in_as : State → InView → InView
retired_in_as Live place = no_input
retired_in_as Empty place = place
retired_in_as Dead place = place

-- an input place retired: a live one is empty, an empty or dead one is as it was
abbrev pub retired_in : InView → InView
retired_in place = retired_in_as place.state place

-- what is told of the bytes that a retired port got: all that it tells, where it keeps them, and else nothing
abbrev pub told_by : (keeps : Bool) → (got : Option (List ℕ)) → Option (List ℕ)
told_by true got = got
told_by false got = Some []

-- an output place whose port, retired, keeps what it got or does not, and got this: it is empty, and hands out what its
-- port keeps; a port that keeps nothing is gone
abbrev pub retired_sink : (keeps : Bool) → (got : Option (List ℕ)) → OutView
retired_sink keeps got = record no_output { got = told_by keeps got; keeps = keeps }

-- an output place that stood so is seen so after it was retired
abbrev pub retired_out_as : State → OutView → OutView
retired_out_as Live place = retired_sink place.keeps place.got
retired_out_as Empty place = place
retired_out_as Dead place = place

-- an output place retired: a live one is empty, and hands out what its port keeps; an empty or dead one is as it was
abbrev pub retired_out : OutView → OutView
retired_out place = retired_out_as place.state place
