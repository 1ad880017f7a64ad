-- Believed: the place of a client after the stop of its connection.
use Rattle.std.specs.Prelude.{Bool, if◌then◌else◌}
use Rattle.port_base.specs.Retiring.{retired_in, retired_out}
use Rattle.port_base.specs.Views.{InView, OutView}

-- a client's place, input or output, after the stop of its connection, which retires or not
abbrev pub after_retire : Bool → InView → InView
after_retire retires place = if retires then retired_in place else place

abbrev pub out_after_retire : Bool → OutView → OutView
out_after_retire retires place = if retires then retired_out place else place
