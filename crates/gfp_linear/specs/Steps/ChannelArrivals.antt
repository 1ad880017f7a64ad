-- Steps of `find_arrival`: what private contracts alone cite, beside the definitions of `ChannelArrivals`.
use Rattle.std.specs.Prelude.{ℕ, Bool, if◌then◌else◌, List, [], option_to_list}
use Rattle.gfp_linear.specs.ChannelArrivals.{ChannelArrival, arrival_in}

-- what arrives with an area that was found, if it was
abbrev pub found_in : Bool → (area : List ℕ) → List ChannelArrival
found_in found area = if found then option_to_list (arrival_in area) else []
