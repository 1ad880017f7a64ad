-- API: the ways of a network that are told.
use Rattle.std.specs.Prelude.{ℕ, ◌==◌, Bool, true, false, if◌then◌else◌, List, [], ◌∷◌, Option, Some, None, length}
use Rattle.std.specs.List.{flat_map, list_all}
use Rattle.network_laws.specs.Networks.{Network}
use Rattle.network_laws.specs.Routes.{Leg}
use Rattle.network_ways.specs.Tracing.{Way, trace}
use Rattle.network_view.specs.Entries.{legs_of}
use Rattle.network_view.specs.Troubles.{is_taken}

abbrev pub as_list : Option Way → List Way
as_list None = []
as_list (Some way) = way ∷ []

-- the way that ends at an entry: none where the entry goes on, or where its way has no beginning within so many steps
unfoldable pub way_at : Network → (most : ℕ) → Leg → List Way
way_at network most leg = if is_taken network leg then [] else as_list (trace network most leg [])

-- A way has at most as many entries as the network.
abbrev pub most_steps : Network → ℕ
most_steps network = length (legs_of network)

-- all ways of a network, in the order of their last entries
abbrev pub ways_of : Network → List Way
ways_of network = flat_map (way_at network (most_steps network)) (legs_of network)

-- all its entries begin with the same turn
abbrev pub is_in_step : (first : Leg) → List Leg → Bool
is_in_step first rest = list_all (λ leg. leg.x.start == first.x.start) rest
