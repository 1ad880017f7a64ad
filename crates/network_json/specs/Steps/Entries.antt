-- Steps of `add_entries`: the way of a list of entries.
use Rattle.std.specs.Prelude.{List, [], ◌∷◌}
use Rattle.serde_json.specs.Data.{Data}
use Rattle.network_laws.specs.Routes.{Leg}
use Rattle.network_view.specs.Entries.{Named}
use Rattle.network_json.specs.NetworkJson.{way_data}

-- the way of these entries; none where there are none
abbrev pub ways_of_entries : Named → List Leg → List Data
ways_of_entries named [] = []
ways_of_entries named (first ∷ rest) = way_data named (record { first = first; rest = rest }) ∷ []
