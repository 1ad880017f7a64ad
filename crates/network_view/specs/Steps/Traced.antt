-- Steps of `way_to` and `lines_of_way`: a way as the list of its entries.
use Rattle.std.specs.Prelude.{ℕ, List, [], ◌∷◌}
use Rattle.network_laws.specs.Routes.{Leg}
use Rattle.network_ways.specs.Tracing.{Way}
use Rattle.network_view.specs.Entries.{Named}
use Rattle.network_view.specs.NetworkText.{way_lines}

-- the entries of a way, from its first on
abbrev pub entries_of : Way → List Leg
entries_of way = way.first ∷ way.rest

-- the lines of the way of these entries; none where there are none
abbrev pub way_lines_of : Named → (number : ℕ) → List Leg → List ℕ
way_lines_of named number [] = []
way_lines_of named number (first ∷ rest) = way_lines named number (record { first = first; rest = rest })
