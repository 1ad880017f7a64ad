-- The way that ends at an entry, as a value.
use Rattle.std.proofs.Common.{◌≡◌, ◌∙◌, ℕ, false, List, [], ◌∷◌, Option, None, Some, sym, ap}
use Rattle.std.specs.Prelude.{map, option_map}
use Rattle.std.proofs.lemmas.Option.{same_Some}
use Rattle.network_laws.specs.Routes.{Leg}
use Rattle.network_ways.specs.Tracing.{Way, trace}
use Rattle.network_view.specs.Entries.{Named}
use Rattle.network_view.specs.Steps.Traced.{entries_of}
use Rattle.network_view.specs.Troubles.{is_taken}
use Rattle.network_view.specs.Ways.{as_list, way_at}
use Rattle.network_view.proofs.Ways.{way_left}
use Rattle.network_json.specs.NetworkJson.{way_data}
use Rattle.network_json.specs.Steps.Entries.{ways_of_entries}

-- the value of the entries that were traced back, where it begins
pub value_by : (named : Named) (most : ℕ) (leg : Leg) (legs : List Leg) → is_taken named.network leg ≡ false
    → Some legs ≡ option_map entries_of (trace named.network most leg [])
    → ways_of_entries named legs ≡ map (way_data named) (way_at named.network most leg)
value_by named most leg legs left e = go (trace named.network most leg []) (way_left named.network most leg left) e
  where
    go : (o : Option Way) → way_at named.network most leg ≡ as_list o → Some legs ≡ option_map entries_of o
        → ways_of_entries named legs ≡ map (way_data named) (way_at named.network most leg)
    go None at e = absurd (cc)
    go (Some way) at e = ap (ways_of_entries named) (same_Some legs (entries_of way) e) ∙ sym (ap (map (way_data named)) at)
