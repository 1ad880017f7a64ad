use Rattle.std.proofs.Common.{◌≡◌, None, slice_get, ap, rules}
use Rattle.std.specs.Prelude.{map}
use Rattle.std.proofs.lemmas.Option.{slice_get_past}
use Rattle.serde_json.specs.View.{view}
use Rattle.network_json.specs.NetworkJson.{fibre_at, fibre_by}
use Rattle.network_json.proofs.Added.{none_after}
use Rattle.network_json.proofs.places.add_fibre.Goals as goal

pub returns-in-None : goal.returns-in-None
returns-in-None c =
    let named = c.args.named.now in
    let f = c.args.f.now in
    let none : slice_get named.network.plans f.here ≡ None = search (rules, slice_get_past) in
    none_after (map view c.args.list.now.items) (fibre_at named f) (ap (fibre_by named f) none)
