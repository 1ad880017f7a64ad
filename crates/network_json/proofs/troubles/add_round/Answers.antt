use Rattle.std.proofs.Common.{◌≡◌, ◌∙◌, ◌∷◌, ◌++◌, [], true, ap, sym, rules}
use Rattle.std.specs.Prelude.{map}
use Rattle.serde_json.specs.View.{view}
use Rattle.network_view.specs.Troubles.{is_round}
use Rattle.network_json.specs.NetworkJson.{only_if, round_data}
use Rattle.network_json.proofs.troubles.add_round.Goals as goal

pub returns : goal.returns
returns c =
    let old = map view c.args.list.now.items in
    let amiss : is_round c.args.named.now.network c.args.most c.args.leg.now ≡ true = search rules in
    c.in_ok-add.ensures ∙ ap (λ d. old ++ d ∷ []) c.in_ok-value.ensures
    ∙ ap (λ b. old ++ only_if b (round_data c.args.named.now c.args.leg.now)) (sym amiss)
