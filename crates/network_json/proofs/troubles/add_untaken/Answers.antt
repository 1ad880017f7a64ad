use Rattle.std.proofs.Common.{◌≡◌, ◌∙◌, ◌∷◌, ◌++◌, [], true, ap, sym, rules}
use Rattle.std.specs.Prelude.{map}
use Rattle.serde_json.specs.View.{view}
use Rattle.network_view.specs.Troubles.{is_untaken}
use Rattle.network_json.specs.NetworkJson.{only_if, untaken_data}
use Rattle.network_json.proofs.troubles.add_untaken.Goals as goal

pub returns : goal.returns
returns c =
    let old = map view c.args.list.now.items in
    let amiss : is_untaken c.args.named.now.network c.args.leg.now ≡ true = search rules in
    c.in_ok-add.ensures ∙ ap (λ d. old ++ d ∷ []) c.in_ok-value.ensures
    ∙ ap (λ b. old ++ only_if b (untaken_data c.args.named.now c.args.leg.now)) (sym amiss)
