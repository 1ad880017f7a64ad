use Rattle.std.proofs.Common.{◌≡◌, ◌∙◌, ◌==◌, length, flat_map, ap, sym}
use Rattle.std.specs.Prelude.{map}
use Rattle.serde_json.specs.View.{view}
use Rattle.network_view.specs.NetworkText.{is_met}
use Rattle.network_view.specs.Ways.{way_at}
use Rattle.network_json.specs.NetworkJson.{network_by, troubles_in}
use Rattle.network_json.proofs.Meeting.{met_where}
use Rattle.network_json.proofs.Telling.{whole_value}
use Rattle.network_json.proofs.whole.network_value.Goals as goal

pub value_of_whole-requires-clause-troubles : goal.value_of_whole-requires-clause-troubles
value_of_whole-requires-clause-troubles c =
    c.in_ok-troubles.ensures ∙ ap (troubles_in c.args.named.now) (c.as_slice.ensures.value ∙ sym c.as_slice-3.ensures.value)

pub value_of_whole-requires-clause-met : goal.value_of_whole-requires-clause-met
value_of_whole-requires-clause-met c =
    let named = c.args.named.now in
    let amiss : map view c.in_ok-troubles.troubles.items ≡ troubles_in named c.in_ok-legs.legs.items =
    c.in_ok-troubles.ensures ∙ ap (troubles_in named) c.as_slice.ensures.value in
    c.has_none-met.ensures ∙ ap (λ xs. length xs == 0) c.as_slice-2.ensures.value
    ∙ sym (met_where named c.in_ok-legs.legs.items c.in_ok-troubles.troubles.items c.in_ok-legs.ensures amiss)

pub returns-clause-value : goal.returns-clause-value
returns-clause-value c =
    let named = c.args.named.now in
    whole_value named c.in_ok-legs.legs.items (view c.in_ok-value.value) c.in_ok-legs.ensures
    (c.in_ok-value.ensures ∙ ap (λ xs. network_by named xs (flat_map (way_at named.network (length xs)) xs)) c.as_slice-3.ensures.value)

pub returns-clause-met : goal.returns-clause-met
returns-clause-met c =
    let named = c.args.named.now in
    let amiss : map view c.in_ok-troubles.troubles.items ≡ troubles_in named c.in_ok-legs.legs.items =
    c.in_ok-troubles.ensures ∙ ap (troubles_in named) c.as_slice.ensures.value in
    c.has_none-met.ensures ∙ ap (λ xs. length xs == 0) c.as_slice-2.ensures.value
    ∙ sym (met_where named c.in_ok-legs.legs.items c.in_ok-troubles.troubles.items c.in_ok-legs.ensures amiss)
