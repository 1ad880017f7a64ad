use Rattle.std.proofs.Common.{◌≡◌, ◌∙◌, ◌++◌, None, Some, [], ap, sym, rules, append-nil}
use Rattle.std.specs.Prelude.{map, option_map}
use Rattle.serde_json.specs.View.{view}
use Rattle.network_ways.specs.Tracing.{trace}
use Rattle.network_view.specs.Steps.Traced.{entries_of}
use Rattle.network_view.proofs.Ways.{way_round, way_taken}
use Rattle.network_json.specs.NetworkJson.{way_data}
use Rattle.network_json.specs.Steps.Entries.{ways_of_entries}
use Rattle.network_json.proofs.Traced.{value_by}
use Rattle.network_json.proofs.ways.add_way.Goals as goal

pub returns-then-is_taken : goal.returns-then-is_taken
returns-then-is_taken c =
    let old = map view c.args.list.now.items in
    let none = way_taken c.args.named.now.network c.args.most c.args.end.now (sym c.is_taken.ensures ∙ c.if-is_taken.true) in
    sym (ap (λ ways. old ++ map (way_data c.args.named.now) ways) none ∙ append-nil old)

pub returns-in_default : goal.returns-in_default
returns-in_default c =
    let old = map view c.args.list.now.items in
    let gone : None ≡ option_map entries_of (trace c.args.named.now.network c.args.most c.args.end.now []) = search rules in
    let none = way_round c.args.named.now.network c.args.most c.args.end.now (sym c.is_taken.ensures ∙ c.if-is_taken.false) gone in
    sym (ap (λ ways. old ++ map (way_data c.args.named.now) ways) none ∙ append-nil old)

pub returns : goal.returns
returns c =
    let old = map view c.args.list.now.items in
    let named = c.args.named.now in
    let left = sym c.is_taken.ensures ∙ c.if-is_taken.false in
    let some : Some c.in-Some.way.items ≡ option_map entries_of (trace named.network c.args.most c.args.end.now []) = search rules in
    c.in_ok-add_entries.ensures ∙ ap (λ legs. old ++ ways_of_entries named legs) c.as_slice.ensures.value
    ∙ ap (λ t. old ++ t) (value_by named c.args.most c.args.end.now c.in-Some.way.items left some)
