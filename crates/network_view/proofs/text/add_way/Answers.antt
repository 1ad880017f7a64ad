use Rattle.std.proofs.Common.{◌≡◌, ◌∙◌, ◌++◌, Some, None, true, false, [], ap, sym, rules, length, append-nil}
use Rattle.std.specs.Prelude.{option_map, string_bytes}
use Rattle.network_ways.specs.Tracing.{trace}
use Rattle.network_view.specs.NetworkText.{numbered, way_lines}
use Rattle.network_view.specs.Steps.Traced.{entries_of}
use Rattle.network_view.specs.Troubles.{is_taken}
use Rattle.network_view.proofs.Lists.{numbered_none}
use Rattle.network_view.proofs.Ways.{told_by, way_round, way_taken}
use Rattle.network_view.proofs.text.add_way.Goals as goal

pub returns-then-is_taken-clause-text : goal.returns-then-is_taken-clause-text
returns-then-is_taken-clause-text c =
    let old = string_bytes c.args.text.now in
    let f = way_lines c.args.named.now in
    let none = way_taken c.args.named.now.network c.args.most c.args.end.now (sym c.is_taken.ensures ∙ c.if-is_taken.true) in
    sym (ap (λ ways. old ++ numbered f c.args.number ways) none ∙ ap (λ t. old ++ t) (numbered_none f c.args.number) ∙ append-nil old)

pub returns-then-is_taken-clause-told : goal.returns-then-is_taken-clause-told
returns-then-is_taken-clause-told c =
    sym (ap length (way_taken c.args.named.now.network c.args.most c.args.end.now (sym c.is_taken.ensures ∙ c.if-is_taken.true)))

pub returns-in_default-clause-text : goal.returns-in_default-clause-text
returns-in_default-clause-text c =
    let old = string_bytes c.args.text.now in
    let f = way_lines c.args.named.now in
    let gone : None ≡ option_map entries_of (trace c.args.named.now.network c.args.most c.args.end.now []) = search rules in
    let none = way_round c.args.named.now.network c.args.most c.args.end.now (sym c.is_taken.ensures ∙ c.if-is_taken.false) gone in
    sym (ap (λ ways. old ++ numbered f c.args.number ways) none ∙ ap (λ t. old ++ t) (numbered_none f c.args.number) ∙ append-nil old)

pub returns-in_default-clause-told : goal.returns-in_default-clause-told
returns-in_default-clause-told c =
    let gone : None ≡ option_map entries_of (trace c.args.named.now.network c.args.most c.args.end.now []) = search rules in
    sym (ap length (way_round c.args.named.now.network c.args.most c.args.end.now (sym c.is_taken.ensures ∙ c.if-is_taken.false) gone))

pub returns-clause-text : goal.returns-clause-text
returns-clause-text c =
    let old = string_bytes c.args.text.now in
    let legs = c.in-Some.way.items in
    let some : Some legs ≡ option_map entries_of (trace c.args.named.now.network c.args.most c.args.end.now []) = search rules in
    let told = told_by c.args.named.now c.args.most c.args.number c.args.end.now legs (sym c.is_taken.ensures ∙ c.if-is_taken.false) some in
    c.in_ok-push_str.ensures.bytes ∙ ap (λ t. old ++ t)
    (c.deref.ensures ∙ (let said = c.in_ok-lines.ensures in let items = c.as_slice.ensures.value in let lines = told.lines in cc))

pub returns-clause-told : goal.returns-clause-told
returns-clause-told c =
    let legs = c.in-Some.way.items in
    let some : Some legs ≡ option_map entries_of (trace c.args.named.now.network c.args.most c.args.end.now []) = search rules in
    sym (told_by c.args.named.now c.args.most c.args.number c.args.end.now legs (sym c.is_taken.ensures ∙ c.if-is_taken.false) some).one
