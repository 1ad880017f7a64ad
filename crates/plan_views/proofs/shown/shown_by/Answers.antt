use Rattle.std.proofs.Common.{◌≡◌, ◌∙◌, Some, slice_get, ap, subst, take, flat_map, arith}
use Rattle.std.specs.Prelude.{map}
use Rattle.line_view.specs.Watching.{asked_of}
use Rattle.plan_views.proofs.Lists.{flat_all, known_item}
use Rattle.plan_views.specs.PlanViews.{shown_at, shown_by}
use Rattle.plan_views.proofs.Named.{all_on_line, names_short}
use Rattle.plan_views.proofs.shown.shown_by.Goals as goal

pub add_shown-requires : goal.add_shown-requires
add_shown-requires c =
    let all = c.as_slice-connections.result.now in
    let i = c.loop-x.x-index in
    let x = c.x-item.result in
    let known = known_item all i x (let test = c.loop-x-test.true in omega arith) c.x-item.is in
    record { named = names_short c.args.plan.now i x c.requires.accepted (subst (λ xs. slice_get xs i ≡ Some x) c.as_slice-connections.ensures known) }

pub returns-clause-shown : goal.returns-clause-shown
unfolding shown_by
returns-clause-shown c =
    let all = c.as_slice-connections.result.now in
    let i = c.loop-x.x-index in
    let f = shown_at c.args.side c.args.line in
    c.loop-x.invariant ∙ flat_all f all i (let test = c.loop-x-test.false in omega arith) (let most = c.loop-x.auto.x-index-end in omega arith)
    ∙ ap (flat_map f) c.as_slice-connections.ensures

pub returns-clause-on_line : goal.returns-clause-on_line
unfolding shown_by
returns-clause-on_line c =
    let all = c.as_slice-connections.result.now in
    let i = c.loop-x.x-index in
    let f = shown_at c.args.side c.args.line in
    all_on_line c.args.plan.now c.args.side c.args.line c.loop-x.shown.items c.requires.accepted
    (c.loop-x.invariant ∙ flat_all f all i (let test = c.loop-x-test.false in omega arith) (let most = c.loop-x.auto.x-index-end in omega arith)
    ∙ ap (flat_map f) c.as_slice-connections.ensures)
