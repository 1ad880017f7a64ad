use Rattle.std.proofs.Common.{◌≡◌, ◌<◌, Some, length, slice_get, refl, sym, ap, subst, ◌∙◌}
use Rattle.std.proofs.lemmas.Option.{slice_get_read}
use Rattle.node_links.specs.Links.{was_on}
use Rattle.node_moments.specs.NodeView.{NodeView}
use Rattle.node_core.specs.Settling.{IsLastState}
use Rattle.node_links.specs.declared.link.Link.{Link}
use Rattle.node_core.proofs.NodeReads.{state_told}
use Rattle.node_moments.proofs.Parts.{one_at}
use Rattle.node_core.proofs.node.Node.connection_state.Goals as goal

known : (c : goal.After-last_state) → slice_get c.self.inside.links.items c.args.i ≡ Some c.index.result.now
known c =
    let links = c.self.inside.links.items in
    let within : c.args.i < length links = subst (λ (node : NodeView). c.args.i < length node.links) (sym c.self.view_is) c.requires in
    slice_get_read links (length links) c.args.i c.index.result.now refl within c.index.ensures

pub returns-clause-state : goal.returns-clause-state
returns-clause-state c =
    subst (λ (node : NodeView). IsLastState node c.args.i c.last_state.result) c.self.view_is
    (state_told _ c.args.i c.index.result.now c.last_state.result (known c) c.last_state.ensures.active c.last_state.ensures.state)

pub returns-clause-active : goal.returns-clause-active
returns-clause-active c = λ link has.
    let had : slice_get c.self.inside.links.items c.args.i ≡ Some link = subst (λ (node : NodeView). slice_get node.links c.args.i ≡ Some link) (sym c.self.view_is) has in
    let same : c.index.result.now ≡ link = one_at c.self.inside.links.items c.args.i c.index.result.now link (known c) had in
    c.last_state.ensures.active ∙ ap (λ (l : Link). was_on c.self.inside.past l) same ∙ ap (λ (node : NodeView). was_on node.past link) c.self.view_is
