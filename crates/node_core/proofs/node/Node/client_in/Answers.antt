use Rattle.std.proofs.Common.{List, false, None, subst}
use Rattle.otn_base.specs.declared.kind.PortName.TheVariants as port
use Rattle.node_links.specs.Steps.LinkMoves.{FirstOf}
use Rattle.node_links.specs.Links.{joins}
use Rattle.node_moments.specs.NodeView.{NodeView}
use Rattle.node_core.specs.Settling.{IsClientInCount}
use Rattle.node_links.specs.declared.link.Link.{Link}
use Rattle.node_links.proofs.ClientPieces.{found_at}
use Rattle.node_core.proofs.NodeReads.{client_in_told, client_in_none}
use Rattle.node_core.proofs.node.Node.client_in.Goals as goal

pub client_in-requires : goal.client_in-requires
client_in-requires c =
    let link = c.index.result.now in
    let at = found_at (joins (port.ClientIn c.args.n)) c.deref.result.now c.self.inside.links.items c.link_at.result c.in-Some.i link c.deref.ensures.value c.in-Some.is c.link_at.ensures c.index.ensures in
    record { client = (c.args.n, at.2) }

pub returns-in-Some : goal.returns-in-Some
returns-in-Some c =
    let link = c.index.result.now in
    let at = found_at (joins (port.ClientIn c.args.n)) c.deref.result.now c.self.inside.links.items c.link_at.result c.in-Some.i link c.deref.ensures.value c.in-Some.is c.link_at.ensures c.index.ensures in
    subst (λ (node : NodeView). IsClientInCount node c.args.n (record { packets = c.client_in.result.0; spent = c.client_in.result.1; bad = c.client_in.result.2 })) c.self.view_is
    (client_in_told _ c.args.n c.in-Some.i link c.client_in.result at.0 at.1 c.client_in.ensures.later c.client_in.ensures.started)

pub returns-in-None : goal.returns-in-None
returns-in-None c =
    let said : FirstOf (joins (port.ClientIn c.args.n)) c.deref.result.now None = subst (λ o. FirstOf (joins (port.ClientIn c.args.n)) c.deref.result.now o) c.in-None.is c.link_at.ensures in
    let found : FirstOf (joins (port.ClientIn c.args.n)) c.self.inside.links.items None = subst (λ (ls : List Link). FirstOf (joins (port.ClientIn c.args.n)) ls None) c.deref.ensures.value said in
    subst (λ (node : NodeView). IsClientInCount node c.args.n (record { packets = 0; spent = false; bad = None })) c.self.view_is (client_in_none _ c.args.n (record { packets = 0; spent = false; bad = None }) found)
