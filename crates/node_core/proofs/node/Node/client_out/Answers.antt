use Rattle.std.proofs.Common.{List, None, subst}
use Rattle.otn_base.specs.declared.kind.PortName.TheVariants as port
use Rattle.node_links.specs.Steps.LinkMoves.{FirstOf}
use Rattle.node_links.specs.Links.{joins}
use Rattle.node_moments.specs.NodeView.{NodeView}
use Rattle.node_core.specs.Settling.{IsClientOutCount}
use Rattle.node_links.specs.declared.link.Link.{Link}
use Rattle.node_links.proofs.ClientPieces.{found_at}
use Rattle.node_links.proofs.LinkLaws.{gives_to_client}
use Rattle.node_core.proofs.NodeReads.{client_out_told, client_out_none}
use Rattle.node_core.proofs.node.Node.client_out.Goals as goal

pub client_out-requires : goal.client_out-requires
client_out-requires c =
    let link = c.index.result.now in
    let at = found_at (joins (port.ClientOut c.args.n)) c.deref.result.now c.self.inside.links.items c.link_at.result c.in-Some.i link c.deref.ensures.value c.in-Some.is c.link_at.ensures c.index.ensures in
    record { client = gives_to_client link c.args.n at.2 }

pub returns-in-Some : goal.returns-in-Some
returns-in-Some c =
    let link = c.index.result.now in
    let at = found_at (joins (port.ClientOut c.args.n)) c.deref.result.now c.self.inside.links.items c.link_at.result c.in-Some.i link c.deref.ensures.value c.in-Some.is c.link_at.ensures c.index.ensures in
    subst (λ (node : NodeView). IsClientOutCount node c.args.n (record { frames = c.client_out.result.0; packets = c.client_out.result.1 })) c.self.view_is
    (client_out_told _ c.args.n c.in-Some.i link c.client_out.result at.0 at.1 (λ client. c.client_out.ensures))

pub returns-in-None : goal.returns-in-None
returns-in-None c =
    let said : FirstOf (joins (port.ClientOut c.args.n)) c.deref.result.now None = subst (λ o. FirstOf (joins (port.ClientOut c.args.n)) c.deref.result.now o) c.in-None.is c.link_at.ensures in
    let found : FirstOf (joins (port.ClientOut c.args.n)) c.self.inside.links.items None = subst (λ (ls : List Link). FirstOf (joins (port.ClientOut c.args.n)) ls None) c.deref.ensures.value said in
    subst (λ (node : NodeView). IsClientOutCount node c.args.n (record { frames = 0; packets = 0 })) c.self.view_is (client_out_none _ c.args.n (0, 0) found)
