use Rattle.std.proofs.Common.{◌∙◌, sym, subst}
use Rattle.port_base.specs.OutPlace.{out_view}
use Rattle.cross_matrix.specs.Parts.{IsToClient, ClientOutStands}
use Rattle.cross_matrix.specs.Pipes.{PipeView, PipeStands}
use Rattle.cross_matrix.proofs.PipeMoves.{client_gave}
use Rattle.cross_matrix.proofs.pipe.Pipe.give_client.Goals as goal

pub returns-clause-gave : goal.returns-clause-gave
returns-clause-gave g c = λ first x input j filled frames ended h out.
    let i = c.self.inside in
    let now = subst (PipeStands x input j frames ended filled) (sym c.self.view_is) h in
    let client : IsToClient i.giving = subst (λ (p : PipeView). IsToClient p.giving) (sym c.self.view_is) c.requires.client in
    let was = out_view g.K.Sink c.args.place.now in
    client_gave x input first was (out_view g.K.Sink c.give_client.new.place) j i.giving c.give_client.new.self c.bytes.result.now (c.bytes.ensures ∙ now.outgoing client)
    (λ arrived. c.give_client.ensures.gave first arrived) (subst (λ (p : PipeView). ClientOutStands x input first was j p.giving) (sym c.self.view_is) out)
