use Rattle.std.proofs.Common.{◌≡◌, ◌-◌, ◌∙◌, ap, sym, subst}
use Rattle.odu_client.specs.ClientInput.{pace_of}
use Rattle.port_base.specs.InPlace.{in_view}
use Rattle.cross_matrix.specs.Parts.{IsOfClient, ClientInStands}
use Rattle.cross_matrix.specs.Pipes.{PipeView, IsPipeOf, ClientTook}
use Rattle.cross_matrix.proofs.PipeMoves.{own_pace, client_took}
use Rattle.cross_matrix.proofs.pipe.Pipe.take_client.Goals as goal

pub invariant_of-self : goal.invariant_of-self
invariant_of-self g c = record {
  sink = c.take_client.ensures.slots c.self.inside.slots c.self.invariant.sink;
  source = c.self.invariant.source;
  fit = c.self.invariant.fit;
  incoming = c.take_client.ensures.room_stays ∙ c.self.invariant.incoming;
  outgoing = c.self.invariant.outgoing;
}

pub returns-clause-took : goal.returns-clause-took
returns-clause-took g c = λ x first read j entry at h.
    let i = c.self.inside in
    let old : PipeView = record { taking = i.taking; giving = i.giving; paces = i.paces.items; start = i.start; slots = i.slots; incoming = i.incoming.bytes; outgoing = i.outgoing.bytes } in
    let of : IsPipeOf x old = subst (IsPipeOf x) (sym c.self.view_is) entry in
    let client : IsOfClient i.taking = subst (λ (p : PipeView). IsOfClient p.taking) (sym c.self.view_is) c.requires.client in
    let stands : ClientInStands x first (in_view g.P.Source c.args.place.now) read j i.taking = subst (λ (p : PipeView). ClientInStands x first (in_view g.P.Source c.args.place.now) read j p.taking) (sym c.self.view_is) h in
    let pace : c.pace_at-count.result ≡ pace_of x.pace j = own_pace x old c.args.turn j c.pace_at-count.result of at (c.pace_at-count.ensures ∙ ap (λ paces. pace_of paces (c.args.turn - i.start)) c.deref.ensures.value) in
    subst (λ (p : PipeView). ClientTook x first (in_view g.P.Source c.take_client.new.place) read j p (record { taking = c.take_client.new.self; giving = i.giving; paces = i.paces.items; start = i.start; slots = i.slots; incoming = c.take_client.new.incoming.bytes; outgoing = i.outgoing.bytes }))
    c.self.view_is
    (client_took x first (in_view g.P.Source c.take_client.new.place) read j old c.take_client.new.self c.take_client.new.incoming.bytes client of (c.take_client.ensures.entry x.from x) (c.take_client.ensures.took x first read j pace stands))
