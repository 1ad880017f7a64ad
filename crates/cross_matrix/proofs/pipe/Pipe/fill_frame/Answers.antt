use Rattle.std.proofs.Common.{◌+◌, sym, subst}
use Rattle.tributary_model.specs.Places.{tributary_of}
use Rattle.tributary_model.specs.Puts.{IsSourcePlace}
use Rattle.cross_matrix.specs.Parts.{OnSource}
use Rattle.cross_matrix.specs.Pipes.{PipeView, PipeStands}
use Rattle.cross_matrix.proofs.PipeMoves.{was_put, filled_on, parts_of, client_too}
use Rattle.cross_matrix.proofs.pipe.Pipe.fill_frame.Goals as goal

pub invariant_of-self : goal.invariant_of-self
invariant_of-self g c = record {
  sink = c.self.invariant.sink;
  source = c.fill_frame.ensures.slots c.self.inside.slots c.self.invariant.source;
  fit = c.self.invariant.fit;
  incoming = c.self.invariant.incoming;
  outgoing = c.self.invariant.outgoing;
}

pub returns-clause-put : goal.returns-clause-put
returns-clause-put g c = λ x b port slots input j frames ended e h.
    was_put x b port slots input j c.args.n c.self.inside.giving _ _ e (subst (PipeStands x input j frames ended c.args.n) (sym c.self.view_is) h).giving c.fill_frame.ensures.put

pub returns-clause-stands : goal.returns-clause-stands
returns-clause-stands g c = λ x input j frames ended h.
    let i = c.self.inside in
    let old : PipeView = record { taking = i.taking; giving = i.giving; paces = i.paces.items; start = i.start; slots = i.slots; incoming = i.incoming.bytes; outgoing = i.outgoing.bytes } in
    let now : PipeStands x input j frames ended c.args.n old = subst (PipeStands x input j frames ended c.args.n) (sym c.self.view_is) h in
    let to = c.fill_frame.ensures.entry x.to now.entry.giving in
    record {
      entry = parts_of x old i.taking c.fill_frame.new.self i.incoming.bytes i.outgoing.bytes now.entry now.entry.taking to;
      taking = now.taking;
      incoming = now.incoming;
      outgoing = λ client. now.outgoing (client_too x.to i.giving c.fill_frame.new.self now.entry.giving to client);
      giving = filled_on x.to x input j c.args.n (c.args.n + 1) i.giving c.fill_frame.new.self c.fill_frame.ensures.stands to now.giving;
    }

pub returns-clause-kept : goal.returns-clause-kept
returns-clause-kept g c = λ port row column low high left right other.
    c.fill_frame.ensures.kept port row column low high left right (subst (λ (p : PipeView). OnSource p.giving (λ source. IsSourcePlace (tributary_of source.slots port) c.args.n row column → ⊥)) (sym c.self.view_is) other)
