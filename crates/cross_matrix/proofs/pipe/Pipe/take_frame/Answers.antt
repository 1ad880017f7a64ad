use Rattle.cross_matrix.proofs.pipe.Pipe.take_frame.Goals as goal

pub invariant_of-self : goal.invariant_of-self
invariant_of-self g c = record {
  sink = c.take_frame.ensures.slots c.self.inside.slots c.self.invariant.sink;
  source = c.self.invariant.source;
  fit = c.self.invariant.fit;
  incoming = c.self.invariant.incoming;
  outgoing = c.self.invariant.outgoing;
}
