use Rattle.std.proofs.Common.{◌∙◌, false, sym, subst}
use Rattle.device_model.specs.Through.{of_line}
use Rattle.cross_matrix.specs.Pipes.{PipeView, PipeStands}
use Rattle.cross_matrix.proofs.PipeMoves.{line_over}
use Rattle.cross_matrix.proofs.pipe.Pipe.end_frames.Goals as goal

pub invariant_of-self : goal.invariant_of-self
invariant_of-self c = record {
  sink = c.end_frames.ensures.slots c.self.inside.slots c.self.invariant.sink;
  source = c.self.invariant.source;
  fit = c.self.invariant.fit;
  incoming = c.end_frames.ensures.room_stays ∙ c.self.invariant.incoming;
  outgoing = c.self.invariant.outgoing;
}

pub returns-clause-stands : goal.returns-clause-stands
returns-clause-stands c = λ x a port slots shows j filled frames e h whole.
    let i = c.self.inside in
    let old : PipeView = record { taking = i.taking; giving = i.giving; paces = i.paces.items; start = i.start; slots = i.slots; incoming = i.incoming.bytes; outgoing = i.outgoing.bytes } in
    line_over x a port slots shows j filled frames old c.end_frames.new.self c.end_frames.new.incoming.bytes e
    (λ s. c.end_frames.ensures.stands x a port slots shows j frames s whole) (λ s. c.end_frames.ensures.bytes x a port slots shows j frames s whole) (c.end_frames.ensures.entry x.from x)
    (subst (PipeStands x (of_line shows) j frames false filled) (sym c.self.view_is) h)
