use Rattle.std.proofs.Common.{sym, refl, subst}
use Rattle.port_base.specs.OutPlace.{out_view}
use Rattle.line_side.specs.LineOutput.{LineMade}
use Rattle.tributary_line.proofs.FeedTurns.{frame_goes}
use Rattle.tributary_line.proofs.feed.Feed.put_frame.Goals as goal

pub returns-clause-stands : goal.returns-clause-stands
returns-clause-stands g c =
    let was = out_view g.K.Sink c.args.place.now in
    let is = out_view g.K.Sink c.finish.new.place in
    rw (sym c.self.view_is) (λ own first turns h.
    frame_goes own first was is turns c.args.n _ _ c.fill_line.new.line.frame c.requires.number c.fill_line.ensures.filled
    (λ form puts made. c.finish.ensures.made 0 form first puts (subst (LineMade 0 form first was puts) (sym c.fill_line.ensures.line) made))
    refl refl (c.fill_line.ensures.stands own turns h.source) h)
