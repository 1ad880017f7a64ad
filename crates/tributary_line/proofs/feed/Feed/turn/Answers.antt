use Rattle.std.proofs.Common.{◌≡◌, ◌∙◌, ◌++◌, [], ◌∷◌, sym, subst, slice_range, arith}
use Rattle.port_base.proofs.GivenLaws.{gained_twice}
use Rattle.port_base.specs.OutPlace.{out_view}
use Rattle.tributary_line.specs.FeedTurn.{FeedStands}
use Rattle.tributary_line.specs.Steps.FeedTurn.{FeedIn}
use Rattle.tributary_line.proofs.FeedTurns.{begins_turn, ends_turn}
use Rattle.tributary_line.proofs.feed.Feed.turn.Goals as goal

pub loop-n-preserved : goal.loop-n-preserved
loop-n-preserved g c =
    let so_far = c.loop-n.invariant.gained in
    let more = c.put_frame.ensures.gained in
    record {
      begun = c.put_frame.ensures.begun;
      slots = c.put_frame.ensures.slots ∙ c.loop-n.invariant.slots;
      gained = (so_far.0 ++ more.0, gained_twice (out_view g.K.Sink c.args.place.now) (out_view g.K.Sink c.loop-n.place) (out_view g.K.Sink c.put_frame.new.place) so_far.0 more.0 so_far.1 more.1);
      stands = λ own first turns h. c.put_frame.ensures.stands own first turns (c.loop-n.invariant.stands own first turns h);
    }

pub returns-clause-stands : goal.returns-clause-stands
returns-clause-stands g c = λ own first turns h fits.
    let was = out_view g.K.Sink c.args.place.now in
    let is = out_view g.K.Sink c.loop-n.place in
    let bytes = slice_range c.args.buffer.now.items c.args.bytes.start c.args.bytes.end in
    let stood = subst (FeedStands own first was turns) (sym c.self.view_is) h in
    let all : c.loop-n.n ≡ 8 = (let done = c.loop-n-test.false in let most = c.loop-n.auto.n-end in omega arith) in
    let begun = begins_turn own first was turns bytes _ c.take_bytes.new.source stood (c.take_bytes.ensures.stands own turns stood.filled stood.source fits) in
    ends_turn own first is (turns ++ bytes ∷ []) c.loop-n.self
    (subst (λ n. FeedIn own first is (turns ++ bytes ∷ []) n c.loop-n.self) all (c.loop-n.invariant.stands own first (turns ++ bytes ∷ []) begun))
