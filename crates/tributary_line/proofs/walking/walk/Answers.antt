use Rattle.port_base.specs.InPlace.{in_view}
use Rattle.port_base.specs.PortViews.{sink_view}
use Rattle.std.proofs.Common.{◌≡◌, [], arith}
use Rattle.tributary_line.proofs.Walks.{so_far_none, so_far_more, so_far_ended, so_far_lost, so_far_all}
use Rattle.tributary_line.proofs.walking.walk.Goals as goal

pub loop-t-init : goal.loop-t-init
loop-t-init g c = record {
  ready = c.requires.ready;
  so_far = λ first was walked. so_far_none (g.W.Walker.form c.args.walker.now) first (in_view g.I.Source c.args.place.now) [] (g.W.Walker.line c.args.walker.now)
      (g.W.Walker.holds c.args.walker.now c.args.walker.now was (sink_view g.K.Sink c.args.report.now)) walked;
}

pub loop-t-preserved : goal.loop-t-preserved
loop-t-preserved g c = record {
  ready = c.in-NextTurn.ensures.ready;
  so_far = λ first was walked.
      let h = c.loop-t.invariant.so_far first was walked in
      so_far_more (g.W.Walker.form c.args.walker.now) first (in_view g.I.Source c.loop-t.place) (in_view g.I.Source c.turn.new.place) c.loop-t.t (g.W.Walker.line c.loop-t.walker) (g.W.Walker.line c.turn.new.self)
      (g.W.Walker.holds c.args.walker.now c.loop-t.walker was (sink_view g.K.Sink c.loop-t.report))
      (g.W.Walker.holds c.args.walker.now c.turn.new.self was (sink_view g.K.Sink c.turn.new.report))
      (g.W.Walker.lost c.args.walker.now c.turn.new.self was (sink_view g.K.Sink c.turn.new.report))
      h (c.in-NextTurn.ensures.walked c.args.walker.now first was h.read h.walked);
}

pub returns-in-LineEnded : goal.returns-in-LineEnded
returns-in-LineEnded g c = record {
  went = λ first was walked.
      let h = c.loop-t.invariant.so_far first was walked in
      so_far_ended (g.W.Walker.form c.args.walker.now) first (in_view g.I.Source c.loop-t.place) (in_view g.I.Source c.turn.new.place) c.loop-t.t (g.W.Walker.line c.loop-t.walker) (g.W.Walker.line c.turn.new.self)
      (g.W.Walker.holds c.args.walker.now c.loop-t.walker was (sink_view g.K.Sink c.loop-t.report))
      (g.W.Walker.holds c.args.walker.now c.turn.new.self was (sink_view g.K.Sink c.turn.new.report))
      (g.W.Walker.lost c.args.walker.now c.turn.new.self was (sink_view g.K.Sink c.turn.new.report))
      h c.loop-t-test.true (c.in-LineEnded.ensures.walked c.args.walker.now first was h.read h.walked);
}

pub returns-in-ReportFailed : goal.returns-in-ReportFailed
returns-in-ReportFailed g c = record {
  went = λ first was walked.
      let h = c.loop-t.invariant.so_far first was walked in
      so_far_lost (g.W.Walker.form c.args.walker.now) first (in_view g.I.Source c.loop-t.place) (in_view g.I.Source c.turn.new.place) c.loop-t.t (g.W.Walker.line c.loop-t.walker) (g.W.Walker.line c.turn.new.self)
      (g.W.Walker.holds c.args.walker.now c.loop-t.walker was (sink_view g.K.Sink c.loop-t.report))
      (g.W.Walker.holds c.args.walker.now c.turn.new.self was (sink_view g.K.Sink c.turn.new.report))
      (g.W.Walker.lost c.args.walker.now c.turn.new.self was (sink_view g.K.Sink c.turn.new.report))
      h c.loop-t-test.true (c.in-ReportFailed.ensures.walked c.args.walker.now first was h.read h.walked);
}

pub returns : goal.returns
returns g c = record {
  went = λ first was walked.
      let all : c.loop-t.t ≡ 16384 = omega (arith, c.loop-t-test.false, c.loop-t.auto.t-end) in
      so_far_all (g.W.Walker.form c.args.walker.now) first (in_view g.I.Source c.loop-t.place) c.loop-t.t (g.W.Walker.line c.loop-t.walker)
      (g.W.Walker.holds c.args.walker.now c.loop-t.walker was (sink_view g.K.Sink c.loop-t.report)) (c.loop-t.invariant.so_far first was walked) all;
}
