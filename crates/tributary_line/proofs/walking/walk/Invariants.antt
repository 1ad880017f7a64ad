use Rattle.std.proofs.Common.{[]}
use Rattle.port_base.specs.InPlace.{in_view}
use Rattle.port_base.specs.PortViews.{SinkView, sink_view}
use Rattle.port_base.specs.Views.{InView}
use Rattle.tributary_line.specs.Walking.{Walked}
use Rattle.tributary_line.proofs.Walks.{SoFar}
use Rattle.tributary_line.proofs.walking.walk.Given as goal

-- the turns so far, after the last of which the line goes on
abbrev pub invariant-loop-t : goal.invariant-loop-t
invariant-loop-t g l = record {
  ready : g.W.Walker.ready l.walker;
  so_far : (first : InView) (was : SinkView)
      → Walked (g.W.Walker.form l.fn.walker) first (in_view g.I.Source l.fn.place) [] 0 (g.W.Walker.line l.fn.walker)
      (g.W.Walker.holds l.fn.walker l.fn.walker was (sink_view g.K.Sink l.fn.report))
      → SoFar (g.W.Walker.form l.fn.walker) first (in_view g.I.Source l.place) l.t (g.W.Walker.line l.walker)
      (g.W.Walker.holds l.fn.walker l.walker was (sink_view g.K.Sink l.report));
}
