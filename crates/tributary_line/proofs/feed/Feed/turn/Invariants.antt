use Rattle.std.proofs.Common.{◌≡◌, ℕ, List}
use Rattle.port_base.specs.Given.{Gained}
use Rattle.port_base.specs.OutPlace.{out_view}
use Rattle.port_base.specs.Views.{OutView}
use Rattle.tributary_model.specs.Places.{Tributary}
use Rattle.tributary_line.specs.Steps.FeedTurn.{FeedIn, IsBegun}
use Rattle.tributary_line.proofs.feed.Feed.turn.Given as goal

-- the frames so far
abbrev pub invariant-loop-n : goal.invariant-loop-n
invariant-loop-n g l = record {
  begun : IsBegun l.n l.self.source;
  slots : l.self.source.slots ≡ l.initial.self.source.slots;
  gained : (written : List ℕ) × Gained (out_view g.K.Sink l.fn.place) written (out_view g.K.Sink l.place);
  stands : (own : Tributary) (first : OutView) (turns : List (List ℕ)) → FeedIn own first (out_view g.K.Sink l.fn.place) turns 0 l.initial.self
      → FeedIn own first (out_view g.K.Sink l.place) turns l.n l.self;
}
