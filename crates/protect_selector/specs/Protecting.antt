-- Believed: the command within its turns: two sinks, what was chosen of them, and a source.
use Rattle.std.specs.Prelude.{◌≡◌, ◌≢◌, ℕ}
use Rattle.port_base.specs.PortViews.{SinkView}
use Rattle.port_base.specs.Views.{InView, OutView, BaysView, line_in_at, line_out_at}

-- what is seen of the places that the command uses, and of the report
pub record Ends : Type 0 where
  pub working : InView
  pub protection : InView
  pub output : OutView
  pub report : SinkView

-- the places that the command uses, and the report, of all
abbrev pub ends_of : BaysView → SinkView → Ends
ends_of bays report = record {
  working = line_in_at bays 0;
  protection = line_in_at bays 1;
  output = line_out_at bays 0;
  report = report;
}

-- all other places are as they were
pub record OnlyProtected (first now : BaysView) : Type 0 where
  pub line_in : (a : ℕ) → a ≢ 0 → a ≢ 1 → line_in_at now a ≡ line_in_at first a
  pub line_out : (b : ℕ) → b ≢ 0 → line_out_at now b ≡ line_out_at first b
  pub client_in : now.client_in ≡ first.client_in
  pub client_out : now.client_out ≡ first.client_out
