-- Believed: the nodes of a network before its first turn.
use Rattle.std.specs.Prelude.{◌≡◌, ◌≢◌, ◌<◌, ℕ, List, [], length, Some, None, slice_get}
use Rattle.std.specs.List.{Contains}
use Rattle.otn_base.specs.declared.limits.TheConstants.{LINES}
use Rattle.port_base.specs.Views.{BaysView, line_in_at, line_out_at}
use Rattle.port_base.specs.declared.sink.Sink as sink
use Rattle.port_base.specs.declared.source.Source as source
use Rattle.plan_file.specs.declared.plan.Plan.{Plan}
use Rattle.node_moments.specs.Stands.{StandsAt, no_bytes}
use Rattle.live_laws.specs.Live.{holding, telling}
use Rattle.network_laws.specs.Networks.{FibreEnds}
use Rattle.network_run.specs.Sites.{site_view}
use Rattle.network_run.specs.declared.site.Site.{Site}

-- It is the node of the plan before turn 1, with the ends of the fibres at its lines, over which nothing went yet. It
-- is the one with this index in the network.
pub record SiteOpens {P K : Type 0} (p : source.Ghosts P) (k : sink.Ghosts K) (fibres : List FibreEnds) (index : ℕ)
    (plan : Plan) (site : Site P K) : Type 0 where
  pub node : (first : BaysView) → StandsAt plan first no_bytes site.node first
  pub far : (f : FibreEnds) → Contains fibres f → f.there ≡ index → f.into < LINES
      → line_in_at (site_view p k site) f.into ≡ holding []
  pub near : (f : FibreEnds) → Contains fibres f → f.here ≡ index → f.out < LINES
      → line_out_at (site_view p k site) f.out ≡ telling

-- its places are those that were given, but where fibres lead to or begin at its lines
pub record KeepsEdges (fibres : List FibreEnds) (index : ℕ) (given now : BaysView) : Type 0 where
  pub line_in : (c : ℕ) → ((f : FibreEnds) → Contains fibres f → f.there ≡ index → f.into ≢ c)
      → line_in_at now c ≡ line_in_at given c
  pub line_out : (b : ℕ) → ((f : FibreEnds) → Contains fibres f → f.here ≡ index → f.out ≢ b)
      → line_out_at now b ≡ line_out_at given b
  pub client_in : now.client_in ≡ given.client_in
  pub client_out : now.client_out ≡ given.client_out

-- these are the nodes of the plans, so
pub record AreOpened {P K : Type 0} (p : source.Ghosts P) (k : sink.Ghosts K) (fibres : List FibreEnds)
    (plans : List Plan) (sites : List (Site P K)) : Type 0 where
  pub count : length sites ≡ length plans
  pub each : (i : ℕ) (plan : Plan) (site : Site P K) → slice_get plans i ≡ Some plan → slice_get sites i ≡ Some site
      → SiteOpens p k fibres i plan site
