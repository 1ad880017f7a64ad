-- Believed: a network before its first turn.
use Rattle.std.specs.Prelude.{◌≡◌, ℕ, List, [], length, Some, slice_get}
use Rattle.std.specs.List.{Contains}
use Rattle.port_base.specs.Views.{Live, BaysView, line_in_at, line_out_at}
use Rattle.port_base.specs.declared.sink.Sink as sink
use Rattle.port_base.specs.declared.source.Source as source
use Rattle.plan_file.specs.declared.plan.Plan.{Plan}
use Rattle.node_moments.specs.Stands.{StandsAt, no_bytes}
use Rattle.network_laws.specs.Networks.{FibreEnds, Network}
use Rattle.network_run.specs.Going.{AreFibres}
use Rattle.network_run.specs.Sites.{site_view}
use Rattle.network_run.specs.declared.fibres.Filling.{Filling}
use Rattle.network_run.specs.declared.site.Site.{Site}

-- Its nodes are new ones of its plans, over places that are `first`; its fibres are these, which nothing went over yet,
-- and whose far ends are live and hold nothing.
pub record AtFirst {P K : Type 0} (p : source.Ghosts P) (k : sink.Ghosts K) (network : Network) (first : ℕ → BaysView)
    (sites : List (Site P K)) (fillings : List Filling) : Type 0 where
  pub count : length sites ≡ length network.plans
  pub nodes : (i : ℕ) (plan : Plan) (site : Site P K) → slice_get network.plans i ≡ Some plan
      → slice_get sites i ≡ Some site → (opened : BaysView) → StandsAt plan opened no_bytes site.node opened
  pub places : (i : ℕ) (site : Site P K) → slice_get sites i ≡ Some site → site_view p k site ≡ first i
  pub fibres : AreFibres network fillings
  pub near : (f : FibreEnds) → Contains network.fibres f → (line_out_at (first f.here) f.out).got ≡ Some []
  pub far : (f : FibreEnds) → Contains network.fibres f → (line_in_at (first f.there) f.into).left ≡ Some []
  pub live : (f : FibreEnds) → Contains network.fibres f → (line_in_at (first f.there) f.into).state ≡ Live
  pub marks : (n : ℕ) (f : Filling) → slice_get fillings n ≡ Some f → f.mark ≡ 0
