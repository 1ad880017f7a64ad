-- Believed: a network of a file that was run: where it began, and its fibres.
use Rattle.std.specs.Prelude.{◌≡◌, ℕ, List, [], length, Option, Some, None, slice_get}
use Rattle.port_base.specs.Views.{BaysView}
use Rattle.port_base.specs.declared.sink.Sink as sink
use Rattle.port_base.specs.declared.source.Source as source
use Rattle.network_laws.specs.Networks.{FibreEnds}
use Rattle.network_run.specs.Going.{ends_of}
use Rattle.network_run.specs.Sites.{site_view}
use Rattle.network_run.specs.declared.fibres.Filling.{Filling}
use Rattle.network_run.specs.declared.site.Site.{Site}

-- the places of a node, and none where there is no such node
abbrev pub places_of : {P K : Type 0} → source.Ghosts P → sink.Ghosts K → Option (Site P K) → BaysView
places_of p k (Some site) = site_view p k site
places_of p k None = record { line_in = []; line_out = []; client_in = []; client_out = [] }

-- the places of each node as they are, by its index
abbrev pub first_of : {P K : Type 0} → source.Ghosts P → sink.Ghosts K → List (Site P K) → ℕ → BaysView
first_of p k sites i = places_of p k (slice_get sites i)

-- these are the fibres, in this order
pub record AreOf (fibres : List FibreEnds) (fillings : List Filling) : Type 0 where
  pub count : length fillings ≡ length fibres
  pub each : (n : ℕ) (f : FibreEnds) (filling : Filling) → slice_get fibres n ≡ Some f
      → slice_get fillings n ≡ Some filling → ends_of filling.span ≡ f
