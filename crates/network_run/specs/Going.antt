-- Believed: a network that runs turn by turn: where its nodes, their places and its fibres stand at any moment.
use Rattle.std.specs.Prelude.{◌≡◌, ◌≢◌, ◌<◌, ℕ, true, List, ◌++◌, length, Some, slice_get}
use Rattle.std.specs.List.{Contains}
use Rattle.port_base.specs.Views.{Live, BaysView, line_in_at, line_out_at}
use Rattle.port_base.specs.declared.sink.Sink as sink
use Rattle.port_base.specs.declared.source.Source as source
use Rattle.live_laws.specs.HandedIn.{grown}
use Rattle.network_laws.specs.Networks.{FibreEnds, Network, IsNetwork}
use Rattle.stepped_networks.specs.Stepping.{NodeState, NetworkStands}
use Rattle.network_run.specs.Sites.{EachOne, site_view}
use Rattle.network_run.specs.declared.fibres.Filling.{Filling}
use Rattle.network_run.specs.declared.fibres.Span.{Span}
use Rattle.network_run.specs.declared.site.Site.{Site}

-- ---- its fibres

abbrev pub ends_of : Span → FibreEnds
ends_of span = record { here = span.here; out = span.out; there = span.there; into = span.into }

-- these are fibres of the network, each listed once: no two lead to the same line input
pub record AreFibres (network : Network) (fillings : List Filling) : Type 0 where
  pub has : (n : ℕ) (f : Filling) → slice_get fillings n ≡ Some f → Contains network.fibres (ends_of f.span)
  pub once : (m n : ℕ) (f g : Filling) → slice_get fillings m ≡ Some f → slice_get fillings n ≡ Some g
      → f.span.there ≡ g.span.there → f.span.into ≡ g.span.into → m ≡ n

-- it leads from and to where it led, however it has been filled
abbrev pub SameFibre : Filling → Filling → Type 0
SameFibre old new = new.span ≡ old.span

-- So many bytes its near end had got when the fibre was filled last: all that were handed over, and those before the
-- first. The places at both ends tell theirs, and that of its far end was live first.
pub record IsMarked (f : FibreEnds) (states : ℕ → NodeState) (mark : ℕ) : Type 0 where
  pub before : List ℕ
  pub had : (line_out_at (states f.here).opened f.out).got ≡ Some before
  pub handed : List ℕ
  pub came : (line_in_at (states f.there).opened f.into).left ≡ Some handed
  pub live : (line_in_at (states f.there).opened f.into).state ≡ Live
  pub is : mark ≡ length (before ++ handed)

-- ---- its nodes

-- the places of node i as they were first, but that more was handed over at line inputs to which fibres lead
pub record OpensWithMore (network : Network) (i : ℕ) (first opened : BaysView) : Type 0 where
  pub line_in : (c : ℕ) → (more : List ℕ) × (line_in_at opened c ≡ grown more (line_in_at first c))
  pub edges : (c : ℕ) → ((f : FibreEnds) → Contains network.fibres f → f.there ≡ i → f.into ≢ c)
      → line_in_at opened c ≡ line_in_at first c
  pub line_out : opened.line_out ≡ first.line_out
  pub client_in : opened.client_in ≡ first.client_in
  pub client_out : opened.client_out ≡ first.client_out

-- the nodes and their places are these
abbrev pub AreSites : {P K : Type 0} → source.Ghosts P → sink.Ghosts K → List (Site P K) → (ℕ → NodeState) → Type 0
AreSites p k sites states = (i : ℕ) (site : Site _ _) → slice_get sites i ≡ Some site
    → ((states i).node ≡ site.node) × ((states i).now ≡ site_view p k site)

-- The network stands so: each node at a moment of its plan, whichever, over places that were first like these, with all
-- that its lines were filled with since; and of what each near end got a part from the front was handed over.
pub record Going {P K : Type 0} (p : source.Ghosts P) (k : sink.Ghosts K) (network : Network) (first : ℕ → BaysView)
    (sites : List (Site P K)) (fillings : List Filling) : Type 0 where
  pub states : ℕ → NodeState
  pub stands : NetworkStands network states
  pub count : length sites ≡ length network.plans
  pub sites_are : AreSites p k sites states
  pub opened : (i : ℕ) → i < length network.plans → OpensWithMore network i (first i) (states i).opened
  pub marks : (n : ℕ) (f : Filling) → slice_get fillings n ≡ Some f → IsMarked (ends_of f.span) states f.mark

-- a network that stood stands, with the same fibres
pub record GoesOnThen {P K : Type 0} (p : source.Ghosts P) (k : sink.Ghosts K) (network : Network)
    (first : ℕ → BaysView) (sites : List (Site P K)) (fillings : List Filling) : Type 0 where
  pub fibres : AreFibres network fillings
  pub going : Going p k network first sites fillings

-- No node and no fibre is gone or has come, and each fibre leads where it led; and whatever network stood, stands.
pub record KeepsGoing {P K : Type 0} (p : source.Ghosts P) (k : sink.Ghosts K) (olds : List (Site P K))
    (was : List Filling) (news : List (Site P K)) (is : List Filling) : Type 0 where
  pub nodes : length news ≡ length olds
  pub fibres : EachOne SameFibre was is
  pub goes : (network : Network) (first : ℕ → BaysView) → IsNetwork network
      → GoesOnThen p k network first olds was → GoesOnThen p k network first news is

-- ---- fibres for which nothing waits

-- all that its near end got was handed over
pub record IsFull {P K : Type 0} (p : source.Ghosts P) (k : sink.Ghosts K) (sites : List (Site P K)) (f : Filling)
    : Type 0 where
  pub site : Site P K
  pub at : slice_get sites f.span.here ≡ Some site
  pub got : List ℕ
  pub told : (line_out_at (site_view p k site) f.span.out).got ≡ Some got
  pub all : f.mark ≡ length got
