-- Believed: how a run of a network ends, and that it was one.
use Rattle.std.specs.Prelude.{◌≡◌, ◌≤◌, ◌<◌, ℕ, true, List, [], ◌++◌, length, Some, slice_get}
use Rattle.std.specs.List.{Contains}
use Rattle.port_base.specs.Given.{Grew}
use Rattle.port_base.specs.Views.{Live, BaysView, line_in_at, line_out_at}
use Rattle.port_base.specs.declared.sink.Sink as sink
use Rattle.port_base.specs.declared.source.Source as source
use Rattle.plan_file.specs.declared.plan.Plan.{Plan}
use Rattle.device_model.specs.Report.{Numbers}
use Rattle.device_model.specs.RunLeft.{Takings, RunLeft}
use Rattle.device_model.specs.RunNumbers.{numbers_of_run}
use Rattle.device_model.specs.declared.numbers.RunNumbers.{RunNumbers}
use Rattle.node_moments.specs.Stands.{InputBytes, StandsAt, no_bytes}
use Rattle.run_laws.specs.SeenRuns.{Run}
use Rattle.network_laws.specs.Networks.{FibreEnds, Network, IsNetwork, NetworkRun}
use Rattle.stepped_networks.specs.Stepping.{FibresBrought}
use Rattle.network_run.specs.Beginning.{AtFirst}
use Rattle.network_run.specs.Going.{ends_of, SameFibre, OpensWithMore, AreFibres, GoesOnThen, IsFull}
use Rattle.network_run.specs.Sites.{EachOne, site_view, AllOver}
use Rattle.network_run.specs.declared.fibres.Filling.{Filling}
use Rattle.network_run.specs.declared.site.Site.{Site}

-- ---- settling

-- A node past its last turn, of whatever plan, over places that were first whatever they were, leaves with these
-- numbers what a run of the plan leaves. Nothing went to its outputs.
pub record IsSettled {P K : Type 0} (p : source.Ghosts P) (k : sink.Ghosts K) (old new : Site P K) (numbers : Numbers)
    : Type 0 where
  pub left : (plan : Plan) (first : BaysView) (read : InputBytes)
      → StandsAt plan first read old.node (site_view p k old)
      → (takings : Takings) × RunLeft plan first (site_view p k new) takings numbers
  pub line_out : (site_view p k new).line_out ≡ (site_view p k old).line_out

-- so did all
pub record AreSettled {P K : Type 0} (p : source.Ghosts P) (k : sink.Ghosts K) (olds news : List (Site P K))
    (numbers : List RunNumbers) : Type 0 where
  pub count : length news ≡ length olds
  pub told : length numbers ≡ length olds
  pub each : (i : ℕ) (old new : Site P K) (n : RunNumbers) → slice_get olds i ≡ Some old → slice_get news i ≡ Some new
      → slice_get numbers i ≡ Some n → IsSettled p k old new (numbers_of_run n)

-- ---- a run of the network

-- What its far end was given is what its near end got, or a part of that from the front.
pub record IsPartFibre (f : FibreEnds) (run : ℕ → Run) : Type 0 where
  pub brought : List ℕ
  pub cut : List ℕ
  pub went : Grew (line_out_at (run f.here).before f.out).got (line_out_at (run f.here).after f.out).got
      (brought ++ cut)
  pub came : (line_in_at (run f.there).before f.into).left ≡ Some brought

-- What its far end was given is all that its near end got.
pub record IsWholeFibre (f : FibreEnds) (run : ℕ → Run) : Type 0 where
  pub bytes : List ℕ
  pub went : Grew (line_out_at (run f.here).before f.out).got (line_out_at (run f.here).after f.out).got bytes
  pub came : (line_in_at (run f.there).before f.into).left ≡ Some bytes

-- It was a run of this network, from places that were `first`, but that what was handed over to a line is counted as
-- there from the first, to places as they are, with these numbers: of each of its nodes. Over each of its fibres came
-- what was written to it, or a part of that from the front, and all over each that is told whole.
pub record RanAsNetwork {P K : Type 0} (p : source.Ghosts P) (k : sink.Ghosts K) (network : Network)
    (first : ℕ → BaysView) (news : List (Site P K)) (numbers : List RunNumbers) (fillings : List Filling)
    : Type 0 where
  pub it : NetworkRun network
  pub nodes : length news ≡ length network.plans
  pub told : length numbers ≡ length network.plans
  pub before : (i : ℕ) → i < length network.plans → OpensWithMore network i (first i) (it.run i).before
  pub after : (i : ℕ) (new : Site P K) → slice_get news i ≡ Some new → (it.run i).after ≡ site_view p k new
  pub left : (i : ℕ) (n : RunNumbers) → slice_get numbers i ≡ Some n → (takings : Takings)
      × RunLeft (it.run i).plan (it.run i).before (it.run i).after takings (numbers_of_run n)
  pub parts : (f : FibreEnds) → Contains network.fibres f → IsPartFibre f it.run
  pub brought : FibresBrought network it.run
  pub whole : (n : ℕ) (f : Filling) → slice_get fillings n ≡ Some f → f.whole ≡ true
      → IsWholeFibre (ends_of f.span) it.run

-- Where a network stood, all of whose nodes are past their last turns, and these were settled, it has run.
abbrev pub EndsWell : {P K : Type 0} → source.Ghosts P → sink.Ghosts K → Type 0
EndsWell p k = (network : Network) (first : ℕ → BaysView) (olds news : List (Site _ _)) (numbers : List RunNumbers)
    (fillings : List Filling) → IsNetwork network → 1 ≤ length network.plans
    → GoesOnThen p k network first olds fillings → AreSettled p k olds news numbers
    → ((n : ℕ) (f : Filling) → slice_get fillings n ≡ Some f → f.whole ≡ true → IsFull p k olds f)
    → RanAsNetwork p k network first news numbers fillings

-- The fibres are the same, in the same order. Of whatever network these are the nodes and the fibres, before the first
-- turn, they have run as a run of it.
pub record RunsAsNetwork {P K : Type 0} (p : source.Ghosts P) (k : sink.Ghosts K) (olds : List (Site P K))
    (was : List Filling) (news : List (Site P K)) (numbers : List RunNumbers) (is : List Filling) : Type 0 where
  pub fibres : EachOne SameFibre was is
  pub ran : (network : Network) (first : ℕ → BaysView) → IsNetwork network → 1 ≤ length network.plans
      → AtFirst p k network first olds was → RanAsNetwork p k network first news numbers is
