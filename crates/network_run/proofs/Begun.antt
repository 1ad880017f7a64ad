-- A network before its first turn stands.
use Rattle.std.proofs.Common.{◌≡◌, ◌≤◌, ◌<◌, ℕ, true, List, [], Option, None, Some, length, refl, sym, ap, ◌∙◌, subst, arith}
use Rattle.std.specs.Prelude.{slice_get, IfOk, Result}
use Rattle.std.proofs.lemmas.Option.{slice_get_within}
use Rattle.port_base.specs.Views.{InView, OutView, BaysView, line_in_at, line_out_at}
use Rattle.port_base.specs.declared.sink.Sink as sink
use Rattle.port_base.specs.declared.source.Source as source
use Rattle.device_model.specs.declared.numbers.RunNumbers.{RunNumbers}
use Rattle.node_moments.specs.NodeView.{NodeView}
use Rattle.node_moments.specs.Stands.{StandsAt, no_bytes}
use Rattle.network_laws.specs.Networks.{FibreEnds, Network, IsNetwork}
use Rattle.stepped_networks.specs.Stepping.{NodeState}
use Rattle.network_run.specs.Beginning.{AtFirst}
use Rattle.network_run.specs.Ending.{AreSettled, RanAsNetwork, RunsAsNetwork}
use Rattle.network_run.specs.Going.{ends_of, Going, GoesOnThen, KeepsGoing, OpensWithMore, IsFull}
use Rattle.network_run.specs.Sites.{site_view}
use Rattle.network_run.specs.declared.fibres.Filling.{Filling}
use Rattle.network_run.specs.declared.site.Site.{Site}
use Rattle.network_run.proofs.Ended.{ends_well}
use Rattle.network_run.proofs.Going.{some_at, grown_none}
use Rattle.network_run.proofs.Settling.{if_ok}

-- the node at a place of the list, and one where there is none
node_or : {P K : Type 0} → Option (Site P K) → Site P K → NodeView
node_or None other = other.node
node_or (Some site) other = site.node

node_at : {P K : Type 0} (at : Option (Site P K)) (other site : Site P K) → at ≡ Some site → node_or at other ≡ site.node
unfolding node_or
node_at at other site e = ap (λ o. node_or o other) e

module _ {P K : Type 0} (p : source.Ghosts P) (k : sink.Ghosts K) (network : Network) (first : ℕ → BaysView) (sites : List (Site P K))
    (fillings : List Filling) (net : IsNetwork network) (some : 1 ≤ length network.plans) (h : AtFirst p k network first sites fillings) where
  other : Site P K
  other = (some_at sites 0 (let count = h.count in omega arith)).0

  opened_as_first : (i : ℕ) → OpensWithMore network i (first i) (first i)
  opened_as_first i = record {
    line_in = λ c. ([], grown_none (line_in_at (first i) c));
    edges = λ c none. refl;
    line_out = refl;
    client_in = refl;
    client_out = refl;
  }

  abbrev states : ℕ → NodeState
  states i = record { opened = first i; read = no_bytes; node = node_or (slice_get sites i) other; now = first i }

  pub begins : GoesOnThen p k network first sites fillings
  begins = record {
    fibres = h.fibres;
    going = record {
      states = states;
      stands = record {
        nodes = λ i plan known. (
            let site = some_at sites i (let within = slice_get_within network.plans i plan known in let count = h.count in omega arith) in
            subst (λ n. StandsAt plan (first i) no_bytes n (first i)) (sym (node_at (slice_get sites i) other site.0 site.1))
            (h.nodes i plan site.0 known site.1 (first i)));
        fibres = λ f has. record {
          handed = [];
          waiting = [];
          went = record { before = []; had = h.near f has; has = h.near f has };
          came = h.far f has;
        };
      };
      count = h.count;
      sites_are = λ i site at. (node_at (slice_get sites i) other site at, sym (h.places i site at));
      opened = λ i less. opened_as_first i;
      marks = λ n f at. (
          let has = h.fibres.has n f at in
          record {
            before = [];
            had = h.near (ends_of f.span) has;
            handed = [];
            came = h.far (ends_of f.span) has;
            live = h.live (ends_of f.span) has;
            is = h.marks n f at;
          });
    };
  }

pub runs_as_network : {P K : Type 0} (p : source.Ghosts P) (k : sink.Ghosts K) (olds mids news : List (Site P K)) (was is : List Filling)
    (numbers : List RunNumbers) → KeepsGoing p k olds was mids is
    → ((n : ℕ) (f : Filling) → slice_get is n ≡ Some f → f.whole ≡ true → IsFull p k mids f)
    → AreSettled p k mids news numbers → RunsAsNetwork p k olds was news numbers is
runs_as_network p k olds mids news was is numbers keeps full settled = record {
  fibres = keeps.fibres;
  ran = λ network first net some h.
      ends_well p k network first mids news numbers is net some (keeps.goes network first net (begins p k network first olds was net some h)) settled full;
}

pub ran_if : {P K N E : Type 0} (p : source.Ghosts P) (k : sink.Ghosts K) (olds mids news : List (Site P K)) (was is : List Filling)
    → KeepsGoing p k olds was mids is
    → ((n : ℕ) (f : Filling) → slice_get is n ≡ Some f → f.whole ≡ true → IsFull p k mids f)
    → (answer : Result N E) → (items : N → List RunNumbers) → IfOk answer (λ numbers. AreSettled p k mids news (items numbers))
    → IfOk answer (λ numbers. RunsAsNetwork p k olds was news (items numbers) is)
ran_if p k olds mids news was is keeps full answer items settled =
    if_ok (λ numbers. AreSettled p k mids news (items numbers)) (λ numbers. RunsAsNetwork p k olds was news (items numbers) is) answer
    (λ numbers s. runs_as_network p k olds mids news was is (items numbers) keeps full s) settled
