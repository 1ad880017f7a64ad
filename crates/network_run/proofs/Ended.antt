-- A network whose nodes are settled has run.
use Rattle.std.proofs.Common.{◌≡◌, ◌≤◌, ◌<◌, ℕ, true, List, [], ◌++◌, Option, None, Some, length, get_or, drop, refl, sym, ap, ◌∙◌, subst, append-nil, arith}
use Rattle.std.specs.Prelude.{slice_get}
use Rattle.std.specs.List.{Contains}
use Rattle.std.proofs.Math.Seq.{drop-length}
use Rattle.std.proofs.lemmas.Option.{same_Some, slice_get_within}
use Rattle.port_base.specs.Given.{Grew}
use Rattle.port_base.specs.Views.{InView, OutView, BaysView, no_output, line_in_at, line_out_at}
use Rattle.port_base.specs.declared.sink.Sink as sink
use Rattle.port_base.specs.declared.source.Source as source
use Rattle.plan_file.specs.declared.plan.Plan.{Plan}
use Rattle.device_model.specs.RunLeft.{Takings, RunLeft}
use Rattle.device_model.specs.RunNumbers.{numbers_of_run}
use Rattle.device_model.specs.declared.numbers.RunNumbers.{RunNumbers}
use Rattle.node_moments.specs.Stands.{StandsAt}
use Rattle.run_laws.specs.SeenRuns.{Run}
use Rattle.network_laws.specs.Networks.{FibreEnds, Network, IsNetwork, NetworkRun}
use Rattle.stepped_networks.specs.Stepping.{NodeState, NodeEnded, FibresBrought}
use Rattle.stepped_networks.proofs.Stepping.{ends_as_a_run}
use Rattle.network_run.specs.Ending.{AreSettled, EndsWell, IsPartFibre, IsWholeFibre, RanAsNetwork}
use Rattle.network_run.specs.Going.{ends_of, GoesOnThen, OpensWithMore, IsFull}
use Rattle.network_run.specs.Sites.{site_view}
use Rattle.network_run.specs.declared.fibres.Filling.{Filling}
use Rattle.network_run.specs.declared.site.Site.{Site}
use Rattle.network_run.proofs.Going.{some_at, waiting_is}

-- the run of a node: of its plan, from its places as they were first to what they are; where there is none, another
run_at : {P K : Type 0} → source.Ghosts P → sink.Ghosts K → Option Plan → Option (Site P K) → NodeState → Run → Run
run_at p k None site state other = other
run_at p k (Some plan) None state other = other
run_at p k (Some plan) (Some site) state other = record { plan = plan; before = state.opened; after = site_view p k site }

abbrev run_of : {P K : Type 0} → source.Ghosts P → sink.Ghosts K → Plan → Site P K → NodeState → Run
run_of p k plan site state = record { plan = plan; before = state.opened; after = site_view p k site }

run_is : {P K : Type 0} (p : source.Ghosts P) (k : sink.Ghosts K) (plans : Option Plan) (sites : Option (Site P K)) (state : NodeState) (other : Run)
    (plan : Plan) (site : Site P K) → plans ≡ Some plan → sites ≡ Some site
    → run_at p k plans sites state other ≡ run_of p k plan site state
unfolding run_at
run_is p k plans sites state other plan site one two =
    ap (λ o. run_at p k o sites state other) one ∙ ap (λ o. run_at p k (Some plan) o state other) two

module _ {P K : Type 0} (p : source.Ghosts P) (k : sink.Ghosts K) (network : Network) (first : ℕ → BaysView) (olds news : List (Site P K))
    (numbers : List RunNumbers) (fillings : List Filling) (net : IsNetwork network) (some : 1 ≤ length network.plans)
    (went : GoesOnThen p k network first olds fillings) (settled : AreSettled p k olds news numbers)
    (full : (n : ℕ) (f : Filling) → slice_get fillings n ≡ Some f → f.whole ≡ true → IsFull p k olds f) where
  abbrev states : ℕ → NodeState
  states = went.going.states

  other : Run
  other = record { plan = (some_at network.plans 0 (omega arith)).0; before = (states 0).opened; after = (states 0).now }

  abbrev run : ℕ → Run
  run i = run_at p k (slice_get network.plans i) (slice_get news i) (states i) other

  plan_at : (i : ℕ) → i < length network.plans → (plan : Plan) × (slice_get network.plans i ≡ Some plan)
  plan_at i less = some_at network.plans i less

  old_at : (i : ℕ) → i < length network.plans → (site : Site P K) × (slice_get olds i ≡ Some site)
  old_at i less = some_at olds i (let count = went.going.count in omega arith)

  new_at : (i : ℕ) → i < length network.plans → (site : Site P K) × (slice_get news i ≡ Some site)
  new_at i less = some_at news i (let count = went.going.count in let same = settled.count in omega arith)

  run_here : (i : ℕ) (plan : Plan) (site : Site P K) → slice_get network.plans i ≡ Some plan → slice_get news i ≡ Some site
      → run i ≡ run_of p k plan site (states i)
  run_here i plan site one two = run_is p k (slice_get network.plans i) (slice_get news i) (states i) other plan site one two

  -- what became of a node
  record Ended (i : ℕ) (r : Run) : Type 0 where
    n : RunNumbers
    at : slice_get numbers i ≡ Some n
    before : r.before ≡ (states i).opened
    line_out : r.after.line_out ≡ (states i).now.line_out
    takings : Takings
    left : RunLeft r.plan r.before r.after takings (numbers_of_run n)

  ended_of : (i : ℕ) (plan : Plan) → slice_get network.plans i ≡ Some plan → (site : Site P K) → slice_get news i ≡ Some site
      → Ended i (run_of p k plan site (states i))
  ended_of i plan known site here =
      let less = slice_get_within network.plans i plan known in
      let old = old_at i less in
      let n = some_at numbers i (let count = went.going.count in let same = settled.told in omega arith) in
      let s = settled.each i old.0 site n.0 old.1 here n.1 in
      let is = went.going.sites_are i old.0 old.1 in
      let at_node = subst (λ m. StandsAt plan (states i).opened (states i).read m (states i).now) is.0 (went.going.stands.nodes i plan known) in
      let at_places = subst (StandsAt plan (states i).opened (states i).read old.0.node) is.1 at_node in
      let l = s.left plan (states i).opened (states i).read at_places in
      record {
        n = n.0;
        at = n.1;
        before = refl;
        line_out = s.line_out ∙ ap (λ (v : BaysView). v.line_out) (sym is.1);
        takings = l.0;
        left = l.1;
      }

  ended_at : (i : ℕ) (plan : Plan) → slice_get network.plans i ≡ Some plan → Ended i (run i)
  ended_at i plan known =
      let new = new_at i (slice_get_within network.plans i plan known) in
      subst (Ended i) (sym (run_here i plan new.0 known new.1)) (ended_of i plan known new.0 new.1)

  plan_is : (i : ℕ) (plan : Plan) → slice_get network.plans i ≡ Some plan → (run i).plan ≡ plan
  plan_is i plan known =
      let new = new_at i (slice_get_within network.plans i plan known) in
      ap (λ (r : Run). r.plan) (run_here i plan new.0 known new.1)

  node_ended : (i : ℕ) (plan : Plan) → slice_get network.plans i ≡ Some plan → NodeEnded network states i (run i)
  node_ended i plan known =
      let e = ended_at i plan known in
      record {
        plan = known ∙ ap Some (sym (plan_is i plan known));
        before = e.before;
        line_out = e.line_out;
        takings = e.takings;
        numbers = numbers_of_run e.n;
        left = e.left;
      }

  part_fibre : (f : FibreEnds) → Contains network.fibres f → IsPartFibre f run
  part_fibre f has =
      let ends = net.ends f has in
      let hand = went.going.stands.fibres f has in
      let here = plan_at f.here ends.0 in
      let there = plan_at f.there ends.1 in
      let one = ended_at f.here here.0 here.1 in
      let two = ended_at f.there there.0 there.1 in
      record {
        brought = hand.handed;
        cut = hand.waiting;
        went = record {
          before = hand.went.before;
          had = ap (λ (v : BaysView). (line_out_at v f.out).got) one.before ∙ hand.went.had;
          has = ap (λ (views : List OutView). (get_or views f.out no_output).got) one.line_out ∙ hand.went.has;
        };
        came = ap (λ (v : BaysView). (line_in_at v f.into).left) two.before ∙ hand.came;
      }

  whole_fibre : (n : ℕ) (f : Filling) → slice_get fillings n ≡ Some f → f.whole ≡ true → IsWholeFibre (ends_of f.span) run
  whole_fibre n f at is_whole =
      let all = full n f at is_whole in
      let m = went.going.marks n f at in
      let has = went.fibres.has n f at in
      let ends = net.ends (ends_of f.span) has in
      let hand = went.going.stands.fibres (ends_of f.span) has in
      let here = plan_at f.span.here ends.0 in
      let there = plan_at f.span.there ends.1 in
      let one = ended_at f.span.here here.0 here.1 in
      let two = ended_at f.span.there there.0 there.1 in
      let seen : (line_out_at (states f.span.here).now f.span.out).got ≡ Some all.got =
      ap (λ (v : BaysView). (line_out_at v f.span.out).got) (went.going.sites_are f.span.here all.site all.at).1 ∙ all.told in
      let w = waiting_is (ends_of f.span) states f.mark (length all.got) (drop f.mark all.got) all.got m hand seen record { bytes_are = refl; count = refl } in
      let none : drop f.mark all.got ≡ [] = ap (λ c. drop c all.got) all.all ∙ drop-length all.got in
      let got : all.got ≡ m.before ++ m.handed = w.1 ∙ ap (λ l. (m.before ++ m.handed) ++ l) none ∙ append-nil (m.before ++ m.handed) in
      record {
        bytes = m.handed;
        went = record {
          before = m.before;
          had = ap (λ (v : BaysView). (line_out_at v f.span.out).got) one.before ∙ m.had;
          has = ap (λ (views : List OutView). (get_or views f.span.out no_output).got) one.line_out ∙ seen ∙ ap Some got;
        };
        came = ap (λ (v : BaysView). (line_in_at v f.span.into).left) two.before ∙ m.came;
      }

  pub has_run : RanAsNetwork p k network first news numbers fillings
  has_run =
      let r = ends_as_a_run network states run net went.going.stands node_ended in
      let is : (i : ℕ) → (r.0.run i) ≡ run i = λ i. ap (λ (g : ℕ → Run). g i) r.1 in
      record {
        it = r.0;
        nodes = settled.count ∙ went.going.count;
        told = settled.told ∙ went.going.count;
        before = λ i less. (
            let plan = plan_at i less in
            let e = ended_at i plan.0 plan.1 in
            subst (OpensWithMore network i (first i)) (sym (ap (λ (q : Run). q.before) (is i) ∙ e.before)) (went.going.opened i less));
        after = λ i new here. (
            let within = slice_get_within news i new here in
            let less : i < length network.plans = (let count = went.going.count in let same = settled.count in omega arith) in
            let plan = plan_at i less in
            ap (λ (q : Run). q.after) (is i) ∙ ap (λ (q : Run). q.after) (run_here i plan.0 new plan.1 here) ∙ after_of plan.0 new (states i));
        left = λ i n here. (
            let within = slice_get_within numbers i n here in
            let less : i < length network.plans = (let count = went.going.count in let same = settled.told in omega arith) in
            let plan = plan_at i less in
            let e = ended_at i plan.0 plan.1 in
            let same : e.n ≡ n = same_Some e.n n (sym e.at ∙ here) in (
              e.takings,
              subst (λ (q : Run). RunLeft q.plan q.before q.after e.takings (numbers_of_run n)) (sym (is i))
                  (subst (λ m. RunLeft (run i).plan (run i).before (run i).after e.takings (numbers_of_run m)) same e.left),
            ));
        parts = λ f has. subst (IsPartFibre f) (sym r.1) (part_fibre f has);
        brought = subst (FibresBrought network) (sym r.1) r.2;
        whole = λ n f at is_whole. subst (IsWholeFibre (ends_of f.span)) (sym r.1) (whole_fibre n f at is_whole);
      }
    where
      after_of : (plan : Plan) (site : Site P K) (state : NodeState) → (run_of p k plan site state).after ≡ site_view p k site
      after_of plan site state = refl

pub ends_well : {P K : Type 0} (p : source.Ghosts P) (k : sink.Ghosts K) → EndsWell p k
ends_well p k network first olds news numbers fillings net some went settled full =
    has_run p k network first olds news numbers fillings net some went settled full
