-- A network that runs goes on: by what all nodes do at once, and by filling its fibres.
use Rattle.std.proofs.Common.{◌≡◌, ◌≢◌, ◌<◌, ◌==◌, ◌⊎◌, inl, inr, ℕ, zero, suc, true, false, List, [], ◌∷◌}
use Rattle.std.proofs.Common.{◌++◌, Option, None, Some, length, set, get_or, drop, refl, sym, ap, ◌∙◌, subst, append-nil, append_assoc, arith}
use Rattle.std.specs.Prelude.{slice_get, if◌then◌else◌}
use Rattle.std.specs.List.{Contains}
use Rattle.std.proofs.Math.Seq.{drop-append_seam}
use Rattle.std.proofs.lemmas.Bool.Decides.{eqb_tells}
use Rattle.std.proofs.lemmas.Grind.{common_steps}
use Rattle.std.proofs.lemmas.List.{get_or-set_same, get_or-set_other, length-set}
use Rattle.std.proofs.lemmas.Option.{same_Some, slice_get_cases, slice_get_within}
use Rattle.port_base.specs.Bytes.{after}
use Rattle.port_base.specs.Views.{Live, InView, OutView, BaysView, no_input, no_output, line_in_at, line_out_at}
use Rattle.port_base.specs.declared.sink.Sink as sink
use Rattle.port_base.specs.declared.source.Source as source
use Rattle.plan_file.specs.declared.plan.Plan.{Plan}
use Rattle.node_moments.specs.NodeView.{NodeView}
use Rattle.node_moments.specs.Stands.{InputBytes, StandsAt, Later}
use Rattle.node_core.specs.Growing.{OutputsGrow}
use Rattle.network_core.specs.Turns.{LeadsLater}
use Rattle.live_laws.specs.HandedIn.{grown, left_with, LineGrew}
use Rattle.network_laws.specs.Networks.{FibreEnds, Network, IsNetwork}
use Rattle.stepped_networks.specs.Stepping.{NodeState, Handing, NetworkStands, NodesWentOn, FibreFilled}
use Rattle.stepped_networks.proofs.Stepping.{rounds_keep_it, hands_keep_it}
use Rattle.network_run.specs.Fibres.{WaitsIn, WaitsFor, TookMore, HandedTo, FilledUp, LeftUnfilled, IsFilled}
use Rattle.network_run.specs.Going.{ends_of, AreFibres, IsMarked, OpensWithMore, AreSites, Going, IsFull}
use Rattle.network_run.specs.Sites.{EachOne, SiteStill, site_view}
use Rattle.network_run.specs.declared.fibres.Filling.{Filling}
use Rattle.network_run.specs.declared.fibres.Span.{Span}
use Rattle.network_run.specs.declared.site.Site.{Site}
use Rattle.network_run.proofs.Each.{set_here, set_apart}

-- ---- what stands at a place of a list

pub some_at : {A : Type 0} (all : List A) (i : ℕ) → i < length all → (one : A) × (slice_get all i ≡ Some one)
some_at all i less = elim (slice_get_cases all i).1 [
  | inl t ↦ (t.0, t.2)
  | inr t ↦ absurd (let past = t.0 in omega arith)
]

-- ---- what waits for a fibre

pub waiting_is : (f : FibreEnds) (states : ℕ → NodeState) (mark total : ℕ) (bytes got : List ℕ) (m : IsMarked f states mark) (hand : Handing f states)
    → (line_out_at (states f.here).now f.out).got ≡ Some got → WaitsIn got mark bytes total
    → (hand.waiting ≡ bytes) × (got ≡ (m.before ++ m.handed) ++ bytes)
waiting_is f states mark total bytes got m hand told waits =
    let same : hand.went.before ≡ m.before = same_Some hand.went.before m.before (sym hand.went.had ∙ m.had) in
    let given : hand.handed ≡ m.handed = same_Some hand.handed m.handed (sym hand.came ∙ m.came) in
    let all : got ≡ (m.before ++ m.handed) ++ hand.waiting =
    same_Some got (hand.went.before ++ (hand.handed ++ hand.waiting)) (sym told ∙ hand.went.has)
    ∙ ap (λ l. l ++ (hand.handed ++ hand.waiting)) same ∙ ap (λ l. m.before ++ (l ++ hand.waiting)) given
    ∙ sym (append_assoc m.before m.handed hand.waiting) in
    let is : bytes ≡ hand.waiting =
    waits.bytes_are ∙ ap (λ n. drop n got) m.is ∙ ap (drop (length (m.before ++ m.handed))) all
    ∙ drop-append_seam (m.before ++ m.handed) hand.waiting in
    (sym is, all ∙ ap (λ l. (m.before ++ m.handed) ++ l) (sym is))

-- ---- one node with another state

put : ℕ → NodeState → (ℕ → NodeState) → ℕ → NodeState
put a state states = λ j. if j == a then state else states j

put_here : (a : ℕ) (state : NodeState) (states : ℕ → NodeState) → put a state states a ≡ state
unfolding put
put_here a state states = elim (eqb_tells a a) as (λ h. put a state states a ≡ state) [
  | inl t ↦ ap (λ b. if b then state else states a) t.0
  | inr t ↦ absurd (t.1 refl)
]

put_apart : (a : ℕ) (state : NodeState) (states : ℕ → NodeState) (j : ℕ) → j ≢ a → put a state states j ≡ states j
unfolding put
put_apart a state states j apart = elim (eqb_tells j a) as (λ h. put a state states j ≡ states j) [
  | inl t ↦ absurd (apart t.1)
  | inr t ↦ ap (λ b. if b then state else states j) t.0
]

-- ---- a line with further bytes

within : (places : List InView) (n : ℕ) → (get_or places n no_input).state ≡ Live → n < length places
within [] n e = absurd (cc)
within (place ∷ places) zero e = grind (arith, common_steps)
within (place ∷ places) (suc n) e = let h = within places n e in grind (arith, common_steps)

with_more : ℕ → List ℕ → BaysView → BaysView
with_more c more bays = record bays { line_in = set bays.line_in c (grown more (line_in_at bays c)) }

more_grew : (c : ℕ) (more : List ℕ) (bays : BaysView) → (line_in_at bays c).state ≡ Live → LineGrew c more bays (with_more c more bays)
unfolding with_more
more_grew c more bays live = record {
  line = get_or-set_same bays.line_in c (grown more (line_in_at bays c)) no_input (within bays.line_in c live);
  others = λ other apart. get_or-set_other bays.line_in c other (grown more (line_in_at bays c)) no_input apart;
  line_out = refl;
  client_in = refl;
  client_out = refl;
}

left_twice : (one two : List ℕ) (left : Option (List ℕ)) → left_with two (left_with one left) ≡ left_with (one ++ two) left
left_twice one two None = refl
left_twice one two (Some left) = ap Some (append_assoc left one two)

left_none : (left : Option (List ℕ)) → left ≡ left_with [] left
left_none None = refl
left_none (Some left) = ap Some (sym (append-nil left))

grown_twice : (one two : List ℕ) (place : InView) → grown two (grown one place) ≡ grown (one ++ two) place
grown_twice one two place = ap (λ l. record place { left = l }) (left_twice one two place.left)

pub grown_none : (place : InView) → place ≡ grown [] place
grown_none place = ap (λ l. record place { left = l }) (left_none place.left)

-- ---- all nodes at once

-- what a site does that goes on
pub record GoesOn {P K : Type 0} (p : source.Ghosts P) (k : sink.Ghosts K) (old new : Site P K) : Type 0 where
  pub stands : LeadsLater old.node (site_view p k old) new.node (site_view p k new)
  pub grows : OutputsGrow (site_view p k old) (site_view p k new)

node_of : {P K : Type 0} → Option (Site P K) → NodeState → NodeView
node_of None state = state.node
node_of (Some site) state = site.node

bays_of : {P K : Type 0} → source.Ghosts P → sink.Ghosts K → Option (Site P K) → NodeState → BaysView
bays_of p k None state = state.now
bays_of p k (Some site) state = site_view p k site

node_is : {P K : Type 0} (at : Option (Site P K)) (state : NodeState) (site : Site P K) → at ≡ Some site → node_of at state ≡ site.node
unfolding node_of
node_is at state site e = ap (λ o. node_of o state) e

bays_are : {P K : Type 0} (p : source.Ghosts P) (k : sink.Ghosts K) (at : Option (Site P K)) (state : NodeState) (site : Site P K) → at ≡ Some site
    → bays_of p k at state ≡ site_view p k site
unfolding bays_of
bays_are p k at state site e = ap (λ o. bays_of p k o state) e

module _ {P K : Type 0} (p : source.Ghosts P) (k : sink.Ghosts K) (network : Network) (first : ℕ → BaysView) where
  marked_on : (f : FibreEnds) (old new : ℕ → NodeState) (mark : ℕ) → (new f.here).opened ≡ (old f.here).opened → (new f.there).opened ≡ (old f.there).opened
      → IsMarked f old mark → IsMarked f new mark
  marked_on f old new mark here there m = record {
    before = m.before;
    had = ap (λ (b : BaysView). (line_out_at b f.out).got) here ∙ m.had;
    handed = m.handed;
    came = ap (λ (b : BaysView). (line_in_at b f.into).left) there ∙ m.came;
    live = ap (λ (b : BaysView). (line_in_at b f.into).state) there ∙ m.live;
    is = m.is;
  }

  pub all_go_on : (olds news : List (Site P K)) (fillings : List Filling) → IsNetwork network → AreFibres network fillings
      → EachOne (GoesOn p k) olds news → Going p k network first olds fillings → Going p k network first news fillings
  all_go_on olds news fillings net fibres each h =
      let nodes : ℕ → NodeView = λ i. node_of (slice_get news i) (h.states i) in
      let bays : ℕ → BaysView = λ i. bays_of p k (slice_get news i) (h.states i) in
      let went : NodesWentOn network h.states nodes bays = record {
        later = λ i plan opened read less stands. (
            let old = some_at olds i (let count = h.count in omega arith) in
            let new = some_at news i (let count = h.count in let same = each.count in omega arith) in
            let goes = each.each i old.0 new.0 old.1 new.1 in
            let is = h.sites_are i old.0 old.1 in
            let started : StandsAt plan opened read old.0.node (site_view p k old.0) =
            subst (λ n. StandsAt plan opened read n (site_view p k old.0)) is.0 (subst (λ b. StandsAt plan opened read (h.states i).node b) is.1 stands) in
            let later = goes.stands plan opened read started in
            subst (λ n. Later plan opened read n (nodes i) (bays i)) (sym is.0)
            (subst (λ n. Later plan opened read old.0.node n (bays i)) (sym (node_is (slice_get news i) (h.states i) new.0 new.1))
            (subst (λ b. Later plan opened read old.0.node new.0.node b) (sym (bays_are p k (slice_get news i) (h.states i) new.0 new.1)) later)));
        grows = λ i b less. (
            let old = some_at olds i (let count = h.count in omega arith) in
            let new = some_at news i (let count = h.count in let same = each.count in omega arith) in
            let goes = each.each i old.0 new.0 old.1 new.1 in
            let is = h.sites_are i old.0 old.1 in
            subst (λ (now : BaysView). (bytes : List ℕ) × ((line_out_at (bays i) b).got ≡ after (line_out_at now b).got bytes)) (sym is.1)
            (subst (λ (now : BaysView). (bytes : List ℕ) × ((line_out_at now b).got ≡ after (line_out_at (site_view p k old.0) b).got bytes))
            (sym (bays_are p k (slice_get news i) (h.states i) new.0 new.1)) (goes.grows b)));
      } in
      let r = rounds_keep_it network h.states nodes bays net h.stands went in
      let in_plans : (i : ℕ) (site : Site P K) → slice_get news i ≡ Some site → i < length network.plans =
      λ i site at. (let within = slice_get_within news i site at in let count = h.count in let same = each.count in omega arith) in
      record {
        states = r.0;
        stands = r.1;
        count = each.count ∙ h.count;
        sites_are = λ i site at. (
            let less = in_plans i site at in
            let is = r.2 i less in
            (is.0 ∙ node_is (slice_get news i) (h.states i) site at, is.1 ∙ bays_are p k (slice_get news i) (h.states i) site at));
        opened = λ i less. subst (OpensWithMore network i (first i)) (sym (r.2 i less).2) (h.opened i less);
        marks = λ n f at. (
            let ends = net.ends (ends_of f.span) (fibres.has n f at) in
            marked_on (ends_of f.span) h.states r.0 f.mark (r.2 f.span.here ends.0).2 (r.2 f.span.there ends.1).2 (h.marks n f at));
      }

  -- ---- a fibre that is filled

  -- the far end of another fibre, of which no line is this one, is as it was
  marked_apart : (g : FibreEnds) (old new : ℕ → NodeState) (mark : ℕ)
      → line_out_at (new g.here).opened g.out ≡ line_out_at (old g.here).opened g.out
      → line_in_at (new g.there).opened g.into ≡ line_in_at (old g.there).opened g.into
      → IsMarked g old mark → IsMarked g new mark
  marked_apart g old new mark here there m = record {
    before = m.before;
    had = ap (λ (v : OutView). v.got) here ∙ m.had;
    handed = m.handed;
    came = ap (λ (v : InView). v.left) there ∙ m.came;
    live = ap (λ (v : InView). v.state) there ∙ m.live;
    is = m.is;
  }

  pub fibres_same : (fillings : List Filling) (n : ℕ) (was is : Filling) → slice_get fillings n ≡ Some was → is.span ≡ was.span
      → AreFibres network fillings → AreFibres network (set fillings n is)
  fibres_same fillings n was is at same h = record {
    has = λ m f here. (let o = old m f here in subst (λ s. Contains network.fibres (ends_of s)) (sym o.2) (h.has m o.0 o.1));
    once = λ m l f g here there one two. (
        let o = old m f here in
        let q = old l g there in
        h.once m l o.0 q.0 o.1 q.1 (sym (ap (λ (s : Span). s.there) o.2) ∙ one ∙ ap (λ (s : Span). s.there) q.2)
        (sym (ap (λ (s : Span). s.into) o.2) ∙ two ∙ ap (λ (s : Span). s.into) q.2));
  }
    where
      old : (m : ℕ) (f : Filling) → slice_get (set fillings n is) m ≡ Some f → (o : Filling) × (slice_get fillings m ≡ Some o) × (f.span ≡ o.span)
      old m f here = elim (eqb_tells m n) as (λ h. (o : Filling) × (slice_get fillings m ≡ Some o) × (f.span ≡ o.span)) [
        | inl t ↦
            let less = slice_get_within fillings n was at in
            let e : is ≡ f = same_Some is f (sym (set_here fillings n is less) ∙ ap (slice_get (set fillings n is)) (sym t.1) ∙ here) in
            (was, ap (slice_get fillings) t.1 ∙ at, ap (λ (x : Filling). x.span) (sym e) ∙ same)
        | inr t ↦ (f, sym (set_apart fillings n m is t.1) ∙ here, refl)
      ]

  pub all_still : (olds news : List (Site P K)) (fillings : List Filling) → EachOne (SiteStill p k) olds news → Going p k network first olds fillings
      → Going p k network first news fillings
  all_still olds news fillings each h = record {
    states = h.states;
    stands = h.stands;
    count = each.count ∙ h.count;
    sites_are = λ i site at. (
        let old = some_at olds i (let within = slice_get_within news i site at in let same = each.count in omega arith) in
        let still = each.each i old.0 site old.1 at in
        let is = h.sites_are i old.0 old.1 in
        (is.0 ∙ sym still.node, is.1 ∙ sym still.places));
    opened = h.opened;
    marks = h.marks;
  }

  -- nothing was handed over
  pub unfilled : (olds news : List (Site P K)) (fillings : List Filling) (n : ℕ) (was is : Filling) → slice_get fillings n ≡ Some was
      → LeftUnfilled p k was is olds news → Going p k network first olds fillings → Going p k network first news (set fillings n is)
  unfilled olds news fillings n was is at left h =
      let g = all_still olds news fillings left.still h in
      record {
        states = g.states;
        stands = g.stands;
        count = g.count;
        sites_are = g.sites_are;
        opened = g.opened;
        marks = λ m f here. elim (eqb_tells m n) as (λ t. IsMarked (ends_of f.span) g.states f.mark) [
          | inl t ↦
              let less = slice_get_within fillings n was at in
              let e : is ≡ f = same_Some is f (sym (set_here fillings n is less) ∙ ap (slice_get (set fillings n is)) (sym t.1) ∙ here) in
              subst (λ (x : Filling). IsMarked (ends_of x.span) g.states x.mark) e
              (subst (λ s. IsMarked (ends_of s) g.states is.mark) (sym left.span)
              (subst (IsMarked (ends_of was.span) g.states) (sym left.mark) (g.marks n was at)))
          | inr t ↦ g.marks m f (sym (set_apart fillings n m is t.1) ∙ here)
        ];
      }

  -- all that waited was handed over
  module _ (olds news : List (Site P K)) (fillings : List Filling) (n : ℕ) (was is : Filling) (net : IsNetwork network)
      (fibres : AreFibres network fillings) (at : slice_get fillings n ≡ Some was) (up : FilledUp p k was is olds news)
      (h : Going p k network first olds fillings) where
    abbrev f : FibreEnds
    f = ends_of was.span

    abbrev has : Contains network.fibres f
    has = fibres.has n was at

    abbrev mark : IsMarked f h.states was.mark
    mark = h.marks n was at

    abbrev hand : Handing f h.states
    hand = h.stands.fibres f has

    abbrev bytes : List ℕ
    bytes = up.bytes

    abbrev got : List ℕ
    got = up.waits.waits.got

    waits : (hand.waiting ≡ bytes) × (got ≡ (mark.before ++ mark.handed) ++ bytes)
    waits = waiting_is f h.states was.mark is.mark bytes got mark hand
        (ap (λ (v : BaysView). (line_out_at v was.span.out).got) (h.sites_are was.span.here up.waits.site up.waits.at).1 ∙ up.waits.waits.told)
        up.waits.waits.waits

    there_was : ((h.states was.span.there).node ≡ up.handed.old.node) × ((h.states was.span.there).now ≡ site_view p k up.handed.old)
    there_was = h.sites_are was.span.there up.handed.old up.handed.at

    abbrev state : NodeState
    state = record {
      opened = with_more was.span.into bytes (h.states was.span.there).opened;
      read = (h.states was.span.there).read;
      node = (h.states was.span.there).node;
      now = site_view p k up.handed.new;
    }

    abbrev states : ℕ → NodeState
    states = put was.span.there state h.states

    here_is : states was.span.there ≡ state
    here_is = put_here was.span.there state h.states

    opened_grew : LineGrew was.span.into bytes (h.states was.span.there).opened (states was.span.there).opened
    opened_grew = subst (λ (s : NodeState). LineGrew was.span.into bytes (h.states was.span.there).opened s.opened) (sym here_is)
        (more_grew was.span.into bytes (h.states was.span.there).opened mark.live)

    filled : FibreFilled f bytes h.states states
    filled = record {
      others = λ j apart. put_apart was.span.there state h.states j apart;
      read = ap (λ (s : NodeState). s.read) here_is;
      node = ap (λ (s : NodeState). s.node) here_is;
      opened = opened_grew;
      now = subst (λ (v : BaysView). LineGrew was.span.into bytes v (states was.span.there).now) (sym there_was.1)
          (subst (λ (s : NodeState). LineGrew was.span.into bytes (site_view p k up.handed.old) s.now) (sym here_is) up.handed.took.grew);
      open_yet = ap (λ (v : BaysView). (line_in_at v was.span.into).ended) there_was.1 ∙ up.handed.took.going;
    }

    stands : NetworkStands network states
    stands = hands_keep_it network f bytes [] h.states states net has h.stands (waits.0 ∙ sym (append-nil bytes)) filled

    sites : AreSites p k news states
    sites i site here = elim (eqb_tells i was.span.there) as (λ t. ((states i).node ≡ site.node) × ((states i).now ≡ site_view p k site)) [
      | inl t ↦
          let less = slice_get_within olds was.span.there up.handed.old up.handed.at in
          let e : up.handed.new ≡ site = same_Some up.handed.new site
          (sym (set_here olds was.span.there up.handed.new less) ∙ ap (λ l. slice_get l was.span.there) (sym up.handed.is)
          ∙ ap (slice_get news) (sym t.1) ∙ here) in
          let s : states i ≡ state = ap states t.1 ∙ here_is in (
            ap (λ (x : NodeState). x.node) s ∙ there_was.0 ∙ sym up.handed.took.node ∙ ap (λ (x : Site P K). x.node) e,
            ap (λ (x : NodeState). x.now) s ∙ ap (site_view p k) e,
          )
      | inr t ↦
          let s : states i ≡ h.states i = put_apart was.span.there state h.states i t.1 in
          let o = h.sites_are i site
          (sym (set_apart olds was.span.there i up.handed.new t.1) ∙ ap (λ l. slice_get l i) (sym up.handed.is) ∙ here) in
          (ap (λ (x : NodeState). x.node) s ∙ o.0, ap (λ (x : NodeState). x.now) s ∙ o.1)
    ]

    opens_there : OpensWithMore network was.span.there (first was.span.there) (h.states was.span.there).opened
        → OpensWithMore network was.span.there (first was.span.there) (states was.span.there).opened
    opens_there o = record {
      line_in = λ c. elim (eqb_tells c was.span.into) as (λ t. (more : List ℕ)
          × (line_in_at (states was.span.there).opened c ≡ grown more (line_in_at (first was.span.there) c))) [
            | inl t ↦ subst (λ d. (more : List ℕ) × (line_in_at (states was.span.there).opened d
                ≡ grown more (line_in_at (first was.span.there) d))) (sym t.1) (
                  (o.line_in was.span.into).0 ++ bytes,
                  opened_grew.line ∙ ap (grown bytes) (o.line_in was.span.into).1
                      ∙ grown_twice (o.line_in was.span.into).0 bytes (line_in_at (first was.span.there) was.span.into),
                )
            | inr t ↦ ((o.line_in c).0, opened_grew.others c t.1 ∙ (o.line_in c).1)
          ];
      edges = λ c none. opened_grew.others c (λ e. none f has refl (sym e)) ∙ o.edges c none;
      line_out = opened_grew.line_out ∙ o.line_out;
      client_in = opened_grew.client_in ∙ o.client_in;
      client_out = opened_grew.client_out ∙ o.client_out;
    }

    opens : (i : ℕ) → i < length network.plans → OpensWithMore network i (first i) (states i).opened
    opens i less = elim (eqb_tells i was.span.there) as (λ t. OpensWithMore network i (first i) (states i).opened) [
      | inl t ↦ subst (λ j. OpensWithMore network j (first j) (states j).opened) (sym t.1)
          (opens_there (subst (λ j. OpensWithMore network j (first j) (h.states j).opened) t.1 (h.opened i less)))
      | inr t ↦ subst (λ (s : NodeState). OpensWithMore network i (first i) s.opened) (sym (put_apart was.span.there state h.states i t.1)) (h.opened i less)
    ]

    out_same : (j b : ℕ) → line_out_at (states j).opened b ≡ line_out_at (h.states j).opened b
    out_same j b = elim (eqb_tells j was.span.there) as (λ t. line_out_at (states j).opened b ≡ line_out_at (h.states j).opened b) [
      | inl t ↦ subst (λ i. line_out_at (states i).opened b ≡ line_out_at (h.states i).opened b) (sym t.1)
          (ap (λ (views : List OutView). get_or views b no_output) opened_grew.line_out)
      | inr t ↦ ap (λ (s : NodeState). line_out_at s.opened b) (put_apart was.span.there state h.states j t.1)
    ]

    marked_here : IsMarked f states is.mark
    marked_here = record {
      before = mark.before;
      had = ap (λ (v : OutView). v.got) (out_same was.span.here was.span.out) ∙ mark.had;
      handed = mark.handed ++ bytes;
      came = ap (λ (v : InView). v.left) opened_grew.line ∙ ap (left_with bytes) mark.came;
      live = ap (λ (v : InView). v.state) opened_grew.line ∙ mark.live;
      is = up.waits.waits.waits.count ∙ ap length (waits.1 ∙ append_assoc mark.before mark.handed bytes);
    }

    marked_there : (m : ℕ) (g : Filling) → m ≢ n → slice_get fillings m ≡ Some g → IsMarked (ends_of g.span) states g.mark
    marked_there m g apart here = marked_apart (ends_of g.span) h.states states g.mark (out_same g.span.here g.span.out) in_same (h.marks m g here)
      where
        in_same : line_in_at (states g.span.there).opened g.span.into ≡ line_in_at (h.states g.span.there).opened g.span.into
        in_same = elim (eqb_tells g.span.there was.span.there)
            as (λ t. line_in_at (states g.span.there).opened g.span.into ≡ line_in_at (h.states g.span.there).opened g.span.into) [
              | inl t ↦ subst (λ i. line_in_at (states i).opened g.span.into ≡ line_in_at (h.states i).opened g.span.into) (sym t.1)
                  (opened_grew.others g.span.into (λ e. apart (fibres.once m n g was here at t.1 e)))
              | inr t ↦ ap (λ (s : NodeState). line_in_at s.opened g.span.into) (put_apart was.span.there state h.states g.span.there t.1)
            ]

    pub filled_up : Going p k network first news (set fillings n is)
    filled_up = record {
      states = states;
      stands = stands;
      count = ap length up.handed.is ∙ length-set olds was.span.there up.handed.new ∙ h.count;
      sites_are = sites;
      opened = opens;
      marks = λ m g here. elim (eqb_tells m n) as (λ t. IsMarked (ends_of g.span) states g.mark) [
        | inl t ↦
            let less = slice_get_within fillings n was at in
            let e : is ≡ g = same_Some is g (sym (set_here fillings n is less) ∙ ap (slice_get (set fillings n is)) (sym t.1) ∙ here) in
            subst (λ (x : Filling). IsMarked (ends_of x.span) states x.mark) e
            (subst (λ s. IsMarked (ends_of s) states is.mark) (sym up.span) marked_here)
        | inr t ↦ marked_there m g t.1 (sym (set_apart fillings n m is t.1) ∙ here)
      ];
    }

  pub fibre_filled : (olds news : List (Site P K)) (fillings : List Filling) (n : ℕ) (was is : Filling) → IsNetwork network → AreFibres network fillings
      → slice_get fillings n ≡ Some was → IsFilled p k was is olds news → Going p k network first olds fillings
      → Going p k network first news (set fillings n is)
  fibre_filled olds news fillings n was is net fibres at (inl up) h = filled_up olds news fillings n was is net fibres at up h
  fibre_filled olds news fillings n was is net fibres at (inr left) h = unfilled olds news fillings n was is at left h
