-- A network that is stepped stands at each moment, and has run in the end.
use Rattle.std.proofs.Common.{◌≡◌, ◌≢◌, ◌<◌, inl, inr, ℕ, Bool, true, List, [], ◌++◌, Option, None, Some, length, get_or, refl, sym, ap, ◌∙◌, subst, append-nil, append_assoc, arith}
use Rattle.std.specs.Prelude.{slice_get, option_map}
use Rattle.std.specs.List.{Contains}
use Rattle.std.proofs.lemmas.Bool.Decides.{eqb_tells}
use Rattle.std.proofs.lemmas.Option.{slice_get_cases, slice_get_read, slice_get_within}
use Rattle.otn_base.specs.LineSlots.{LineSlots}
use Rattle.otn_base.specs.declared.kind.PortName.TheVariants as port
use Rattle.port_base.specs.Bytes.{after}
use Rattle.port_base.specs.Given.{Grew, written_between, given_between}
use Rattle.port_base.specs.Places.{output_of, input_of}
use Rattle.port_base.specs.Views.{State, Empty, Live, Dead, InView, OutView, BaysView, no_output, line_in_at, line_out_at}
use Rattle.plan_file.specs.declared.connection.Connection.{Connection}
use Rattle.plan_file.specs.declared.connection.FromEnd.TheVariants as from_end
use Rattle.plan_file.specs.declared.connection.ToEnd.TheVariants as to_end
use Rattle.plan_file.specs.declared.plan.Plan.{Plan}
use Rattle.device_model.specs.Entries.{form_in, form_out}
use Rattle.device_model.specs.Moments.{uses}
use Rattle.device_model.proofs.ConnectionPorts.{from_line_used, to_line_used}
use Rattle.node_moments.specs.NodeView.{NodeView}
use Rattle.node_moments.specs.Stands.{StandsAt}
use Rattle.live_laws.specs.HandedIn.{LineGrew, left_with}
use Rattle.live_laws.proofs.Grown.{lines_grow}
use Rattle.run_laws.specs.SeenRuns.{Run}
use Rattle.network_laws.specs.Networks.{FibreEnds, Network, IsNetwork}
use Rattle.network_laws.specs.Routes.{fibre_of}
use Rattle.network_laws.specs.Ways.{Fibre}
use Rattle.stepped_networks.specs.Stepping.{NodeState, Handing, NetworkStands, NodeMoved, NodesWentOn, FibreFilled, HasLivedEnds, StepsKeepIt, RoundsKeepIt, HandsKeepIt, EndsAsARun}

-- ---- a step of a node

moved_opened : (network : Network) (i : ℕ) (old new : ℕ → NodeState) → NodeMoved network i old new → (j : ℕ) → (new j).opened ≡ (old j).opened
moved_opened network i old new moved j = elim (eqb_tells j i) as (λ h. (new j).opened ≡ (old j).opened) [
  | inl t ↦ subst (λ k. (new k).opened ≡ (old k).opened) (sym t.1) moved.opened
  | inr t ↦ ap (λ (s : NodeState). s.opened) (moved.others j t.1)
]

none_after : (got : Option (List ℕ)) → got ≡ after got []
none_after None = refl
none_after (Some xs) = ap Some (sym (append-nil xs))

moved_grows : (network : Network) (i : ℕ) (old new : ℕ → NodeState) → NodeMoved network i old new → (j b : ℕ) → (bytes : List ℕ)
    × ((line_out_at (new j).now b).got ≡ after (line_out_at (old j).now b).got bytes)
moved_grows network i old new moved j b = elim
    (eqb_tells j i) as (λ h. (bytes : List ℕ) × ((line_out_at (new j).now b).got ≡ after (line_out_at (old j).now b).got bytes)) [
      | inl t ↦ subst (λ k. (bytes : List ℕ) × ((line_out_at (new k).now b).got ≡ after (line_out_at (old k).now b).got bytes)) (sym t.1) (moved.grows b)
      | inr t ↦ ([], ap (λ (s : NodeState). (line_out_at s.now b).got) (moved.others j t.1) ∙ none_after (line_out_at (old j).now b).got)
    ]

longer : (before handed waiting more : List ℕ) → (before ++ (handed ++ waiting)) ++ more ≡ before ++ (handed ++ (waiting ++ more))
longer before handed waiting more = append_assoc before (handed ++ waiting) more ∙ ap (λ l. before ++ l) (append_assoc handed waiting more)

grew_on : (first was is : Option (List ℕ)) (handed waiting more : List ℕ) → Grew first was (handed ++ waiting) → is ≡ after was more
    → Grew first is (handed ++ (waiting ++ more))
grew_on first was is handed waiting more grew e = record {
  before = grew.before;
  had = grew.had;
  has = e ∙ ap (λ g. after g more) grew.has ∙ ap Some (longer grew.before handed waiting more);
}

pub steps_keep_it : StepsKeepIt
steps_keep_it network i old new stands moved = record {
  nodes = λ j plan known. node_at j plan known;
  fibres = λ f has.
      let h = stands.fibres f has in
      let here = moved_opened network i old new moved f.here in
      let there = moved_opened network i old new moved f.there in
      let grows = moved_grows network i old new moved f.here f.out in
      record {
        handed = h.handed;
        waiting = h.waiting ++ grows.0;
        went = subst (λ (bays : BaysView). Grew (line_out_at bays f.out).got (line_out_at (new f.here).now f.out).got (h.handed ++ (h.waiting ++ grows.0)))
            (sym here)
            (grew_on (line_out_at (old f.here).opened f.out).got (line_out_at (old f.here).now f.out).got
            (line_out_at (new f.here).now f.out).got h.handed h.waiting grows.0 h.went grows.1);
        came = ap (λ (bays : BaysView). (line_in_at bays f.into).left) there ∙ h.came;
      };
}
  where
    node_at : (j : ℕ) (plan : Plan) → slice_get network.plans j ≡ Some plan → StandsAt plan (new j).opened (new j).read (new j).node (new j).now
    node_at j plan known = elim (eqb_tells j i) as (λ h. StandsAt plan (new j).opened (new j).read (new j).node (new j).now) [
      | inl t ↦ subst (λ k. slice_get network.plans k ≡ Some plan → StandsAt plan (new k).opened (new k).read (new k).node (new k).now) (sym t.1)
          (moved.stands plan) known
      | inr t ↦ subst (λ (s : NodeState). StandsAt plan s.opened s.read s.node s.now) (sym (moved.others j t.1)) (stands.nodes j plan known)
    ]

-- a node of the network
some_at : (plans : List Plan) (i : ℕ) → i < length plans → (plan : Plan) × (slice_get plans i ≡ Some plan)
some_at plans i less = elim (slice_get_cases plans i).1 [
  | inl t ↦ (t.0, t.2)
  | inr t ↦ absurd (let past = t.0 in omega arith)
]

-- ---- all nodes at once

-- a node afterwards: it went on where it is one of the network's
state_after : (network : Network) (old : ℕ → NodeState) (nodes : ℕ → NodeView) (bays : ℕ → BaysView) → NetworkStands network old
    → NodesWentOn network old nodes bays → (i : ℕ) (at : Option Plan) → slice_get network.plans i ≡ at → NodeState
state_after network old nodes bays stands went i None known = old i
state_after network old nodes bays stands went i (Some plan) known =
    let later = went.later i plan (old i).opened (old i).read (slice_get_within network.plans i plan known) (stands.nodes i plan known) in
    record { opened = (old i).opened; read = later.more; node = nodes i; now = bays i }

opened_after : (network : Network) (old : ℕ → NodeState) (nodes : ℕ → NodeView) (bays : ℕ → BaysView) (stands : NetworkStands network old)
    (went : NodesWentOn network old nodes bays) (i : ℕ) (at : Option Plan) (known : slice_get network.plans i ≡ at)
    → (state_after network old nodes bays stands went i at known).opened ≡ (old i).opened
unfolding state_after
opened_after network old nodes bays stands went i None known = refl
opened_after network old nodes bays stands went i (Some plan) known = refl

-- it is at the later moment
record After (network : Network) (old : ℕ → NodeState) (nodes : ℕ → NodeView) (bays : ℕ → BaysView) (i : ℕ) (state : NodeState) : Type 0 where
  opened : state.opened ≡ (old i).opened
  stands : (plan : Plan) → slice_get network.plans i ≡ Some plan → StandsAt plan state.opened state.read state.node state.now
  node : i < length network.plans → state.node ≡ nodes i
  now : i < length network.plans → state.now ≡ bays i

of_one : (p q : Plan) → Some p ≡ Some q → p ≡ q
of_one p q e = cc

is_after : (network : Network) (old : ℕ → NodeState) (nodes : ℕ → NodeView) (bays : ℕ → BaysView) (stands : NetworkStands network old)
    (went : NodesWentOn network old nodes bays) (i : ℕ) (at : Option Plan) (known : slice_get network.plans i ≡ at)
    → After network old nodes bays i (state_after network old nodes bays stands went i at known)
unfolding state_after
is_after network old nodes bays stands went i None known = record {
  opened = refl;
  stands = λ plan here. absurd (let e : None ≡ Some plan = sym known ∙ here in cc);
  node = λ less. absurd (let there = some_at network.plans i less in let e : None ≡ Some there.0 = sym known ∙ there.1 in cc);
  now = λ less. absurd (let there = some_at network.plans i less in let e : None ≡ Some there.0 = sym known ∙ there.1 in cc);
}
is_after network old nodes bays stands went i (Some plan) known =
    let less = slice_get_within network.plans i plan known in
    let later = went.later i plan (old i).opened (old i).read less (stands.nodes i plan known) in
    record {
      opened = refl;
      stands = λ other here. subst (λ p. StandsAt p (old i).opened later.more (nodes i) (bays i)) (of_one plan other (sym known ∙ here)) later.stands;
      node = λ less. refl;
      now = λ less. refl;
    }

pub rounds_keep_it : RoundsKeepIt
rounds_keep_it network old nodes bays net stands went =
    let new : ℕ → NodeState = λ i. state_after network old nodes bays stands went i (slice_get network.plans i) refl in
    let is : (i : ℕ) → After network old nodes bays i (new i) = λ i. is_after network old nodes bays stands went i (slice_get network.plans i) refl in (
      new,
      record {
        nodes = λ i plan known. (is i).stands plan known;
        fibres = λ f has.
            let h = stands.fibres f has in
            let ends = net.ends f has in
            let here = is f.here in
            let there = is f.there in
            let grows = went.grows f.here f.out ends.0 in
            let now : (line_out_at (new f.here).now f.out).got ≡ after (line_out_at (old f.here).now f.out).got grows.0 = ap
            (λ (bays : BaysView). (line_out_at bays f.out).got) (here.now ends.0) ∙ grows.1 in
            record {
              handed = h.handed;
              waiting = h.waiting ++ grows.0;
              went = subst (λ (bays : BaysView). Grew (line_out_at bays f.out).got (line_out_at (new f.here).now f.out).got
                  (h.handed ++ (h.waiting ++ grows.0))) (sym here.opened)
                  (grew_on (line_out_at (old f.here).opened f.out).got (line_out_at (old f.here).now f.out).got
                  (line_out_at (new f.here).now f.out).got h.handed h.waiting grows.0 h.went now);
              came = ap (λ (bays : BaysView). (line_in_at bays f.into).left) there.opened ∙ h.came;
            };
      },
      λ i less. ((is i).node less, (is i).now less, (is i).opened),
    )

-- ---- a fibre that is filled

out_kept : (a b : ℕ) (more : List ℕ) (old new : BaysView) → LineGrew a more old new → line_out_at new b ≡ line_out_at old b
out_kept a b more old new filled = ap (λ (views : List OutView). get_or views b no_output) filled.line_out

in_kept : (a c : ℕ) (more : List ℕ) (old new : BaysView) → LineGrew a more old new → c ≢ a → line_in_at new c ≡ line_in_at old c
in_kept a c more old new filled apart = filled.others c apart

filled_out : (f : FibreEnds) (more : List ℕ) (old new : ℕ → NodeState) → FibreFilled f more old new → (j b : ℕ)
    → (line_out_at (new j).opened b ≡ line_out_at (old j).opened b) × (line_out_at (new j).now b ≡ line_out_at (old j).now b)
filled_out f more old new filled j b = elim
    (eqb_tells j f.there) as (λ h. (line_out_at (new j).opened b ≡ line_out_at (old j).opened b) × (line_out_at (new j).now b ≡ line_out_at (old j).now b)) [
      | inl t ↦ subst (λ k. (line_out_at (new k).opened b ≡ line_out_at (old k).opened b) × (line_out_at (new k).now b ≡ line_out_at (old k).now b)) (sym t.1) (
        out_kept f.into b more (old f.there).opened (new f.there).opened filled.opened,
        out_kept f.into b more (old f.there).now (new f.there).now filled.now,
      )
      | inr t ↦ (ap (λ (s : NodeState). line_out_at s.opened b) (filled.others j t.1), ap (λ (s : NodeState). line_out_at s.now b) (filled.others j t.1))
    ]

went_kept : (f g : FibreEnds) (more bytes : List ℕ) (old new : ℕ → NodeState) → FibreFilled f more old new
    → Grew (line_out_at (old g.here).opened g.out).got (line_out_at (old g.here).now g.out).got bytes
    → Grew (line_out_at (new g.here).opened g.out).got (line_out_at (new g.here).now g.out).got bytes
went_kept f g more bytes old new filled grew =
    let e = filled_out f more old new filled g.here g.out in
    subst (λ (v : OutView). Grew v.got (line_out_at (new g.here).now g.out).got bytes) (sym e.0)
    (subst (λ (v : OutView). Grew (line_out_at (old g.here).opened g.out).got v.got bytes) (sym e.1) grew)

-- the fibre itself
filled_one : (f : FibreEnds) (more rest : List ℕ) (old new : ℕ → NodeState) → FibreFilled f more old new → (h : Handing f old) → h.waiting ≡ more ++ rest
    → Handing f new
filled_one f more rest old new filled h waits =
    let bytes : h.handed ++ h.waiting ≡ (h.handed ++ more) ++ rest = ap (λ l. h.handed ++ l) waits ∙ sym (append_assoc h.handed more rest) in
    record {
      handed = h.handed ++ more;
      waiting = rest;
      went = subst (Grew (line_out_at (new f.here).opened f.out).got (line_out_at (new f.here).now f.out).got) bytes
          (went_kept f f more (h.handed ++ h.waiting) old new filled h.went);
      came = ap (λ (v : InView). v.left) filled.opened.line ∙ ap (left_with more) h.came;
    }

-- another, which ends at another line
filled_other : (f g : FibreEnds) (more : List ℕ) (old new : ℕ → NodeState) → FibreFilled f more old new → (g.there ≡ f.there → g.into ≢ f.into) → Handing g old
    → Handing g new
filled_other f g more old new filled apart h = record {
  handed = h.handed;
  waiting = h.waiting;
  went = went_kept f g more (h.handed ++ h.waiting) old new filled h.went;
  came = elim (eqb_tells g.there f.there) as (λ t. (line_in_at (new g.there).opened g.into).left ≡ Some h.handed) [
    | inl t ↦
        let same : line_in_at (new f.there).opened g.into ≡ line_in_at (old f.there).opened g.into = in_kept f.into g.into more (old f.there).opened
        (new f.there).opened filled.opened (apart t.1) in
        ap (λ (v : InView). v.left) (subst (λ k. line_in_at (new k).opened g.into ≡ line_in_at (old k).opened g.into) (sym t.1) same) ∙ h.came
    | inr t ↦ ap (λ (s : NodeState). (line_in_at s.opened g.into).left) (filled.others g.there t.1) ∙ h.came
  ];
}

filled_fibre : (network : Network) (f g : FibreEnds) (more rest : List ℕ) (old new : ℕ → NodeState) → IsNetwork network → (has : Contains network.fibres f)
    → Contains network.fibres g → (stands : NetworkStands network old)
    → (stands.fibres f has).waiting ≡ more ++ rest → FibreFilled f more old new → Handing g old → Handing g new
filled_fibre network f g more rest old new net has other stands waits filled h =
    elim (eqb_tells g.there f.there) as (λ t. Handing g new) [
      | inl t ↦ elim (eqb_tells g.into f.into) as (λ u. Handing g new) [
        | inl u ↦ subst (λ k. Handing k new) (sym (net.single g f other has t.1 u.1)) (filled_one f more rest old new filled (stands.fibres f has) waits)
        | inr u ↦ filled_other f g more old new filled (λ e. u.1) h
      ]
      | inr t ↦ filled_other f g more old new filled (λ e. absurd (t.1 e)) h
    ]

pub hands_keep_it : HandsKeepIt
hands_keep_it network f more rest old new net has stands waits filled = record {
  nodes = λ j plan known. node_at j plan known;
  fibres = λ g other. filled_fibre network f g more rest old new net has other stands waits filled (stands.fibres g other);
}
  where
    there_at : (plan : Plan) → StandsAt plan (old f.there).opened (old f.there).read (old f.there).node (old f.there).now
        → StandsAt plan (new f.there).opened (new f.there).read (new f.there).node (new f.there).now
    there_at plan s =
        let r = lines_grow plan (old f.there).opened (old f.there).now (new f.there).opened (new f.there).now (old f.there).read
        (old f.there).node f.into more filled.open_yet filled.opened filled.now s in
        subst (λ read. StandsAt plan (new f.there).opened read (new f.there).node (new f.there).now) (sym filled.read)
        (subst (λ node. StandsAt plan (new f.there).opened (old f.there).read node (new f.there).now) (sym filled.node) r)

    node_at : (j : ℕ) (plan : Plan) → slice_get network.plans j ≡ Some plan → StandsAt plan (new j).opened (new j).read (new j).node (new j).now
    node_at j plan known = elim (eqb_tells j f.there) as (λ h. StandsAt plan (new j).opened (new j).read (new j).node (new j).now) [
      | inl t ↦ subst (λ k. StandsAt plan (old k).opened (old k).read (old k).node (old k).now
          → StandsAt plan (new k).opened (new k).read (new k).node (new k).now) (sym t.1) (there_at plan) (stands.nodes j plan known)
      | inr t ↦ subst (λ (s : NodeState). StandsAt plan s.opened s.read s.node s.now) (sym (filled.others j t.1)) (stands.nodes j plan known)
    ]

-- ---- the end

written_by : (was is : State) (keeps : Bool) (first now : Option (List ℕ)) (bytes : List ℕ) → was ≡ Live → is ≢ Empty → Grew first now bytes
    → written_between was is keeps first now bytes
written_by Live Live keeps first now bytes a b grew = grew
written_by Live Dead keeps first now bytes a b grew = grew
written_by Live Empty keeps first now bytes a b grew = absurd (b refl)
written_by Empty is keeps first now bytes a b grew = absurd (cc)
written_by Dead is keeps first now bytes a b grew = absurd (cc)

given_by : (was is : State) (first now : Option (List ℕ)) (bytes : List ℕ) → was ≡ Live → is ≡ Live → first ≡ Some bytes → given_between was is first now bytes
given_by Live Live first now bytes a b told = told
given_by Live Dead first now bytes a b told = absurd (cc)
given_by Live Empty first now bytes a b told = absurd (cc)
given_by Empty is first now bytes a b told = absurd (cc)
given_by Dead is first now bytes a b told = absurd (cc)

-- an entry of an accepted plan uses the lines of its ends
used_out : (plan : Plan) (x : Connection) (b number : ℕ) (slots : LineSlots) → Contains plan.connections x → x.to ≡ to_end.Line b number slots
    → uses plan (port.LineOut b) ≡ true
used_out plan x b number slots has to =
    to_line_used plan has.0 b number slots x (slice_get_read plan.connections (length plan.connections) has.0 x refl has.1 (sym has.2)) to

used_in : (plan : Plan) (x : Connection) (a number : ℕ) (slots : LineSlots) → Contains plan.connections x → x.from ≡ from_end.Line a number slots
    → uses plan (port.LineIn a) ≡ true
used_in plan x a number slots has from =
    from_line_used plan has.0 a number slots x (slice_get_read plan.connections (length plan.connections) has.0 x refl has.1 (sym has.2)) from

pub ends_as_a_run : EndsAsARun
ends_as_a_run network states run net stands ended = (
  record {
    run = run;
    carries = λ i plan known.
        let e = ended i plan known in (
          of_plan (run i).plan plan (sym e.plan ∙ known),
          record { accepted = net.accepted i (run i).plan e.plan; takings = e.takings; numbers = e.numbers; left = e.left },
        );
  },
  refl,
  λ here next is next_is joined lived.
      let e = ended here.node is.plan is.known in
      let g = ended next.node next_is.plan next_is.known in
      let same = of_plan (run here.node).plan is.plan (sym e.plan ∙ is.known) in
      let same_too = of_plan (run next.node).plan next_is.plan (sym g.plan ∙ next_is.known) in
      let f = fibre_of joined in
      let form : form_in next_is.plan f.into ≡ form_out is.plan f.out = net.forms f is.plan next_is.plan joined.fibre is.known next_is.known
      (used_out is.plan here.x joined.b joined.port joined.slots is.has joined.goes.puts)
      (used_in next_is.plan next.x joined.c joined.port joined.slots next_is.has joined.goes.takes) in
      fibre f joined.fibre lived
      (ap (λ plan. form_in plan f.into) same_too ∙ form ∙ sym (ap (λ plan. form_out plan f.out) same)),
)
  where
    of_plan : (p q : Plan) → Some p ≡ Some q → p ≡ q
    of_plan p q e = cc

    fibre : (f : FibreEnds) → Contains network.fibres f → HasLivedEnds f run → form_in (run f.there).plan f.into ≡ form_out (run f.here).plan f.out
        → Fibre (run f.here) (run f.there) f.out f.into
    fibre f has l form =
        let ends = net.ends f has in
        let here = some_at network.plans f.here ends.0 in
        let there = some_at network.plans f.there ends.1 in
        let e = ended f.here here.0 here.1 in
        let g = ended f.there there.0 there.1 in
        let h = stands.fibres f has in
        let out : line_out_at (run f.here).after f.out ≡ line_out_at (states f.here).now f.out = ap
        (λ (views : List OutView). get_or views f.out no_output) e.line_out in
        let first : line_out_at (run f.here).before f.out ≡ line_out_at (states f.here).opened f.out = ap
        (λ (bays : BaysView). line_out_at bays f.out) e.before in
        let grew : Grew (line_out_at (run f.here).before f.out).got (line_out_at (run f.here).after f.out).got (h.handed ++ h.waiting) =
        subst (λ (v : OutView). Grew v.got (line_out_at (run f.here).after f.out).got (h.handed ++ h.waiting)) (sym first)
        (subst (λ (v : OutView). Grew (line_out_at (states f.here).opened f.out).got v.got (h.handed ++ h.waiting)) (sym out) h.went) in
        let told : (line_in_at (run f.there).before f.into).left ≡ Some h.handed = ap (λ (bays : BaysView). (line_in_at bays f.into).left) g.before ∙ h.came in
        record {
          form = form;
          written = h.handed ++ h.waiting;
          went = written_by (line_out_at (run f.here).before f.out).state (line_out_at (run f.here).after f.out).state
              (line_out_at (run f.here).after f.out).keeps (line_out_at (run f.here).before f.out).got (line_out_at (run f.here).after f.out).got (h.handed ++ h.waiting) l.out_was l.out_is grew;
          brought = h.handed;
          came = given_by (line_in_at (run f.there).before f.into).state (line_in_at (run f.there).after f.into).state
              (line_in_at (run f.there).before f.into).left (line_in_at (run f.there).after f.into).left h.handed l.in_was l.in_is told;
          cut = h.waiting;
          parts = refl;
        }
