-- What is told of a network.
use Rattle.std.proofs.Common.{◌≡◌, ◌+◌, ◌-◌, ◌∙◌, ◌==◌, ◌⊎◌, inl, inr, ℕ, zero, suc, Bool}
use Rattle.std.proofs.Common.{true, false, List, [], ◌∷◌, ◌++◌, Option, None, Some, length, codes, slice_get, refl, sym, ap, subst, arith}
use Rattle.std.specs.Prelude.{if◌then◌else◌, is_none, not}
use Rattle.std.specs.List.{Contains, flat_map, range_with_len}
use Rattle.std.proofs.lemmas.Bool.{and_parts, and_from, eqb-true, eq-eqb}
use Rattle.otn_base.specs.LineSlots.{LineSlots}
use Rattle.plan_file.specs.declared.connection.Connection.{Connection}
use Rattle.plan_file.specs.declared.connection.ToEnd.{ToEnd}
use Rattle.plan_file.specs.declared.connection.ToEnd.TheVariants as to_end
use Rattle.plan_file.specs.declared.plan.Plan.{Plan}
use Rattle.std.proofs.lemmas.List.Elements.{Contains-append_left, Contains-append_right, Contains-append_cases}
use Rattle.std.proofs.lemmas.Option.{same_Some}
use Rattle.network_laws.specs.Delivery.{IsInStep}
use Rattle.network_laws.specs.Networks.{FibreEnds, Network, NetworkRun}
use Rattle.network_laws.specs.Routes.{Leg, IsLeg, IsJoined, IsRoute, hop_of, hops_of, last_leg}
use Rattle.network_laws.proofs.EndToEnd.{networks_deliver}
use Rattle.network_ways.specs.Tracing.{IsFirst, Way, goes_on, trace}
use Rattle.network_ways.proofs.Tracing.{going, goes_so, finds_each, finds_ways}
use Rattle.network_view.specs.Entries.{Named, legs_at, legs_from, legs_of, name_of}
use Rattle.network_view.specs.Laws.{IsFree, IsLast, IsWell, TellsEachWay, TellsFreeSlots, TellsRounds, TellsTheTurns, TellsWays, TellsWhatMeets}
use Rattle.network_view.specs.NetworkText.{is_met, is_met_by, round_line, trouble_line, troubles_text, unmet_line, untaken_line}
use Rattle.network_view.specs.declared.lines.Trouble.TheVariants.{Unmet, Untaken, Round}
use Rattle.network_view.specs.Slots.{free_slots, has_slot_of, is_end_on, is_put_on, is_used, line_slots}
use Rattle.network_view.specs.Troubles.{any_in, is_round, is_taken, is_unmet, is_untaken, takes_by, why}
use Rattle.network_view.specs.Ways.{as_list, is_in_step, most_steps, way_at}
use Rattle.network_view.specs.Words.{why_word}
use Rattle.network_view.proofs.Contained.{in_none, first_in, later_in, cases_in, any_has, has_any, flat_has, has_flat}
use Rattle.network_view.proofs.Contained.{nil_parts, flat_nil, nil_flat, filter_has, has_filter, range_has, has_range}
use Rattle.network_view.proofs.Rounds.{way_fits}

-- ---- all entries

map_has : (node : ℕ) (xs : List Connection) (leg : Leg) → Contains (legs_at node xs) leg → (leg.node ≡ node) × Contains xs leg.x
map_has node [] leg has = absurd (in_none leg has)
map_has node (x ∷ xs) leg has = go (cases_in (record { node = node; x = x }) (legs_at node xs) leg has) (map_has node xs leg)
  where
    go : ((record { node = node; x = x }) ≡ leg) ⊎ Contains (legs_at node xs) leg → (Contains (legs_at node xs) leg → (leg.node ≡ node) × Contains xs leg.x)
        → (leg.node ≡ node) × Contains (x ∷ xs) leg.x
    go (inl is) more = (sym (ap (λ (l : Leg). l.node) is), subst (Contains (x ∷ xs)) (ap (λ (l : Leg). l.x) is) (first_in x xs))
    go (inr later) more =
        let rest = more later in
        (rest.0, later_in x xs leg.x rest.1)

has_map : (node : ℕ) (xs : List Connection) (x : Connection) → Contains xs x → Contains (legs_at node xs) (record { node = node; x = x })
has_map node [] x has = absurd (in_none x has)
has_map node (y ∷ xs) x has = go (cases_in y xs x has) (has_map node xs x)
  where
    go : (y ≡ x) ⊎ Contains xs x → (Contains xs x → Contains (legs_at node xs) (record { node = node; x = x }))
        → Contains (legs_at node (y ∷ xs)) (record { node = node; x = x })
    go (inl is) rest =
        subst (λ z. Contains (legs_at node (y ∷ xs)) (record { node = node; x = z })) is (first_in (record { node = node; x = y }) (legs_at node xs))
    go (inr later) rest = later_in (record { node = node; x = y }) (legs_at node xs) (record { node = node; x = x }) (rest later)

-- an entry of one of these plans, of which the first is that of this node
record IsOf (first : ℕ) (plans : List Plan) (leg : Leg) : Type 0 where
  at : ℕ
  plan : Plan
  node : leg.node ≡ first + at
  known : slice_get plans at ≡ Some plan
  has : Contains plan.connections leg.x

is_of : (first : ℕ) (plans : List Plan) (leg : Leg) → Contains (legs_from first plans) leg → IsOf first plans leg
unfolding legs_from
is_of first [] leg has = absurd (in_none leg has)
is_of first (plan ∷ plans) leg has =
    go (Contains-append_cases (legs_at first plan.connections) (legs_from (first + 1) plans) leg has) (is_of (first + 1) plans leg)
  where
    go : Contains (legs_at first plan.connections) leg ⊎ Contains (legs_from (first + 1) plans) leg
        → (Contains (legs_from (first + 1) plans) leg → IsOf (first + 1) plans leg)
        → IsOf first (plan ∷ plans) leg
    go (inl here) rest =
        let m = map_has first plan.connections leg here in
        record { at = 0; plan = plan; node = m.0 ∙ (let e : first ≡ first + 0 = omega arith in e); known = refl; has = m.1 }
    go (inr later) rest =
        let r = rest later in
        record { at = suc r.at; plan = r.plan; node = r.node ∙ (let e : first + 1 + r.at ≡ first + suc r.at = omega arith in e); known = r.known; has = r.has }

of_is : (first : ℕ) (plans : List Plan) (at : ℕ) (plan : Plan) (x : Connection) → slice_get plans at ≡ Some plan → Contains plan.connections x
    → Contains (legs_from first plans) (record { node = first + at; x = x })
unfolding legs_from
of_is first [] at plan x known has = absurd (cc)
of_is first (p ∷ plans) zero plan x known has =
    let same : p ≡ plan = same_Some p plan known in
    subst (λ n. Contains (legs_from first (p ∷ plans)) (record { node = n; x = x })) (let e : first ≡ first + 0 = omega arith in e)
    (Contains-append_left (legs_at first p.connections) (legs_from (first + 1) plans) (record { node = first; x = x })
    (has_map first p.connections x (subst (λ (q : Plan). Contains q.connections x) (sym same) has)))
of_is first (p ∷ plans) (suc at) plan x known has =
    subst (λ n. Contains (legs_from first (p ∷ plans)) (record { node = n; x = x })) (let e : first + 1 + at ≡ first + suc at = omega arith in e)
    (Contains-append_right (legs_at first p.connections) (legs_from (first + 1) plans) (record { node = first + 1 + at; x = x })
    (of_is (first + 1) plans at plan x known has))

is_leg : (network : Network) (leg : Leg) → Contains (legs_of network) leg → IsLeg network leg
is_leg network leg has =
    let r = is_of 0 network.plans leg has in
    record { plan = r.plan; known = ap (slice_get network.plans) (r.node ∙ (let e : 0 + r.at ≡ r.at = omega arith in e)) ∙ r.known; has = r.has }

leg_is : (network : Network) (leg : Leg) → IsLeg network leg → Contains (legs_of network) leg
leg_is network leg is =
    subst (λ n. Contains (legs_of network) (record { node = n; x = leg.x })) (let e : 0 + leg.node ≡ leg.node = omega arith in e)
    (of_is 0 network.plans leg.node is.plan leg.x is.known is.has)

-- ---- whether an entry goes on

any_found : (at : Option Plan) (test : Connection → Bool) → any_in at test ≡ true
    → (plan : Plan) × (at ≡ Some plan) × ((y : Connection) × Contains plan.connections y × (test y ≡ true))
any_found None test e = absurd (cc)
any_found (Some plan) test e = (plan, refl, any_has test plan.connections e)

taken_is : (network : Network) (here : Leg) → is_taken network here ≡ true → (next : Leg) × IsLeg network next × IsJoined network here next
taken_is network here e =
    let f = any_has (takes_by network here) network.fibres e in
    let test : Connection → Bool = λ y. goes_on here.x y f.0.out f.0.into in
    let p = and_parts (f.0.here == here.node) (any_in (slice_get network.plans f.0.there) test) f.2 in
    let a = any_found (slice_get network.plans f.0.there) test p.1 in
    let y = a.2.0 in
    let g = going here.x y f.0.out f.0.into a.2.2 in
    let same : f.0.here ≡ here.node = eqb-true f.0.here here.node p.0 in (
      record { node = f.0.there; x = y },
      record { plan = a.0; known = a.1; has = a.2.1 },
      record {
        b = f.0.out;
        c = f.0.into;
        port = g.port;
        slots = g.slots;
        goes = g.goes;
        fibre = subst (λ n. Contains network.fibres (record { here = n; out = f.0.out; there = f.0.there; into = f.0.into })) same f.1;
      },
    )

is_taken_so : (network : Network) (here next : Leg) → IsLeg network next → IsJoined network here next → is_taken network here ≡ true
is_taken_so network here next is joined =
    let f : FibreEnds = record { here = here.node; out = joined.b; there = next.node; into = joined.c } in
    let test : Connection → Bool = λ y. goes_on here.x y joined.b joined.c in
    has_any (takes_by network here) network.fibres f joined.fibre
    (and_from (here.node == here.node) (any_in (slice_get network.plans next.node) test) (eq-eqb here.node here.node refl)
    (ap (λ at. any_in at test) is.known ∙ has_any test is.plan.connections next.x is.has
    (goes_so here.x next.x joined.b joined.c joined.port joined.slots joined.goes)))

-- ---- ways

way_of_leg : (network : Network) (most : ℕ) (leg : Leg) (way : Way) → Contains (way_at network most leg) way
    → (is_taken network leg ≡ false) × (trace network most leg [] ≡ Some way)
unfolding way_at
way_of_leg network most leg way has = go (is_taken network leg) refl
  where
    some : (o : Option Way) → trace network most leg [] ≡ o → Contains (as_list o) way → trace network most leg [] ≡ Some way
    some None t h = absurd (in_none way h)
    some (Some w) t h = one (cases_in w [] way h)
      where
        one : (w ≡ way) ⊎ Contains [] way → trace network most leg [] ≡ Some way
        one (inl is) = t ∙ ap Some is
        one (inr none) = absurd (in_none way none)

    go : (b : Bool) → is_taken network leg ≡ b → (is_taken network leg ≡ false) × (trace network most leg [] ≡ Some way)
    go true t = absurd (in_none way (subst (λ b. Contains (if b then [] else as_list (trace network most leg [])) way) t has))
    go false t = (t, some (trace network most leg []) refl (subst (λ b. Contains (if b then [] else as_list (trace network most leg [])) way) t has))

pub tells_ways : TellsWays
tells_ways network way has =
    let f = flat_has (way_at network (most_steps network)) (legs_of network) way has in
    let leg = f.0 in
    let is = is_leg network leg f.1 in
    let w = way_of_leg network (most_steps network) leg way f.2 in
    let found = finds_ways network (most_steps network) leg way is w.1 in (
      found.0,
      found.2,
      λ next on joined.
          (let both : false ≡ true = sym w.0 ∙ is_taken_so network leg next on (subst (λ l. IsJoined network l next) found.1 joined) in absurd (cc)),
    )

last_is_leg : (network : Network) (first : Leg) (rest : List Leg) → IsRoute network first rest → IsLeg network (last_leg first rest)
last_is_leg network first [] route = route
last_is_leg network first (next ∷ rest) route = last_is_leg network next rest route.2

not_taken : (network : Network) (leg : Leg) → IsLast network leg → is_taken network leg ≡ false
not_taken network leg last = go (is_taken network leg) refl
  where
    go : (b : Bool) → is_taken network leg ≡ b → is_taken network leg ≡ false
    go false t = t
    go true t = absurd (let n = taken_is network leg t in last n.0 n.1 n.2)

pub tells_each_way : TellsEachWay
unfolding way_at
tells_each_way network first rest net route begins ends =
    let way : Way = record { first = first; rest = rest } in
    let leg = last_leg first rest in
    let most = most_steps network in
    let few = way_fits network first rest (legs_of network) net route begins (leg_is network) in
    let found : trace network most leg [] ≡ Some way = finds_each network most first rest net route begins few in
    let at : way_at network most leg ≡ way ∷ [] =
    ap (λ b. if b then [] else as_list (trace network most leg [])) (not_taken network leg ends) ∙ ap as_list found in
    has_flat (way_at network most) (legs_of network) leg way (leg_is network leg (last_is_leg network first rest route))
    (subst (λ xs. Contains xs way) (sym at) (first_in way []))

pub tells_rounds : TellsRounds
tells_rounds network leg net is = (none_leads, goes_round)
  where
    none_leads : is_round network (most_steps network) leg ≡ true → (first : Leg) (rest : List Leg) → IsRoute network first rest → IsFirst network first
        → last_leg first rest ≡ leg → ⊥
    none_leads e first rest route begins ends =
        let few = way_fits network first rest (legs_of network) net route begins (leg_is network) in
        let most = most_steps network in
        let found : trace network most (last_leg first rest) [] ≡ Some (record { first = first; rest = rest }) =
        finds_each network most first rest net route begins few in
        let at : trace network most leg [] ≡ Some (record { first = first; rest = rest }) = sym (ap (λ l. trace network most l []) ends) ∙ found in
        let both : false ≡ true = sym (ap is_none at) ∙ e in
        absurd (cc)

    goes_round : ((first : Leg) (rest : List Leg) → IsRoute network first rest → IsFirst network first → last_leg first rest ≡ leg → ⊥)
        → is_round network (most_steps network) leg ≡ true
    goes_round none = go (trace network (most_steps network) leg []) refl
      where
        go : (o : Option Way) → trace network (most_steps network) leg [] ≡ o → is_none o ≡ true
        go None t = refl
        go (Some way) t = absurd (let f = finds_ways network (most_steps network) leg way is t in none way.first way.rest f.0 f.2 f.1)

-- ---- turns

in_step : (network : Network) (run : NetworkRun network) (first here : Leg) (rest : List Leg) → here.x.start ≡ first.x.start → is_in_step first rest ≡ true
    → IsInStep (hop_of run here) (hops_of run rest)
in_step network run first here [] same e = tt
in_step network run first here (next ∷ rest) same e =
    let p = and_parts (next.x.start == first.x.start) (is_in_step first rest) e in
    let starts = eqb-true next.x.start first.x.start p.0 in
    (starts ∙ sym same, in_step network run first next rest starts p.1)

pub tells_the_turns : TellsTheTurns
tells_the_turns network run way m n input written route brought all steps many from to gave got lived offered =
    networks_deliver network run way.first way.rest m n input written route brought all
    (in_step network run way.first way.first way.rest refl steps) many from to gave got lived offered

-- ---- what meets

some_text : (b : Bool) (c : ℕ) (text : List ℕ) → (if b then c ∷ text else []) ≡ [] → b ≡ false
some_text false c text e = refl
some_text true c text e = absurd (cc)

no_text : (b : Bool) (text : List ℕ) → b ≡ false → (if b then text else []) ≡ []
no_text b text e = ap (λ c. if c then text else []) e

unmet_none : (named : Named) (leg : Leg) → unmet_line named leg ≡ [] → is_unmet named.network leg ≡ false
unfolding unmet_line
unmet_none named leg e =
    some_text (is_unmet named.network leg) 117
    (codes "nmet " ++ name_of named leg.node ++ codes " " ++ leg.x.name ++ codes " " ++ why_word (why named.network leg) ++ codes "\n") e

untaken_none : (named : Named) (leg : Leg) → untaken_line named leg ≡ [] → is_untaken named.network leg ≡ false
unfolding untaken_line
untaken_none named leg e = some_text (is_untaken named.network leg) 117 (codes "ntaken " ++ name_of named leg.node ++ codes " " ++ leg.x.name ++ codes "\n") e

round_none : (named : Named) (most : ℕ) (leg : Leg) → round_line named most leg ≡ [] → is_round named.network most leg ≡ false
unfolding round_line
round_none named most leg e =
    some_text (is_round named.network most leg) 114 (codes "ound " ++ name_of named leg.node ++ codes " " ++ leg.x.name ++ codes "\n") e

none_unmet : (named : Named) (leg : Leg) → is_unmet named.network leg ≡ false → unmet_line named leg ≡ []
unfolding unmet_line
none_unmet named leg e =
    no_text (is_unmet named.network leg) (codes "unmet " ++ name_of named leg.node ++ codes " " ++ leg.x.name ++ codes " " ++ why_word
    (why named.network leg) ++ codes "\n") e

none_untaken : (named : Named) (leg : Leg) → is_untaken named.network leg ≡ false → untaken_line named leg ≡ []
unfolding untaken_line
none_untaken named leg e = no_text (is_untaken named.network leg) (codes "untaken " ++ name_of named leg.node ++ codes " " ++ leg.x.name ++ codes "\n") e

none_round : (named : Named) (most : ℕ) (leg : Leg) → is_round named.network most leg ≡ false → round_line named most leg ≡ []
unfolding round_line
none_round named most leg e = no_text (is_round named.network most leg) (codes "round " ++ name_of named leg.node ++ codes " " ++ leg.x.name ++ codes "\n") e

met_nil : (text : List ℕ) → is_met_by text ≡ true → text ≡ []
met_nil [] e = refl
met_nil (c ∷ text) e = absurd (cc)

all_well : (named : Named) → is_met named ≡ true → (leg : Leg) → IsLeg named.network leg → IsWell named.network leg
all_well named e leg is =
    let legs = legs_of named.network in
    let most = length legs in
    let unmet = flat_map (trouble_line named most Unmet) legs in
    let untaken = flat_map (trouble_line named most Untaken) legs in
    let round = flat_map (trouble_line named most Round) legs in
    let p = nil_parts unmet (untaken ++ round) (met_nil (troubles_text named) e) in
    let q = nil_parts untaken round p.1 in
    let has = leg_is named.network leg is in
    record {
      met = unmet_none named leg (flat_nil (trouble_line named most Unmet) legs leg p.0 has);
      taken = untaken_none named leg (flat_nil (trouble_line named most Untaken) legs leg q.0 has);
      begun = round_none named most leg (flat_nil (trouble_line named most Round) legs leg q.1 has);
    }

well_met : (named : Named) → ((leg : Leg) → IsLeg named.network leg → IsWell named.network leg) → is_met named ≡ true
well_met named well =
    let legs = legs_of named.network in
    let most = length legs in
    let one = λ (leg : Leg) (has : Contains legs leg). well leg (is_leg named.network leg has) in
    let unmet : flat_map (trouble_line named most Unmet) legs ≡ [] =
    nil_flat (trouble_line named most Unmet) legs (λ leg has. none_unmet named leg (one leg has).met) in
    let untaken : flat_map (trouble_line named most Untaken) legs ≡ [] =
    nil_flat (trouble_line named most Untaken) legs (λ leg has. none_untaken named leg (one leg has).taken) in
    let round : flat_map (trouble_line named most Round) legs ≡ [] =
    nil_flat (trouble_line named most Round) legs (λ leg has. none_round named most leg (one leg has).begun) in
    ap (λ t. is_met_by (t ++ (flat_map (trouble_line named most Untaken) legs ++ flat_map (trouble_line named most Round) legs))) unmet
    ∙ ap (λ t. is_met_by (t ++ flat_map (trouble_line named most Round) legs)) untaken ∙ ap is_met_by round

pub tells_what_meets : TellsWhatMeets
tells_what_meets named = (all_well named, well_met named)

-- ---- slots

not_true : (b : Bool) → not b ≡ true → b ≡ false
not_true false e = refl
not_true true e = absurd (cc)

put_on : (b k : ℕ) (x : Connection) (port : ℕ) (slots : LineSlots) → x.to ≡ to_end.Line b port slots → Contains slots.list k → is_put_on b k x ≡ true
put_on b k x port slots to has =
    ap (is_end_on b k) to ∙ and_from (b == b) (has_slot_of slots.list k) (eq-eqb b b refl) (has_any (λ one. one == k) slots.list k has (eq-eqb k k refl))

is_on : (b k : ℕ) (to : ToEnd) → is_end_on b k to ≡ true → (port : ℕ) × ((slots : LineSlots) × (to ≡ to_end.Line b port slots) × Contains slots.list k)
is_on b k (to_end.Client client) e = absurd (cc)
is_on b k (to_end.Line line port slots) e =
    let p = and_parts (line == b) (has_slot_of slots.list k) e in
    let s = any_has (λ one. one == k) slots.list p.1 in
    (port, (slots, ap (λ l. to_end.Line l port slots) (eqb-true line b p.0), subst (Contains slots.list) (eqb-true s.0 k s.2) s.1))

free_is : (plan : Plan) (b k : ℕ) → Contains (free_slots plan b) k → IsFree plan b k
unfolding free_slots
free_is plan b k has =
    let f = filter_has (λ s. not (is_used plan b s)) (range_with_len 1 (line_slots plan b)) k has in
    let r = range_has 1 (line_slots plan b) k f.0 in
    let free : is_used plan b k ≡ false = not_true (is_used plan b k) f.1 in
    record {
      low = r.0;
      high = (let high = r.1 in omega arith);
      unused = λ x port slots in_plan to on.
          (let both : false ≡ true = sym free ∙ has_any (is_put_on b k) plan.connections x in_plan (put_on b k x port slots to on) in absurd (cc));
    }

is_free : (plan : Plan) (b k : ℕ) → IsFree plan b k → Contains (free_slots plan b) k
unfolding free_slots
is_free plan b k free =
    has_filter (λ s. not (is_used plan b s)) (range_with_len 1 (line_slots plan b)) k
    (has_range 1 (line_slots plan b) k free.low (let high = free.high in omega arith)) (ap not (go (is_used plan b k) refl))
  where
    go : (u : Bool) → is_used plan b k ≡ u → is_used plan b k ≡ false
    go false t = t
    go true t =
        let x = any_has (is_put_on b k) plan.connections t in
        let on = is_on b k x.0.to x.2 in
        absurd (free.unused x.0 on.0 on.1.0 x.1 on.1.1 on.1.2)

pub tells_free_slots : TellsFreeSlots
tells_free_slots plan b k = (free_is plan b k, is_free plan b k)
