-- What is found back from an end is a way, and each way is found.
use Rattle.std.proofs.Common.{◌≡◌, ◌<◌, ◌+◌, ◌-◌, ℕ, zero, suc, Bool, true, false, ◌&&◌, ◌==◌, if◌then◌else◌, List}
use Rattle.std.proofs.Common.{[], ◌∷◌, ◌++◌, Option, None, Some, length, get_or, refl, sym, ap, ◌∙◌, subst, arith, append-nil}
use Rattle.std.specs.Prelude.{option_map, nat_le, slice_get}
use Rattle.std.specs.List.{Contains}
use Rattle.std.specs.Str.{bytes_eq}
use Rattle.std.proofs.lemmas.Bool.{and_parts, and_from, eqb-true, eq-eqb, leb-true, le-leb}
use Rattle.std.proofs.lemmas.Slice.Eq.{bytes_eq-Decides}
use Rattle.otn_base.specs.LineSlots.{LineSlots}
use Rattle.otn_base.specs.declared.line_kind.LineKind.{LineKind}
use Rattle.otn_base.specs.declared.line_kind.LineKind.TheVariants.{Otu2, Otu3}
use Rattle.plan_file.specs.declared.connection.Connection.{Connection}
use Rattle.plan_file.specs.declared.connection.FromEnd.{FromEnd}
use Rattle.plan_file.specs.declared.connection.FromEnd.TheVariants as from_end
use Rattle.plan_file.specs.declared.connection.ToEnd.{ToEnd}
use Rattle.plan_file.specs.declared.connection.ToEnd.TheVariants as to_end
use Rattle.plan_file.specs.declared.plan.Plan.{Plan}
use Rattle.network_laws.specs.Networks.{FibreEnds, Network, IsNetwork}
use Rattle.network_laws.specs.Routes.{Leg, IsLeg, IsJoined, IsRoute, last_leg}
use Rattle.network_laws.specs.Ways.{GoesOn}
use Rattle.network_laws.proofs.Routes.{one_way_back}
use Rattle.network_ways.specs.Tracing.{same_kind, same_slots, meets, goes_on, first_entry, entry_of, by_fibre, or_else}
use Rattle.network_ways.specs.Tracing.{before_by, before, Way, or_on, trace, IsFirst, FindsTheOneBefore, FindsWays, FindsEachWay}

-- ---- tests

kind_is : (k l : LineKind) → same_kind k l ≡ true → k ≡ l
kind_is Otu2 Otu2 e = refl
kind_is Otu3 Otu3 e = refl
kind_is Otu2 Otu3 e = absurd (cc)
kind_is Otu3 Otu2 e = absurd (cc)

kind_self : (k : LineKind) → same_kind k k ≡ true
kind_self Otu2 = refl
kind_self Otu3 = refl

list_is : (xs ys : List ℕ) → bytes_eq xs ys ≡ true → xs ≡ ys
list_is xs ys e = (bytes_eq-Decides xs ys).0 e

list_self : (xs : List ℕ) → bytes_eq xs xs ≡ true
list_self xs = (bytes_eq-Decides xs xs).1 refl

slots_are : (one other : LineSlots) → same_slots one other ≡ true → one ≡ other
slots_are one other e =
    let p = and_parts (same_kind one.kind other.kind) (bytes_eq one.list other.list) e in
    ap (λ k. record { kind = k; list = one.list }) (kind_is one.kind other.kind p.0)
    ∙ ap (λ l. record { kind = other.kind; list = l }) (list_is one.list other.list p.1)

slots_self : (slots : LineSlots) → same_slots slots slots ≡ true
slots_self slots = and_from (same_kind slots.kind slots.kind) (bytes_eq slots.list slots.list) (kind_self slots.kind) (list_self slots.list)

-- two ends meet exactly where they are on the same slots, by one port
record Meeting (to : ToEnd) (from : FromEnd) (b c : ℕ) : Type 0 where
  port : ℕ
  slots : LineSlots
  puts : to ≡ to_end.Line b port slots
  takes : from ≡ from_end.Line c port slots

meeting : (to : ToEnd) (from : FromEnd) (b c : ℕ) → meets to from b c ≡ true → Meeting to from b c
meeting (to_end.Line line port slots) (from_end.Line other number others) b c e =
    let p = and_parts ((line == b) && (other == c)) ((port == number) && same_slots slots others) e in
    let q = and_parts (line == b) (other == c) p.0 in
    let r = and_parts (port == number) (same_slots slots others) p.1 in
    record {
      port = port;
      slots = slots;
      puts = ap (λ l. to_end.Line l port slots) (eqb-true line b q.0);
      takes = ap (λ l. from_end.Line l number others) (eqb-true other c q.1) ∙ ap (λ n. from_end.Line c n others) (sym (eqb-true port number r.0))
          ∙ ap (λ s. from_end.Line c port s) (sym (slots_are slots others r.1));
    }
meeting (to_end.Line line port slots) (from_end.Client n) b c e = absurd (cc)
meeting (to_end.Line line port slots) (from_end.Signal signal) b c e = absurd (cc)
meeting (to_end.Client n) from b c e = absurd (cc)

meets_so : (b c port : ℕ) (slots : LineSlots) → meets (to_end.Line b port slots) (from_end.Line c port slots) b c ≡ true
meets_so b c port slots =
    and_from ((b == b) && (c == c)) ((port == port) && same_slots slots slots) (and_from (b == b) (c == c) (eq-eqb b b refl) (eq-eqb c c refl))
    (and_from (port == port) (same_slots slots slots) (eq-eqb port port refl) (slots_self slots))

-- it goes on, by some port and slots
pub record Going (x y : Connection) (b c : ℕ) : Type 0 where
  pub port : ℕ
  pub slots : LineSlots
  pub goes : GoesOn x y b c port slots

pub going : (x y : Connection) (b c : ℕ) → goes_on x y b c ≡ true → Going x y b c
going x y b c e =
    let p = and_parts (meets x.to y.from b c) (nat_le x.start y.start && nat_le y.stop x.stop) e in
    let q = and_parts (nat_le x.start y.start) (nat_le y.stop x.stop) p.1 in
    let m = meeting x.to y.from b c p.0 in
    record {
      port = m.port;
      slots = m.slots;
      goes = record
          { puts = m.puts; takes = m.takes; start = leb-true x.start y.start q.0; stop = leb-true y.stop x.stop q.1 };
    }

pub goes_so : (x y : Connection) (b c port : ℕ) (slots : LineSlots) → GoesOn x y b c port slots → goes_on x y b c ≡ true
goes_so x y b c port slots goes =
    let m : meets x.to y.from b c ≡ true = ap (λ to. meets to y.from b c) goes.puts ∙ ap (λ from. meets (to_end.Line b port slots) from b c) goes.takes
    ∙ meets_so b c port slots in
    and_from (meets x.to y.from b c) (nat_le x.start y.start && nat_le y.stop x.stop) m
    (and_from (nat_le x.start y.start) (nat_le y.stop x.stop) (le-leb x.start y.start goes.start) (le-leb y.stop x.stop goes.stop))

-- ---- the first entry that passes a test

some_is : {A : Type 0} (a b : A) → Some a ≡ Some b → a ≡ b
some_is {A} a b e = cc

pub next_in : {A : Type 0} (y : A) (ys : List A) (x : A) → Contains ys x → Contains (y ∷ ys) x
next_in {A} y ys x has = (suc has.0, omega (arith, has.1), has.2)

entry_found : (test : Connection → Bool) (xs : List Connection) (x : Connection) → first_entry test xs ≡ Some x → Contains xs x × (test x ≡ true)
unfolding first_entry
entry_found test [] x e = absurd (cc)
entry_found test (y ∷ ys) x e = go (test y) refl (entry_found test ys x)
  where
    go : (b : Bool) → test y ≡ b → (first_entry test ys ≡ Some x → Contains ys x × (test x ≡ true)) → Contains (y ∷ ys) x × (test x ≡ true)
    go true t rest =
        let same : y ≡ x = some_is y x (sym (ap (λ c. if c then Some y else first_entry test ys) t) ∙ e) in
        subst (λ z. Contains (y ∷ ys) z × (test z ≡ true)) same ((0, omega arith, refl), t)
    go false t rest =
        let later = rest (sym (ap (λ c. if c then Some y else first_entry test ys) t) ∙ e) in
        (next_in y ys x later.0, later.1)

entry_missed : (test : Connection → Bool) (xs : List Connection) (x : Connection) (i : ℕ) → first_entry test xs ≡ None → i < length xs → x ≡ get_or xs i x
    → test x ≡ true → ⊥
unfolding first_entry
entry_missed test [] x i e less at passes = absurd (omega arith)
entry_missed test (y ∷ ys) x i e less at passes = go (test y) refl i less at (λ k. entry_missed test ys x k)
  where
    go : (b : Bool) → test y ≡ b → (k : ℕ) → k < length (y ∷ ys) → x ≡ get_or (y ∷ ys) k x
        → ((j : ℕ) → first_entry test ys ≡ None → j < length ys → x ≡ get_or ys j x → test x ≡ true → ⊥) → ⊥
    go true t k l h rest = (let some : Some y ≡ None = sym (ap (λ c. if c then Some y else first_entry test ys) t) ∙ e in absurd (cc))
    go false t zero l h rest = (let both : false ≡ true = sym t ∙ ap test (sym h) ∙ passes in absurd (cc))
    go false t (suc k) l h rest = rest k (sym (ap (λ c. if c then Some y else first_entry test ys) t) ∙ e) (omega arith) h passes

-- ---- by a fibre

leg_of : FibreEnds → Connection → Leg
leg_of f x = record { node = f.here; x = x }

-- what is found by a fibre
record ByFibre (network : Network) (next : Leg) (f : FibreEnds) (here : Leg) : Type 0 where
  is : IsLeg network here
  going : Going here.x next.x f.out f.into
  node : here.node ≡ f.here
  there : f.there ≡ next.node

in_plan : (network : Network) (next : Leg) (f : FibreEnds) (here : Leg) (at : Option Plan) → slice_get network.plans f.here ≡ at → f.there ≡ next.node
    → option_map (λ x. record { node = f.here; x = x }) (entry_of at (λ x. goes_on x next.x f.out f.into)) ≡ Some here → ByFibre network next f here
in_plan network next f here None known there e = absurd (cc)
in_plan network next f here (Some plan) known there e = go (first_entry (λ x. goes_on x next.x f.out f.into) plan.connections) refl e
  where
    go : (o : Option Connection) → first_entry (λ x. goes_on x next.x f.out f.into) plan.connections ≡ o
        → option_map (λ x. record { node = f.here; x = x }) o ≡ Some here → ByFibre network next f here
    go None found m = absurd (cc)
    go (Some x) found m =
        let t = entry_found (λ x. goes_on x next.x f.out f.into) plan.connections x found in
        let same : ◌≡◌ {A = Leg} (record { node = f.here; x = x }) here = some_is (record { node = f.here; x = x }) here m in
        subst (ByFibre network next f) same
        (record { is = record { plan = plan; known = known; has = t.0 }; going = going x next.x f.out f.into t.1; node = refl; there = there })

fibre_found : (network : Network) (next : Leg) (f : FibreEnds) (here : Leg) → by_fibre network next f ≡ Some here → ByFibre network next f here
fibre_found network next f here e = go (f.there == next.node) refl e
  where
    go : (b : Bool) → (f.there == next.node) ≡ b
        → (if b then option_map (λ x. record { node = f.here; x = x })
        (entry_of (slice_get network.plans f.here) (λ x. goes_on x next.x f.out f.into)) else None) ≡ Some here → ByFibre network next f here
    go true t m = in_plan network next f here (slice_get network.plans f.here) refl (eqb-true f.there next.node t) m
    go false t m = absurd (cc)

map_none : (f : Connection → Leg) (o : Option Connection) → option_map f o ≡ None → o ≡ None
map_none f None e = refl
map_none f (Some x) e = absurd (cc)

none_in : (f : Connection → Leg) (test : Connection → Bool) (plan : Plan) (at : Option Plan) → at ≡ Some plan → option_map f (entry_of at test) ≡ None
    → first_entry test plan.connections ≡ None
none_in f test plan at known e = ap (λ a. entry_of a test) (sym known) ∙ map_none f (entry_of at test) e

fibre_missed : (network : Network) (next here : Leg) → IsLeg network here → (j : IsJoined network here next)
    → by_fibre network next (record { here = here.node; out = j.b; there = next.node; into = j.c }) ≡ None → ⊥
fibre_missed network next here is j e =
    let test : Connection → Bool = λ x. goes_on x next.x j.b j.c in
    let found = option_map (λ x. record { node = here.node; x = x }) (entry_of (slice_get network.plans here.node) test) in
    let missed : found ≡ None = sym (ap (λ b. if b then found else None) (eq-eqb next.node next.node refl)) ∙ e in
    entry_missed test is.plan.connections here.x is.has.0
    (none_in (λ x. record { node = here.node; x = x }) test is.plan (slice_get network.plans here.node) is.known missed) is.has.1 (sym is.has.2)
    (goes_so here.x next.x j.b j.c j.port j.slots j.goes)

-- ---- by all fibres

before_found : (network : Network) (next : Leg) (fs : List FibreEnds) (here : Leg) → before_by network next fs ≡ Some here → (f : FibreEnds) × Contains fs f
    × (by_fibre network next f ≡ Some here)
unfolding before_by
before_found network next [] here e = absurd (cc)
before_found network next (f ∷ fs) here e = go (by_fibre network next f) refl (before_found network next fs here)
  where
    go : (o : Option Leg) → by_fibre network next f ≡ o
        → (before_by network next fs ≡ Some here → (g : FibreEnds) × Contains fs g × (by_fibre network next g ≡ Some here))
        → (g : FibreEnds) × Contains (f ∷ fs) g × (by_fibre network next g ≡ Some here)
    go (Some s) t rest = (f, (0, omega arith, refl), t ∙ sym (ap (λ o. or_else o (before_by network next fs)) t) ∙ e)
    go None t rest =
        let later = rest (sym (ap (λ o. or_else o (before_by network next fs)) t) ∙ e) in
        (later.0, next_in f fs later.0 later.1, later.2)

before_missed : (network : Network) (next : Leg) (fs : List FibreEnds) (f : FibreEnds) (i : ℕ) → before_by network next fs ≡ None → i < length fs
    → f ≡ get_or fs i f → by_fibre network next f ≡ None
unfolding before_by
before_missed network next [] f i e less at = absurd (omega arith)
before_missed network next (g ∷ fs) f i e less at = go (by_fibre network next g) refl i less at (λ k. before_missed network next fs f k)
  where
    go : (o : Option Leg) → by_fibre network next g ≡ o → (k : ℕ) → k < length (g ∷ fs) → f ≡ get_or (g ∷ fs) k f
        → ((j : ℕ) → before_by network next fs ≡ None → j < length fs → f ≡ get_or fs j f → by_fibre network next f ≡ None) → by_fibre network next f ≡ None
    go (Some s) t k l h rest = absurd (let some : Some s ≡ None = sym (ap (λ o. or_else o (before_by network next fs)) t) ∙ e in cc)
    go None t zero l h rest = ap (by_fibre network next) h ∙ t
    go None t (suc k) l h rest = rest k (sym (ap (λ o. or_else o (before_by network next fs)) t) ∙ e) (omega arith) h

joined_by : (network : Network) (next here : Leg) (f : FibreEnds) → Contains network.fibres f → ByFibre network next f here → IsJoined network here next
joined_by network next here f has r =
    let same : ◌≡◌ {A = FibreEnds} f (record { here = here.node; out = f.out; there = next.node; into = f.into }) =
    ap (λ n. record { here = n; out = f.out; there = f.there; into = f.into }) (sym r.node)
    ∙ ap (λ t. record { here = here.node; out = f.out; there = t; into = f.into }) r.there in
    record { b = f.out; c = f.into; port = r.going.port; slots = r.going.slots; goes = r.going.goes; fibre = subst (Contains network.fibres) same has }

pub is_before : FindsTheOneBefore
is_before network next = record {
  some = λ here e.
      let t = before_found network next network.fibres here e in
      let r = fibre_found network next t.0 here t.2 in
      (r.is, joined_by network next here t.0 t.1 r);
  none = λ e here is joined.
      fibre_missed network next here is joined
      (before_missed network next network.fibres (record { here = here.node; out = joined.b; there = next.node; into = joined.c }) joined.fibre.0 e
      joined.fibre.1 (sym joined.fibre.2));
}

-- in a network it is the only one
before_is : (network : Network) (here next : Leg) → IsNetwork network → IsLeg network here → IsLeg network next → IsJoined network here next
    → before network next ≡ Some here
before_is network here next net is next_is joined = go (before network next) refl
  where
    go : (o : Option Leg) → before network next ≡ o → before network next ≡ Some here
    go None e = absurd ((is_before network next).none e here is joined)
    go (Some s) e =
        let t = (is_before network next).some s e in
        e ∙ ap Some (one_way_back network s here next net t.0 is next_is t.1 joined)

none_before : (network : Network) (first : Leg) → IsFirst network first → before network first ≡ None
none_before network first is = go (before network first) refl
  where
    go : (o : Option Leg) → before network first ≡ o → before network first ≡ None
    go None e = e
    go (Some s) e = absurd (let t = (is_before network first).some s e in is s t.0 t.1)

-- ---- the way back

way_is : (one other : Way) → Some one ≡ Some other → one ≡ other
way_is one other e = cc

-- what a way that was found is
record Found (network : Network) (end : Leg) (way : Way) : Type 0 where
  route : IsRoute network way.first way.rest
  last : last_leg way.first way.rest ≡ end
  first : IsFirst network way.first

found_from : (network : Network) (most : ℕ) (leg : Leg) (legs : List Leg) (way : Way) → IsRoute network leg legs → trace network most leg legs ≡ Some way
    → Found network (last_leg leg legs) way
unfolding trace
found_from network zero leg legs way route e = absurd (cc)
found_from network (suc most) leg legs way route e = go (before network leg) refl (λ here. found_from network most here (leg ∷ legs) way)
  where
    go : (o : Option Leg) → before network leg ≡ o
        → ((here : Leg) → IsRoute network here (leg ∷ legs) → trace network most here (leg ∷ legs) ≡ Some way → Found network (last_leg leg legs) way)
        → Found network (last_leg leg legs) way
    go None t rest =
        let here : ◌≡◌ {A = Way} (record { first = leg; rest = legs }) way = way_is (record { first = leg; rest = legs }) way
        (sym (ap (λ o. or_on o (Some (record { first = leg; rest = legs })) (λ here. trace network most here (leg ∷ legs))) t) ∙ e) in
        subst (Found network (last_leg leg legs)) here (record { route = route; last = refl; first = (is_before network leg).none t })
    go (Some here) t rest =
        let b = (is_before network leg).some here t in
        rest here (b.0, b.1, route) (sym (ap (λ o. or_on o (Some (record { first = leg; rest = legs })) (λ here. trace network most here (leg ∷ legs))) t) ∙ e)

pub finds_ways : FindsWays
finds_ways network most leg way is e =
    let f = found_from network most leg [] way is e in
    (f.route, f.last, f.first)

-- ---- each way

first_of : (network : Network) (first : Leg) (rest : List Leg) → IsRoute network first rest → IsLeg network first
first_of network first [] route = route
first_of network first (next ∷ rest) route = route.0

one_back : (network : Network) (m : ℕ) (first next : Leg) (legs : List Leg) → before network next ≡ Some first
    → trace network (suc m) next legs ≡ trace network m first (next ∷ legs)
unfolding trace
one_back network m first next legs e = ap (λ o. or_on o (Some (record { first = next; rest = legs })) (λ here. trace network m here (next ∷ legs))) e

at_first : (network : Network) (m : ℕ) (first : Leg) (legs : List Leg) → before network first ≡ None
    → trace network (suc m) first legs ≡ Some (record { first = first; rest = legs })
unfolding trace
at_first network m first legs e = ap (λ o. or_on o (Some (record { first = first; rest = legs })) (λ here. trace network m here (first ∷ legs))) e

all_back : (network : Network) → IsNetwork network → (first : Leg) (rest legs : List Leg) (m : ℕ) → IsRoute network first rest
    → trace network (length rest + m) (last_leg first rest) legs ≡ trace network m first (rest ++ legs)
all_back network net first [] legs m route = ap (λ k. trace network k first legs) (let e : 0 + m ≡ m = omega arith in e)
all_back network net first (next ∷ rest) legs m route =
    ap (λ k. trace network k (last_leg next rest) legs) (let e : length (next ∷ rest) + m ≡ length rest + suc m = omega arith in e)
    ∙ all_back network net next rest legs (suc m) route.2
    ∙ one_back network m first next (rest ++ legs) (before_is network first next net route.0 (first_of network next rest route.2) route.1)

pub finds_each : FindsEachWay
finds_each network most first rest net route is few =
    let k = most - length rest - 1 in
    let enough : most ≡ length rest + suc k = omega arith in
    ap (λ n. trace network n (last_leg first rest) []) enough ∙ all_back network net first rest [] (suc k) route
    ∙ ap (trace network (suc k) first) (append-nil rest) ∙ at_first network k first rest (none_before network first is)
