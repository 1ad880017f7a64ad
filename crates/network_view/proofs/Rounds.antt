-- A way has no entry twice, so it has no more entries than the network.
use Rattle.std.proofs.Common.{◌≡◌, ◌<◌, ◌≤◌, ◌∙◌, ◌⊎◌, inl, inr, suc, List, [], ◌∷◌, length, refl, sym, ap, subst, arith}
use Rattle.std.specs.List.{Contains}
use Rattle.network_laws.specs.Networks.{Network, IsNetwork}
use Rattle.network_laws.specs.Routes.{Leg, IsLeg, IsJoined, IsRoute}
use Rattle.network_laws.proofs.Routes.{one_way_back}
use Rattle.network_ways.specs.Tracing.{IsFirst}
use Rattle.network_view.proofs.Contained.{cases_in, first_in, in_none, later_in}

-- ---- lists in which nothing stands twice

abbrev Apart : {A : Type 0} → List A → Type 0
Apart [] = Unit {0}
Apart (x ∷ xs) = (Contains xs x → ⊥) × Apart xs

-- a list but for one of its items
record Without {A : Type 0} (ys : List A) (x : A) : Type 0 where
  rest : List A
  count : length ys ≡ suc (length rest)
  others : (y : A) → Contains ys y → (x ≡ y) ⊎ Contains rest y

without : {A : Type 0} (ys : List A) (x : A) → Contains ys x → Without ys x
without [] x has = absurd (in_none x has)
without {A} (z ∷ ys) x has = go (cases_in z ys x has) (without ys x)
  where
    here : z ≡ x → (y : A) → (z ≡ y) ⊎ Contains ys y → (x ≡ y) ⊎ Contains ys y
    here is y (inl same) = inl (sym is ∙ same)
    here is y (inr more) = inr more

    after : (rest : List A) (y : A) → (x ≡ y) ⊎ Contains rest y → (x ≡ y) ⊎ Contains (z ∷ rest) y
    after rest y (inl same) = inl same
    after rest y (inr more) = inr (later_in z rest y more)

    beside : (t : Without ys x) (y : A) → (z ≡ y) ⊎ Contains ys y → (x ≡ y) ⊎ Contains (z ∷ t.rest) y
    beside t y (inl same) = inr (subst (Contains (z ∷ t.rest)) same (first_in z t.rest))
    beside t y (inr more) = after t.rest y (t.others y more)

    go : (z ≡ x) ⊎ Contains ys x → (Contains ys x → Without ys x) → Without (z ∷ ys) x
    go (inl is) again = record { rest = ys; count = refl; others = λ y within. here is y (cases_in z ys y within) }
    go (inr later) again =
        let t = again later in
        record { rest = z ∷ t.rest; count = ap suc t.count; others = λ y within. beside t y (cases_in z ys y within) }

-- a list in which nothing stands twice is no longer than one that has all its items
fits : {A : Type 0} (xs ys : List A) → Apart xs → ((x : A) → Contains xs x → Contains ys x) → length xs ≤ length ys
fits [] ys apart within = omega arith
fits {A} (x ∷ xs) ys apart within =
    let t = without ys x (within x (first_in x xs)) in
    let rest = fits xs t.rest apart.1 (λ y has. other t y has (t.others y (within y (later_in x xs y has)))) in
    let count = t.count in
    omega arith
  where
    other : (t : Without ys x) (y : A) → Contains xs y → (x ≡ y) ⊎ Contains t.rest y → Contains t.rest y
    other t y has (inl is) = absurd (apart.0 (subst (Contains xs) (sym is) has))
    other t y has (inr more) = more

-- ---- ways

-- an entry of a way but its first, and the one before it
record Led (network : Network) (first : Leg) (rest : List Leg) (leg : Leg) : Type 0 where
  here : Leg
  has : Contains (first ∷ rest) here
  is : IsLeg network here
  joined : IsJoined network here leg

route_leg : (network : Network) (first : Leg) (rest : List Leg) → IsRoute network first rest → IsLeg network first
route_leg network first [] route = route
route_leg network first (next ∷ rest) route = route.0

led : (network : Network) (first : Leg) (rest : List Leg) (leg : Leg) → IsRoute network first rest → Contains rest leg → Led network first rest leg
led network first [] leg route has = absurd (in_none leg has)
led network first (next ∷ rest) leg route has = go (cases_in next rest leg has) (λ later. led network next rest leg route.2 later)
  where
    go : (next ≡ leg) ⊎ Contains rest leg → (Contains rest leg → Led network next rest leg) → Led network first (next ∷ rest) leg
    go (inl is) again = record { here = first; has = first_in first (next ∷ rest); is = route.0; joined = subst (IsJoined network first) is route.1 }
    go (inr later) again =
        let l = again later in
        record { here = l.here; has = later_in first (next ∷ rest) l.here l.has; is = l.is; joined = l.joined }

-- Where the first entry is none of the later ones, no entry is: the one before it would be twice on the way too.
apart_on : (network : Network) (first : Leg) (rest : List Leg) → IsNetwork network → IsRoute network first rest → (Contains rest first → ⊥)
    → Apart (first ∷ rest)
apart_on network first [] net route fresh = (fresh, tt)
apart_on network first (next ∷ rest) net route fresh = (fresh, apart_on network next rest net route.2 later)
  where
    later : Contains rest next → ⊥
    later has =
        let l = led network next rest next route.2 has in
        let same : l.here ≡ first = one_way_back network l.here first next net l.is route.0 (route_leg network next rest route.2) l.joined route.1 in
        fresh (subst (Contains (next ∷ rest)) same l.has)

-- each entry of a way is one of the network
each_leg : (network : Network) (here : Leg) (others : List Leg) → IsRoute network here others → (leg : Leg) → Contains (here ∷ others) leg → IsLeg network leg
each_leg network here [] route leg has = go (cases_in here [] leg has)
  where
    go : (here ≡ leg) ⊎ Contains [] leg → IsLeg network leg
    go (inl same) = subst (IsLeg network) same route
    go (inr more) = absurd (in_none leg more)
each_leg network here (next ∷ others) route leg has = go (cases_in here (next ∷ others) leg has) (λ more. each_leg network next others route.2 leg more)
  where
    go : (here ≡ leg) ⊎ Contains (next ∷ others) leg → (Contains (next ∷ others) leg → IsLeg network leg) → IsLeg network leg
    go (inl same) again = subst (IsLeg network) same route.0
    go (inr more) again = again more

-- a way from a first entry has no more entries than a list of all of them
pub way_fits : (network : Network) (first : Leg) (rest legs : List Leg) → IsNetwork network → IsRoute network first rest → IsFirst network first
    → ((leg : Leg) → IsLeg network leg → Contains legs leg) → length rest < length legs
way_fits network first rest legs net route begins all =
    let apart = apart_on network first rest net route (λ has. let l = led network first rest first route has in begins l.here l.is l.joined) in
    let fit = fits (first ∷ rest) legs apart (λ leg has. all leg (each_leg network first rest route leg has)) in
    omega arith
