-- The steps of loops that look for the entry before one, and go back along a way.
use Rattle.std.proofs.Common.{◌≡◌, ◌<◌, ◌≤◌, ◌+◌, ◌-◌, ◌∙◌, ℕ, suc, Bool, true, false, List, [], ◌∷◌}
use Rattle.std.proofs.Common.{◌++◌, Option, None, Some, length, drop, get_or, slice_get, refl, sym, ap, arith, append-nil}
use Rattle.std.specs.Prelude.{if◌then◌else◌, option_map, reverse}
use Rattle.std.proofs.lemmas.List.{at_drop_all, reverse-append}
use Rattle.std.proofs.lemmas.Option.{same_Some}
use Rattle.plan_table.proofs.Steps.{step}
use Rattle.plan_file.specs.declared.connection.Connection.{Connection}
use Rattle.network_laws.specs.Networks.{FibreEnds, Network}
use Rattle.network_laws.specs.Routes.{Leg, last_leg}
use Rattle.network_ways.specs.Tracing.{before, before_by, by_fibre, first_entry, or_else, or_on, trace, Way}
use Rattle.network_view.specs.Entries.{Named}
use Rattle.network_view.specs.NetworkText.{numbered, way_lines}
use Rattle.network_view.specs.Steps.Traced.{entries_of, way_lines_of}
use Rattle.network_view.specs.Troubles.{is_taken}
use Rattle.network_view.specs.Ways.{as_list, way_at}

-- ---- the first entry that passes a test

pub first_go : (test : Connection → Bool) (xs : List Connection) (i : ℕ) (x : Connection) → slice_get xs i ≡ Some x → test x ≡ false
    → first_entry test (drop i xs) ≡ first_entry test (drop (i + 1) xs)
unfolding first_entry
first_go test xs i x known fails = step (first_entry test) xs i x known ∙ ap (λ b. if b then Some x else first_entry test (drop (i + 1) xs)) fails

pub first_stop : (test : Connection → Bool) (xs : List Connection) (i : ℕ) (x : Connection) → slice_get xs i ≡ Some x → test x ≡ true
    → first_entry test (drop i xs) ≡ Some x
unfolding first_entry
first_stop test xs i x known holds = step (first_entry test) xs i x known ∙ ap (λ b. if b then Some x else first_entry test (drop (i + 1) xs)) holds

pub first_done : (test : Connection → Bool) (xs : List Connection) (i : ℕ) → length xs ≤ i → first_entry test (drop i xs) ≡ None
unfolding first_entry
first_done test xs i end = at_drop_all (first_entry test) xs i end

pub ruleset firsts = (first_go, first_stop, first_done)

-- ---- the entry before one, fibre by fibre

pub before_go : (network : Network) (next : Leg) (fs : List FibreEnds) (i : ℕ) (f : FibreEnds) → slice_get fs i ≡ Some f → by_fibre network next f ≡ None
    → before_by network next (drop i fs) ≡ before_by network next (drop (i + 1) fs)
unfolding before_by
before_go network next fs i f known none = step (before_by network next) fs i f known ∙ ap (λ o. or_else o (before_by network next (drop (i + 1) fs))) none

pub before_stop : (network : Network) (next here : Leg) (fs : List FibreEnds) (i : ℕ) (f : FibreEnds) → slice_get fs i ≡ Some f
    → by_fibre network next f ≡ Some here
    → before_by network next (drop i fs) ≡ Some here
unfolding before_by
before_stop network next here fs i f known some =
    step (before_by network next) fs i f known ∙ ap (λ o. or_else o (before_by network next (drop (i + 1) fs))) some

pub before_done : (network : Network) (next : Leg) (fs : List FibreEnds) (i : ℕ) → length fs ≤ i → before_by network next (drop i fs) ≡ None
unfolding before_by
before_done network next fs i end = at_drop_all (before_by network next) fs i end

pub ruleset befores = (before_go, before_stop, before_done)

-- ---- back along a way

pub back_go : (network : Network) (most k : ℕ) (leg here : Leg) (back : List Leg) → k < most → before network leg ≡ Some here
    → trace network (most - k) leg (reverse back) ≡ trace network (most - (k + 1)) here (reverse (back ++ leg ∷ []))
unfolding trace
back_go network most k leg here back less some =
    ap (λ n. trace network n leg (reverse back)) (let e : most - k ≡ suc (most - (k + 1)) = omega arith in e)
    ∙ ap (λ o. or_on o (Some (record { first = leg; rest = reverse back })) (λ there. trace network (most - (k + 1)) there (leg ∷ reverse back))) some
    ∙ ap (trace network (most - (k + 1)) here) (sym (reverse-append back (leg ∷ [])))

pub back_stop : (network : Network) (most k : ℕ) (leg : Leg) (back : List Leg) → k < most → before network leg ≡ None
    → option_map entries_of (trace network (most - k) leg (reverse back)) ≡ Some (leg ∷ reverse back)
unfolding trace
back_stop network most k leg back less none =
    ap (λ n. option_map entries_of (trace network n leg (reverse back))) (let e : most - k ≡ suc (most - (k + 1)) = omega arith in e)
    ∙ ap (λ o. option_map entries_of (or_on o (Some (record { first = leg; rest = reverse back }))
    (λ there. trace network (most - (k + 1)) there (leg ∷ reverse back)))) none

pub back_done : (network : Network) (most k : ℕ) (leg : Leg) (legs : List Leg) → most ≤ k → trace network (most - k) leg legs ≡ None
unfolding trace
back_done network most k leg legs over = ap (λ n. trace network n leg legs) (let e : most - k ≡ 0 = omega arith in e)

pub back_start : (network : Network) (most : ℕ) (leg : Leg) → trace network most leg [] ≡ trace network (most - 0) leg (reverse [])
back_start network most leg = ap (λ n. trace network n leg []) (let e : most ≡ most - 0 = omega arith in e)

-- a way as the list of its entries, turned round
pub turned : (leg : Leg) (back : List Leg) → reverse (back ++ leg ∷ []) ≡ leg ∷ reverse back
turned leg back = reverse-append back (leg ∷ [])

pub ruleset backs = (back_go, back_stop, back_done, back_start)

-- ---- the last of a way

pub last_at : (first : Leg) (rest : List Leg) (d : Leg) → 0 < length rest → get_or rest (length rest - 1) d ≡ last_leg first rest
last_at first [] d some = absurd (omega arith)
last_at first (x ∷ []) d some = refl
last_at first (x ∷ y ∷ rest) d some =
    ap (λ n. get_or (x ∷ y ∷ rest) n d) (let e : length (x ∷ y ∷ rest) - 1 ≡ suc (length (y ∷ rest) - 1) = omega arith in e)
    ∙ last_at x (y ∷ rest) d (omega arith)

-- ---- the way that ends at an entry

pub way_taken : (network : Network) (most : ℕ) (leg : Leg) → is_taken network leg ≡ true → way_at network most leg ≡ []
unfolding way_at
way_taken network most leg taken = ap (λ b. if b then [] else as_list (trace network most leg [])) taken

-- it is what is found back from it, where the entry goes on in none
pub way_left : (network : Network) (most : ℕ) (leg : Leg) → is_taken network leg ≡ false → way_at network most leg ≡ as_list (trace network most leg [])
unfolding way_at
way_left network most leg left = ap (λ b. if b then [] else as_list (trace network most leg [])) left

pub way_round : (network : Network) (most : ℕ) (leg : Leg) → is_taken network leg ≡ false → None ≡ option_map entries_of (trace network most leg [])
    → way_at network most leg ≡ []
way_round network most leg left e = way_left network most leg left ∙ go (trace network most leg []) e
  where
    go : (o : Option Way) → None ≡ option_map entries_of o → as_list o ≡ []
    go None e = refl
    go (Some way) e = absurd (cc)

-- its lines, where it begins
pub record ToldBy (named : Named) (most number : ℕ) (leg : Leg) (legs : List Leg) : Type 0 where
  pub lines : numbered (way_lines named) number (way_at named.network most leg) ≡ way_lines_of named number legs
  pub one : length (way_at named.network most leg) ≡ 1

one_way : (named : Named) (number : ℕ) (way : Way) → numbered (way_lines named) number (way ∷ []) ≡ way_lines_of named number (entries_of way)
unfolding numbered
one_way named number way = append-nil (way_lines named number way)

pub told_by : (named : Named) (most number : ℕ) (leg : Leg) (legs : List Leg) → is_taken named.network leg ≡ false
    → Some legs ≡ option_map entries_of (trace named.network most leg []) → ToldBy named most number leg legs
told_by named most number leg legs left e = go (trace named.network most leg []) refl e
  where
    go : (o : Option Way) → trace named.network most leg [] ≡ o → Some legs ≡ option_map entries_of o → ToldBy named most number leg legs
    go None t e = absurd (cc)
    go (Some way) t e =
        let at : way_at named.network most leg ≡ way ∷ [] = way_left named.network most leg left ∙ ap as_list t in
        record {
          lines =
              ap (numbered (way_lines named) number) at ∙ one_way named number way ∙ ap (way_lines_of named number) (sym (same_Some legs (entries_of way) e));
          one = ap length at;
        }
