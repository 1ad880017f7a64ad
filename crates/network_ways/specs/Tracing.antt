-- Believed: how the ways of a network are found: from an end back, entry by entry, over the one fibre that leads to
-- each.
use Rattle.std.specs.Prelude.{◌≡◌, ◌<◌, ◌==◌, ◌&&◌, if◌then◌else◌, nat_le, ℕ, zero, suc, Bool, true, false, List, [], ◌∷◌, Option, None, Some, option_map, length, slice_get}
use Rattle.std.specs.Str.{bytes_eq}
use Rattle.otn_base.specs.LineSlots.{LineSlots}
use Rattle.otn_base.specs.declared.line_kind.LineKind.{LineKind}
use Rattle.otn_base.specs.declared.line_kind.LineKind.TheVariants.{Otu2, Otu3}
use Rattle.plan_file.specs.declared.connection.Connection.{Connection}
use Rattle.plan_file.specs.declared.connection.FromEnd.{FromEnd}
use Rattle.plan_file.specs.declared.connection.FromEnd.TheVariants as from_end
use Rattle.plan_file.specs.declared.connection.ToEnd.{ToEnd}
use Rattle.plan_file.specs.declared.connection.ToEnd.TheVariants as to_end
use Rattle.plan_file.specs.declared.plan.Plan.{Plan}
use Rattle.network_laws.specs.Networks.{FibreEnds, Network, IsNetwork}
use Rattle.network_laws.specs.Routes.{Leg, IsLeg, IsJoined, IsRoute, last_leg}

-- ---- tests

abbrev pub same_kind : LineKind → LineKind → Bool
same_kind Otu2 Otu2 = true
same_kind Otu3 Otu3 = true
same_kind Otu2 Otu3 = false
same_kind Otu3 Otu2 = false

abbrev pub same_slots : LineSlots → LineSlots → Bool
same_slots one other = same_kind one.kind other.kind && bytes_eq one.list other.list

-- what goes to an end on line b is what comes from an end on line c
abbrev pub meets : ToEnd → FromEnd → (b c : ℕ) → Bool
meets (to_end.Line line port slots) (from_end.Line other number others) b c =
    ((line == b) && (other == c)) && ((port == number) && same_slots slots others)
meets (to_end.Line line port slots) (from_end.Client n) b c = false
meets (to_end.Line line port slots) (from_end.Signal signal) b c = false
meets (to_end.Client n) from b c = false

-- an entry goes on in another, by these lines
abbrev pub goes_on : (x y : Connection) → (b c : ℕ) → Bool
goes_on x y b c = meets x.to y.from b c && (nat_le x.start y.start && nat_le y.stop x.stop)

-- ---- the entry before

unfoldable pub first_entry : (test : Connection → Bool) → List Connection → Option Connection
first_entry test [] = None
first_entry test (x ∷ xs) = if test x then Some x else first_entry test xs

abbrev pub entry_of : Option Plan → (test : Connection → Bool) → Option Connection
entry_of None test = None
entry_of (Some plan) test = first_entry test plan.connections

-- the entry that goes on in `next` by this fibre, if there is one
abbrev pub by_fibre : Network → (next : Leg) → FibreEnds → Option Leg
by_fibre network next f = if f.there == next.node
    then option_map (λ x. record { node = f.here; x = x }) (entry_of (slice_get network.plans f.here)
    (λ x. goes_on x next.x f.out f.into)) else None

abbrev pub or_else : Option Leg → Option Leg → Option Leg
or_else (Some leg) other = Some leg
or_else None other = other

unfoldable pub before_by : Network → (next : Leg) → List FibreEnds → Option Leg
before_by network next [] = None
before_by network next (f ∷ fs) = or_else (by_fibre network next f) (before_by network next fs)

abbrev pub before : Network → (next : Leg) → Option Leg
before network next = before_by network next network.fibres

-- ---- the way to an end

-- a way: its first entry, and those that follow
pub record Way : Type 0 where
  pub first : Leg
  pub rest : List Leg

abbrev pub or_on : Option Leg → (begun : Option Way) → (on : Leg → Option Way) → Option Way
or_on None begun on = begun
or_on (Some here) begun on = on here

-- back from an entry, behind which these are, by so many steps at most: none where the way has no beginning by then
unfoldable pub trace : Network → (most : ℕ) → Leg → List Leg → Option Way
trace network zero leg legs = None
trace network (suc most) leg legs = or_on (before network leg) (Some (record { first = leg; rest = legs }))
    (λ here. trace network most here (leg ∷ legs))

-- ---- what is found

-- no entry goes on in it
abbrev pub IsFirst : Network → Leg → Type 0
IsFirst network leg = (here : Leg) → IsLeg network here → IsJoined network here leg → ⊥

-- The entry before one is the one that goes on in it; and there is none exactly where none does.
pub record IsBefore (network : Network) (next : Leg) (result : Option Leg) : Type 0 where
  pub some : (here : Leg) → result ≡ Some here → IsLeg network here × IsJoined network here next
  pub none : result ≡ None → IsFirst network next

abbrev pub FindsTheOneBefore : Type 0
FindsTheOneBefore = (network : Network) (next : Leg) → IsBefore network next (before network next)

-- What is found from an end is a way of the network that begins where it says and ends there.
abbrev pub FindsWays : Type 0
FindsWays = (network : Network) (most : ℕ) (leg : Leg) (way : Way) → IsLeg network leg
    → trace network most leg [] ≡ Some way
    → IsRoute network way.first way.rest × (last_leg way.first way.rest ≡ leg) × IsFirst network way.first

-- Every way of a network that begins with its first entry is found from its end, in as many steps as it has entries.
abbrev pub FindsEachWay : Type 0
FindsEachWay = (network : Network) (most : ℕ) (first : Leg) (rest : List Leg) → IsNetwork network
    → IsRoute network first rest → IsFirst network first → length rest < most
    → trace network most (last_leg first rest) [] ≡ Some (record { first = first; rest = rest })
