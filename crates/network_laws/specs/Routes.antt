-- Believed: the ways of a network's customers, by its plans and fibres; and what its runs make of them.
use Rattle.std.specs.Prelude.{◌≡◌, ℕ, List, [], ◌∷◌, Some, slice_get}
use Rattle.std.specs.List.{Contains}
use Rattle.otn_base.specs.LineSlots.{LineSlots}
use Rattle.plan_file.specs.declared.connection.Connection.{Connection}
use Rattle.plan_file.specs.declared.plan.Plan.{Plan}
use Rattle.network_laws.specs.Networks.{FibreEnds, Network, IsNetwork, NetworkRun}
use Rattle.network_laws.specs.Ways.{Fibre, Hop, GoesOn, IsWay, IsWhole}

-- ---- routes

-- an entry of the plan of a node
pub record Leg : Type 0 where
  pub node : ℕ
  pub x : Connection

pub record IsLeg (network : Network) (leg : Leg) : Type 0 where
  pub plan : Plan
  pub known : slice_get network.plans leg.node ≡ Some plan
  pub has : Contains plan.connections leg.x

-- a fibre of the network leads from one to the next, on which the entry goes on
pub record IsJoined (network : Network) (here next : Leg) : Type 0 where
  pub b : ℕ
  pub c : ℕ
  pub port : ℕ
  pub slots : LineSlots
  pub goes : GoesOn here.x next.x b c port slots
  pub fibre : Contains network.fibres (record { here = here.node; out = b; there = next.node; into = c })

-- that fibre
abbrev pub fibre_of : {network : Network} → {here next : Leg} → IsJoined network here next → FibreEnds
fibre_of {network} {here} {next} joined = record {
  here = here.node;
  out = joined.b;
  there = next.node;
  into = joined.c;
}

-- a customer's way through a network, from its first entry by those that follow; and the last of them
abbrev pub IsRoute : Network → Leg → List Leg → Type 0
IsRoute network leg [] = IsLeg network leg
IsRoute network leg (next ∷ legs) = IsLeg network leg × IsJoined network leg next × IsRoute network next legs

abbrev pub last_leg : Leg → List Leg → Leg
last_leg leg [] = leg
last_leg leg (next ∷ legs) = last_leg next legs

-- Of a network no two entries go on in the same one. So an entry at which a way ends is at the end of one way alone,
-- and no customer's bytes are put where another's are taken.
abbrev pub IsOneWayBack : Type 0
IsOneWayBack = (network : Network) (here other next : Leg) → IsNetwork network → IsLeg network here
    → IsLeg network other → IsLeg network next → IsJoined network here next → IsJoined network other next
    → here ≡ other

-- ---- what the runs of a network make of a route

abbrev pub hop_of : {network : Network} → NetworkRun network → Leg → Hop
hop_of run leg = record { run = run.run leg.node; x = leg.x }

abbrev pub hops_of : {network : Network} → NetworkRun network → List Leg → List Hop
hops_of run [] = []
hops_of run (leg ∷ legs) = hop_of run leg ∷ hops_of run legs

-- Each fibre of a route brought what was written to it, or a part of that from the front. Of all other fibres of the
-- network nothing is said.
abbrev pub Brought : {network : Network} → (run : NetworkRun network) → (leg : Leg) → (legs : List Leg)
    → IsRoute network leg legs → Type 0
Brought run leg [] route = Unit {0}
Brought run leg (next ∷ legs) route = Fibre (run.run leg.node) (run.run next.node) route.1.b route.1.c
    × Brought run next legs route.2

-- each of them is whole
abbrev pub BroughtAll : {network : Network} → (run : NetworkRun network) → (leg : Leg) → (legs : List Leg)
    → (route : IsRoute network leg legs) → Brought run leg legs route → Type 0
BroughtAll run leg [] route brought = Unit {0}
BroughtAll run leg (next ∷ legs) route brought = IsWhole (run.run leg.node) route.1.b brought.0.cut
    × BroughtAll run next legs route.2 brought.1

-- Each run of a network has the ways of the network whose fibres brought something of what was written to them.
abbrev pub HasItsWays : Type 0
HasItsWays = (network : Network) (run : NetworkRun network) (leg : Leg) (legs : List Leg)
    (route : IsRoute network leg legs) → Brought run leg legs route → IsWay (hop_of run leg) (hops_of run legs)
