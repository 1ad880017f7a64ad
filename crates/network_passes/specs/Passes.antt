-- Believed: a network over files that is run in passes: in each, every node is run once more, and reads of its fibres
-- what the pass before wrote. No order of the nodes is asked for, and fibres may lead round.
use Rattle.std.specs.Prelude.{◌≡◌, ◌<◌, ◌≤◌, ◌-◌, ◌*◌, ℕ, suc, List, [], ◌∷◌, Some, length, slice_get}
use Rattle.std.specs.List.{Contains}
use Rattle.otn_base.specs.LineSlots.{LineSlots}
use Rattle.packet_text.specs.PacketText.{hex_text}
use Rattle.odu_client.specs.ClientInput.{emitted_before}
use Rattle.plan_file.specs.declared.connection.Connection.{Connection}
use Rattle.plan_file.specs.declared.connection.FromEnd.TheVariants as from_end
use Rattle.plan_file.specs.declared.connection.ToEnd.TheVariants as to_end
use Rattle.plan_file.specs.declared.plan.Plan.{Plan}
use Rattle.device_model.specs.Numbers.{OutputBytes}
use Rattle.connection_laws.specs.Delivery.{AreOffered, whole_packets}
use Rattle.connection_laws.specs.TwoWorlds.{AgreeOnEnd}
use Rattle.run_laws.specs.RunsAlike.{World, IsWorld, LeftAlike, bytes_out, state_of_line, state_of_client}
use Rattle.run_laws.specs.RunsThrough.{LivedIn, read_of}
use Rattle.network_laws.specs.Networks.{Network}
use Rattle.network_laws.specs.Routes.{Leg, IsLeg, IsJoined, IsRoute, last_leg}

-- ---- passes

-- the run of each node in each pass, by the pass, from 0, and the node; with what its inputs may have been
pub record Passes (network : Network) : Type 0 where
  pub world : (k i : ℕ) → World
  pub carries : (k i : ℕ) (plan : Plan) → slice_get network.plans i ≡ Some plan
      → ((world k i).plan ≡ plan) × IsWorld (world k i)

-- what pass k wrote to the outputs of the node of an entry
abbrev pub written_in : {network : Network} → (passes : Passes network) → (k : ℕ) → (leg : Leg) → IsLeg network leg
    → OutputBytes
written_in passes k leg is = bytes_out (passes.world k leg.node) (passes.carries k leg.node is.plan is.known).1

-- Over the fibre by which an entry goes on in another, pass k + 1 reads what pass k wrote; and that line's place has
-- lived.
pub record HandsOn {network : Network} (passes : Passes network) (k : ℕ) (here next : Leg) (is : IsLeg network here)
    (joined : IsJoined network here next) : Type 0 where
  pub lived : LivedIn (passes.world k here.node) (state_of_line joined.b)
  pub read : (passes.world (suc k) next.node).inputs.line joined.c
      ≡ read_of (passes.world k here.node) (written_in passes k here is) joined.b

-- so it is of the first passes, so many, and all entries
abbrev pub AllHandOn : {network : Network} → (passes : Passes network) → (many : ℕ) → Type 0
AllHandOn {network} passes many = (k : ℕ) (here next : Leg) (is : IsLeg network here)
    (joined : IsJoined network here next) → suc k < many → HandsOn passes k here next is joined

-- what the first entry of a way comes from is the same in all of them
abbrev pub AreGivenTheSame : {network : Network} → (passes : Passes network) → (many : ℕ) → Leg → Type 0
AreGivenTheSame passes many first = (k l : ℕ) → k < many → l < many
    → AgreeOnEnd first.x.from (passes.world k first.node).inputs (passes.world l first.node).inputs

-- the last entry of a way is one of a plan
abbrev pub last_leg_is : {network : Network} → (leg : Leg) → (legs : List Leg) → IsRoute network leg legs
    → IsLeg network (last_leg leg legs)
last_leg_is leg [] route = route
last_leg_is leg (next ∷ legs) route = last_leg_is next legs route.2

-- ---- what leaves at the end of a way

-- In any two passes that have as many passes before them as a way has fibres, the same left at its end.
abbrev pub PassesLeaveTheSame : Type 0
PassesLeaveTheSame = (network : Network) (passes : Passes network) (many : ℕ) (first : Leg) (rest : List Leg)
    (route : IsRoute network first rest) → AllHandOn passes many → AreGivenTheSame passes many first
    → (k l : ℕ) → length rest ≤ k → k < many → length rest ≤ l → l < many
    → LeftAlike (passes.world k (last_leg first rest).node) (passes.world l (last_leg first rest).node)
    (written_in passes k (last_leg first rest) (last_leg_is first rest route))
    (written_in passes l (last_leg first rest) (last_leg_is first rest route)) (last_leg first rest).x

-- all entries of a way begin with the same turn
abbrev pub BeginTogether : Leg → List Leg → Type 0
BeginTogether leg [] = Unit {0}
BeginTogether leg (next ∷ legs) = (next.x.start ≡ leg.x.start) × BeginTogether next legs

-- In such a pass the client at the end of a way got the text of exactly those packets of the client at its beginning
-- whose GFP frames lie whole in the client frames that are whole in what the first entry took up to the last entry's
-- stop, but for three turns for each node behind the first.
abbrev pub PassesDeliver : Type 0
PassesDeliver = (network : Network) (passes : Passes network) (many : ℕ) (first : Leg) (rest : List Leg) (m n : ℕ)
    (packets : List (List ℕ)) (route : IsRoute network first rest) → AllHandOn passes many → BeginTogether first rest
    → 1 ≤ length rest
    → first.x.from ≡ from_end.Client m → (last_leg first rest).x.to ≡ to_end.Client n → AreOffered packets
    → ((k : ℕ) → k < many → ((passes.world k first.node).inputs.client m).packets ≡ packets)
    → (k : ℕ) → length rest ≤ k → k < many
    → LivedIn (passes.world k (last_leg first rest).node) (state_of_client n)
    → (written_in passes k (last_leg first rest) (last_leg_is first rest route)).client n
    ≡ hex_text (whole_packets packets first.x.fcs
    (emitted_before first.x.pace ((last_leg first rest).x.stop - first.x.start - 3 * length rest)))

-- ---- what is written to a line

-- a way of no more fibres than this leads to an entry of a node, and what its first entry comes from is the same in all
-- passes
pub record HasAWay {network : Network} (passes : Passes network) (many most : ℕ) (leg : Leg) : Type 0 where
  pub first : Leg
  pub rest : List Leg
  pub route : IsRoute network first rest
  pub ends : last_leg first rest ≡ leg
  pub few : length rest ≤ most
  pub given : AreGivenTheSame passes many first

-- Where such a way leads to each entry that goes to a line, its whole file is the same in any two passes that have as
-- many passes before them as the longest of these has fibres.
abbrev pub PassesSettle : Type 0
PassesSettle = (network : Network) (passes : Passes network) (many most b : ℕ) (leg : Leg) (is : IsLeg network leg)
    (port : ℕ) (slots : LineSlots) → AllHandOn passes many → leg.x.to ≡ to_end.Line b port slots
    → ((x : Connection) (number : ℕ) (others : LineSlots) → Contains is.plan.connections x
    → x.to ≡ to_end.Line b number others → HasAWay passes many most (record { node = leg.node; x = x }))
    → (k l : ℕ) → most ≤ k → k < many → most ≤ l → l < many
    → LivedIn (passes.world k leg.node) (state_of_line b) → LivedIn (passes.world l leg.node) (state_of_line b)
    → (written_in passes k leg is).line b ≡ (written_in passes l leg is).line b
