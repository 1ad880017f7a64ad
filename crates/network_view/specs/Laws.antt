-- API: what is proved of the text of a network.
use Rattle.std.specs.Prelude.{◌≡◌, ◌↔◌, ◌≤◌, ℕ, true, false, List, length}
use Rattle.std.specs.List.{Contains}
use Rattle.otn_base.specs.LineSlots.{LineSlots}
use Rattle.packet_text.specs.PacketText.{hex_text}
use Rattle.odu_client.specs.ClientInput.{ClientInput, emitted_before}
use Rattle.plan_file.specs.declared.connection.Connection.{Connection}
use Rattle.plan_file.specs.declared.connection.FromEnd.TheVariants as from_end
use Rattle.plan_file.specs.declared.connection.ToEnd.TheVariants as to_end
use Rattle.plan_file.specs.declared.plan.Plan.{Plan}
use Rattle.connection_laws.specs.Delivery.{AreOffered, whole_packets}
use Rattle.run_laws.specs.SeenRuns.{ClientGave, ClientGot, ClientLived}
use Rattle.network_laws.specs.Networks.{Network, IsNetwork, NetworkRun}
use Rattle.network_laws.specs.Routes.{Leg, IsLeg, IsJoined, IsRoute, Brought, BroughtAll, last_leg}
use Rattle.network_ways.specs.Tracing.{IsFirst, Way}
use Rattle.network_view.specs.Entries.{Named}
use Rattle.network_view.specs.NetworkText.{is_met}
use Rattle.network_view.specs.Slots.{free_slots, line_slots}
use Rattle.network_view.specs.Troubles.{is_round, is_unmet, is_untaken}
use Rattle.network_view.specs.Ways.{is_in_step, most_steps, ways_of}
use Rattle.network_view.specs.Words.{turns_left}

-- ---- ways

-- it goes on in no entry
abbrev pub IsLast : Network → Leg → Type 0
IsLast network leg = (next : Leg) → IsLeg network next → IsJoined network leg next → ⊥

-- Each way that is told is a way of the network, from an entry in which none goes on to one that goes on in none.
abbrev pub TellsWays : Type 0
TellsWays = (network : Network) (way : Way) → Contains (ways_of network) way
    → IsRoute network way.first way.rest × IsFirst network way.first × IsLast network (last_leg way.first way.rest)

-- Each such way is told.
abbrev pub TellsEachWay : Type 0
TellsEachWay = (network : Network) (first : Leg) (rest : List Leg) → IsNetwork network
    → IsRoute network first rest → IsFirst network first → IsLast network (last_leg first rest)
    → Contains (ways_of network) (record { first = first; rest = rest })

-- The way to an entry is told to go round exactly where no way leads to it from an entry in which none goes on.
abbrev pub TellsRounds : Type 0
TellsRounds = (network : Network) (leg : Leg) → IsNetwork network → IsLeg network leg
    → (is_round network (most_steps network) leg ≡ true) ↔ ((first : Leg) (rest : List Leg) → IsRoute network first rest
    → IsFirst network first → last_leg first rest ≡ leg → ⊥)

-- ---- turns

-- What is told of the turns of a way is what is delivered: to the client at its end go exactly those packets that the
-- client at its beginning sent in the turns that are told, where the way is in step, and its fibres are whole.
abbrev pub TellsTheTurns : Type 0
TellsTheTurns = (network : Network) (run : NetworkRun network) (way : Way) (m n : ℕ) (input : ClientInput)
    (written : List ℕ) (route : IsRoute network way.first way.rest) (brought : Brought run way.first way.rest route)
    → BroughtAll run way.first way.rest route brought → is_in_step way.first way.rest ≡ true → 1 ≤ length way.rest
    → way.first.x.from ≡ from_end.Client m → (last_leg way.first way.rest).x.to ≡ to_end.Client n
    → ClientGave (run.run way.first.node) m input → ClientGot (run.run (last_leg way.first way.rest).node) n written
    → ClientLived (run.run (last_leg way.first way.rest).node) n → AreOffered input.packets
    → written ≡ hex_text (whole_packets input.packets way.first.x.fcs (emitted_before way.first.x.pace
    (turns_left way.first.x.start (last_leg way.first way.rest).x.stop (length way.rest))))

-- ---- what meets

-- nothing is amiss with an entry
pub record IsWell (network : Network) (leg : Leg) : Type 0 where
  pub met : is_unmet network leg ≡ false
  pub taken : is_untaken network leg ≡ false
  pub begun : is_round network (most_steps network) leg ≡ false

-- All meets exactly where nothing is amiss with any entry.
abbrev pub TellsWhatMeets : Type 0
TellsWhatMeets = (named : Named)
    → (is_met named ≡ true → (leg : Leg) → IsLeg named.network leg → IsWell named.network leg)
    × (((leg : Leg) → IsLeg named.network leg → IsWell named.network leg) → is_met named ≡ true)

-- ---- slots

-- the slot is one of the line's, and no connection of the plan is on it, in whatever turns
pub record IsFree (plan : Plan) (b k : ℕ) : Type 0 where
  pub low : 1 ≤ k
  pub high : k ≤ line_slots plan b
  pub unused : (x : Connection) (port : ℕ) (slots : LineSlots) → Contains plan.connections x
      → x.to ≡ to_end.Line b port slots → Contains slots.list k → ⊥

-- The free slots that are told are those.
abbrev pub TellsFreeSlots : Type 0
TellsFreeSlots = (plan : Plan) (b k : ℕ) → (Contains (free_slots plan b) k → IsFree plan b k)
    × (IsFree plan b k → Contains (free_slots plan b) k)
