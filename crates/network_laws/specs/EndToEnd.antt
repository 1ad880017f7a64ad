-- Believed: what networks keep apart, and what they deliver, from one end of a customer's way to the other.
use Rattle.std.specs.Prelude.{◌≡◌, ◌≤◌, ◌-◌, ◌*◌, ℕ, List, length}
use Rattle.packet_text.specs.PacketText.{hex_text}
use Rattle.odu_client.specs.ClientInput.{ClientInput, emitted_before}
use Rattle.plan_file.specs.declared.connection.FromEnd.TheVariants as from_end
use Rattle.plan_file.specs.declared.connection.ToEnd.TheVariants as to_end
use Rattle.connection_laws.specs.Delivery.{AreOffered, whole_packets}
use Rattle.run_laws.specs.SeenRuns.{AgreeOnInput, SameOutput, ClientGave, ClientGot, ClientLived}
use Rattle.network_laws.specs.Delivery.{IsInStep}
use Rattle.network_laws.specs.Networks.{Network, NetworkRun}
use Rattle.network_laws.specs.Routes.{Leg, IsRoute, Brought, BroughtAll, hop_of, hops_of, last_leg}
use Rattle.network_laws.specs.Ways.{entries}

-- the ways of two networks go by the same entries; nodes may have other numbers
abbrev pub HaveSameEntries : {network other : Network} → NetworkRun network → NetworkRun other → (leg far : Leg)
    → (legs fars : List Leg) → Type 0
HaveSameEntries one two leg far legs fars = entries (hop_of one leg) (hops_of one legs)
    ≡ entries (hop_of two far) (hops_of two fars)

-- Isolated: two networks, of whatever nodes and fibres, have a customer's way by the same entries, whose fibres were
-- whole, and the runs of its first nodes agree on what its entry comes from. Then what left at its end is the same,
-- whatever every other entry, port, fault and order is, at every node of both networks, the way's own too; and whatever
-- came over every other fibre.
abbrev pub NetworksAreIsolated : Type 0
NetworksAreIsolated = (network other : Network) (one : NetworkRun network) (two : NetworkRun other) (leg far : Leg)
    (legs fars : List Leg) (route : IsRoute network leg legs) (second : IsRoute other far fars)
    (brought : Brought one leg legs route) (came : Brought two far fars second)
    → HaveSameEntries one two leg far legs fars → BroughtAll one leg legs route brought
    → BroughtAll two far fars second came → AgreeOnInput leg.x.from (one.run leg.node) (two.run far.node)
    → SameOutput (one.run (last_leg leg legs).node) (two.run (last_leg far fars).node) (last_leg leg legs).x

-- Delivered: of a way of two or more nodes from a client to a client, whose fibres were whole, and whose entries begin
-- with the same turn, exactly those packets came out that had the turns for it, as `WaysDeliver` says.
abbrev pub NetworksDeliver : Type 0
NetworksDeliver = (network : Network) (run : NetworkRun network) (leg : Leg) (legs : List Leg) (m n : ℕ)
    (input : ClientInput) (written : List ℕ) (route : IsRoute network leg legs) (brought : Brought run leg legs route)
    → BroughtAll run leg legs route brought → IsInStep (hop_of run leg) (hops_of run legs)
    → 1 ≤ length legs
    → leg.x.from ≡ from_end.Client m → (last_leg leg legs).x.to ≡ to_end.Client n
    → ClientGave (run.run leg.node) m input → ClientGot (run.run (last_leg leg legs).node) n written
    → ClientLived (run.run (last_leg leg legs).node) n → AreOffered input.packets
    → written ≡ hex_text (whole_packets input.packets leg.x.fcs
    (emitted_before leg.x.pace ((last_leg leg legs).x.stop - leg.x.start - 3 * length legs)))
