-- Believed: what a way delivers: of the packets of the client at its first node exactly those that had the turns for
-- it, in order.
use Rattle.std.specs.Prelude.{◌≡◌, ◌≤◌, ◌-◌, ◌*◌, ℕ, List, [], ◌∷◌, length}
use Rattle.packet_text.specs.PacketText.{hex_text}
use Rattle.odu_client.specs.ClientInput.{ClientInput, emitted_before}
use Rattle.plan_file.specs.declared.connection.FromEnd.TheVariants as from_end
use Rattle.plan_file.specs.declared.connection.ToEnd.TheVariants as to_end
use Rattle.connection_laws.specs.Delivery.{AreOffered, whole_packets}
use Rattle.run_laws.specs.SeenRuns.{ClientGave, ClientGot, ClientLived}
use Rattle.network_laws.specs.Ways.{Hop, IsWay, IsWholeWay, last_hop}

-- all entries of a way begin with the same turn
abbrev pub IsInStep : Hop → List Hop → Type 0
IsInStep hop [] = Unit {0}
IsInStep hop (next ∷ hops) = (next.x.start ≡ hop.x.start) × IsInStep next hops

-- Of a way of two or more nodes from a client to a client, whose fibres are whole, and whose entries begin with the
-- same turn: the client at its end got the text of exactly those packets whose GFP frames lie whole in the client
-- frames that are whole in what the first entry took in its first turns, so many: those up to the last entry's stop,
-- but for three turns for each node behind the first. Three nodes whose entries last from turn 1 to turn 16 deliver
-- what the first one took in 16 - 1 - 6 = 9 turns.
abbrev pub WaysDeliver : Type 0
WaysDeliver = (hop : Hop) (hops : List Hop) (m n : ℕ) (input : ClientInput) (written : List ℕ) (way : IsWay hop hops)
    → IsWholeWay hop hops way → IsInStep hop hops → 1 ≤ length hops
    → hop.x.from ≡ from_end.Client m → (last_hop hop hops).x.to ≡ to_end.Client n
    → ClientGave hop.run m input → ClientGot (last_hop hop hops).run n written
    → ClientLived (last_hop hop hops).run n → AreOffered input.packets
    → written ≡ hex_text (whole_packets input.packets hop.x.fcs
    (emitted_before hop.x.pace ((last_hop hop hops).x.stop - hop.x.start - 3 * length hops)))
