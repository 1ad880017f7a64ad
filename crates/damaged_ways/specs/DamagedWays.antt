-- Believed: a customer's way over fibres that may be damaged, of nodes over any ports: whatever their inputs may have
-- been. Nothing is asked of a network beside the way.
use Rattle.std.specs.Prelude.{◌≡◌, ◌<◌, ◌≤◌, ◌-◌, ◌*◌, ℕ, List, [], ◌∷◌, length, map}
use Rattle.std.specs.List.{Contains}
use Rattle.otn_base.specs.LineSlots.{LineSlots, slots_of}
use Rattle.packet_text.specs.PacketText.{hex_text}
use Rattle.odu_client.specs.ClientInput.{emitted_before}
use Rattle.plan_file.specs.declared.connection.Connection.{Connection}
use Rattle.plan_file.specs.declared.connection.FromEnd.TheVariants as from_end
use Rattle.plan_file.specs.declared.connection.ToEnd.TheVariants as to_end
use Rattle.tributary_model.specs.Places.{tributary_of}
use Rattle.device_model.specs.Entries.{first_turn}
use Rattle.device_model.specs.Numbers.{OutputBytes}
use Rattle.connection_laws.specs.Delivery.{AreOffered, whole_packets}
use Rattle.connection_laws.specs.TwoWorlds.{AgreeOnEnd}
use Rattle.connection_laws.specs.UpToTurn.{AgreeInTurn}
use Rattle.run_laws.specs.RunsAlike.{World, IsWorld, LeftAlike, bytes_out, state_of_line, state_of_client}
use Rattle.run_laws.specs.RunsThrough.{LivedIn, read_of}
use Rattle.network_laws.specs.Ways.{GoesOn, HaveTurns}

-- ---- the way

-- a node on the way: its run, with what its inputs may have been, and the entry of its plan that the way goes by
pub record Passage : Type 0 where
  pub world : World
  pub x : Connection

pub record IsPassage (here : Passage) : Type 0 where
  pub is : IsWorld here.world
  pub has : Contains here.world.plan.connections here.x

-- what was written to the outputs of a node
abbrev pub written_by : (here : Passage) → IsPassage here → OutputBytes
written_by here is = bytes_out here.world is.is

-- An entry goes on in another. All frames of the other's turns were written; and in each of these turns what the line
-- brought has its multiframe where it was written, with the same bytes at the tributary's own places. All other bytes
-- of the line may be others, and how it came is free.
pub record BringsUnharmed (here next : Passage) (written : OutputBytes) : Type 0 where
  pub b : ℕ
  pub c : ℕ
  pub port : ℕ
  pub slots : LineSlots
  pub goes : GoesOn here.x next.x b c port slots
  pub enough : HaveTurns (slots_of slots.kind) next.x.stop (written.line b)
  pub unharmed : (t : ℕ) → first_turn next.x ≤ t → t < next.x.stop
      → AgreeInTurn (tributary_of slots port) (read_of here.world written b) (next.world.inputs.line c) t

-- a way from its first node by those that follow
abbrev pub IsDamagedWay : Passage → List Passage → Type 0
IsDamagedWay here [] = IsPassage here
IsDamagedWay here (next ∷ rest) = (is : IsPassage here) × BringsUnharmed here next (written_by here is)
    × IsDamagedWay next rest

-- its last node, and the entries that it goes by
abbrev pub last_passage : Passage → List Passage → Passage
last_passage here [] = here
last_passage here (next ∷ rest) = last_passage next rest

abbrev pub last_is : (here : Passage) → (rest : List Passage) → IsDamagedWay here rest
    → IsPassage (last_passage here rest)
last_is here [] way = way
last_is here (next ∷ rest) way = last_is next rest way.2

abbrev pub entries : Passage → List Passage → List Connection
entries here rest = map (λ p. p.x) (here ∷ rest)

-- ---- isolation

-- Two networks have a way by the same entries, and the inputs of its first nodes agree on what its entry comes from.
-- Then what left on the last entry is the same in both, as far as both have gone; and so are its numbers.
abbrev pub DamagedWaysAreIsolated : Type 0
DamagedWaysAreIsolated = (here other : Passage) (rest others : List Passage) (way : IsDamagedWay here rest)
    (second : IsDamagedWay other others) → entries here rest ≡ entries other others
    → AgreeOnEnd here.x.from here.world.inputs other.world.inputs
    → LeftAlike (last_passage here rest).world (last_passage other others).world
    (written_by (last_passage here rest) (last_is here rest way))
    (written_by (last_passage other others) (last_is other others second)) (last_passage here rest).x

-- ---- delivery

-- the lines that it goes over have lived, and its entries begin with the same turn
abbrev pub HasLivedInStep : (here : Passage) → (rest : List Passage) → IsDamagedWay here rest → Type 0
HasLivedInStep here [] way = Unit {0}
HasLivedInStep here (next ∷ rest) way = LivedIn here.world (state_of_line way.1.b) × (next.x.start ≡ here.x.start)
    × HasLivedInStep next rest way.2

-- Of such a way of two or more nodes from a client to a client: the client at its end got the text of exactly those
-- packets whose GFP frames lie whole in the client frames that are whole in what the first entry took up to the last
-- entry's stop, but for three turns for each node behind the first.
abbrev pub DamagedWaysDeliver : Type 0
DamagedWaysDeliver = (here : Passage) (rest : List Passage) (m n : ℕ) (way : IsDamagedWay here rest)
    → HasLivedInStep here rest way → 1 ≤ length rest
    → here.x.from ≡ from_end.Client m → (last_passage here rest).x.to ≡ to_end.Client n
    → LivedIn (last_passage here rest).world (state_of_client n) → AreOffered (here.world.inputs.client m).packets
    → (written_by (last_passage here rest) (last_is here rest way)).client n
    ≡ hex_text (whole_packets (here.world.inputs.client m).packets here.x.fcs
    (emitted_before here.x.pace ((last_passage here rest).x.stop - here.x.start - 3 * length rest)))
