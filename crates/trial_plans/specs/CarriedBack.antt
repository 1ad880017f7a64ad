-- API: packets that a client brings to a line in a first run, that go on from line to line in runs in a row, and come
-- to a client in a last run.
use Rattle.std.specs.Prelude.{◌≡◌, ℕ, suc, ◌+◌, ◌-◌, ◌*◌, ◌≤◌, List, None, length}
use Rattle.std.specs.List.{Contains}
use Rattle.line_side.specs.LineForm.{size_of}
use Rattle.odu_client.specs.ClientFrames.{client_stream}
use Rattle.odu_client.specs.ClientInput.{emitted_before, gfp_length}
use Rattle.odu_client.specs.ClientOutput.{arriving_packets}
use Rattle.packet_text.specs.PacketText.{hex_text}
use Rattle.plan_file.specs.Answer.{fault_in}
use Rattle.plan_file.specs.declared.connection.FromEnd.TheVariants as from_end
use Rattle.plan_file.specs.declared.connection.ToEnd.TheVariants as to_end
use Rattle.connection_laws.specs.Chains.{Hop, ReadsOn, last_hop}
use Rattle.connection_laws.specs.Delivery.{AreOffered, whole_payload}
use Rattle.device_model.specs.Entries.{first_turn, form_out}
use Rattle.device_model.specs.LineFiles.{IsLineFile}
use Rattle.connection_laws.specs.RunsInARow.{AreRuns}
use Rattle.device_model.specs.Through.{own_input, arrived_by, text_by}

-- A connection of an accepted plan that brings a client's packets to the line that the hop writes, and the file of that
-- line in all turns of the plan. It reads no line.
pub record IsSending (client : ℕ) (hop : Hop) : Type 0 where
  pub accepted : fault_in hop.plan ≡ None
  pub is_of : Contains hop.plan.connections hop.x
  pub from : hop.x.from ≡ from_end.Client client
  pub to : hop.x.to ≡ to_end.Line hop.line_out hop.port_out hop.slots_out
  pub file : IsLineFile hop.plan hop.inputs hop.line_out
      (size_of (form_out hop.plan hop.line_out) * hop.plan.turns) hop.frames

-- A connection that comes from the line that the hop reads, and goes to a client. It writes no line.
pub record IsReceiving (client : ℕ) (hop : Hop) : Type 0 where
  pub from : hop.x.from ≡ from_end.Line hop.line_in hop.port_in hop.slots_in
  pub to : hop.x.to ≡ to_end.Client client

-- The first run takes the packets of a client to a line, each other one reads the file of the one before, and the last
-- one has a client.
pub record ComesBack (sender receiver : ℕ) (first hop : Hop) (hops : List Hop) (last : Hop) : Type 0 where
  pub sends : IsSending sender first
  pub reads : ReadsOn first hop
  pub runs : AreRuns hop hops
  pub reads_last : ReadsOn (last_hop hop hops) last
  pub receives : IsReceiving receiver last

-- How many bytes of the client's stream the last run's client has, of n + 1 own turns, where so many runs from line to
-- line stand between: the first line is a turn behind its client, each run from line to line three turns more, and the
-- last client three turns behind its line.
abbrev pub bytes_back : (paces : List ℕ) → (runs n : ℕ) → ℕ
bytes_back paces runs n = emitted_before paces (n - 3 * (runs + 1))

-- What arrives there is the front of the first client's stream, without gap or repetition.
abbrev pub BringsTheStreamBack : Type 0
BringsTheStreamBack = (sender receiver n : ℕ) (first hop : Hop) (hops : List Hop) (last : Hop)
    → ComesBack sender receiver first hop hops last
    → first_turn last.x + (n + 1) ≤ last.x.stop
    → arrived_by last.x (own_input last.inputs last.x) (n + 1)
    ≡ client_stream first.x.trace (first.inputs.client sender).packets first.x.fcs
    (bytes_back first.x.pace (suc (length hops)) n)

-- Where the frames of all packets lie in the client frames that are whole in that, all of its packets arrive, in order,
-- and their text is what the client gets.
abbrev pub BringsAllPacketsBack : Type 0
BringsAllPacketsBack = (sender receiver n : ℕ) (first hop : Hop) (hops : List Hop) (last : Hop)
    → ComesBack sender receiver first hop hops last
    → first_turn last.x + (n + 1) ≤ last.x.stop → AreOffered (first.inputs.client sender).packets
    → gfp_length (first.inputs.client sender).packets first.x.fcs ≤ whole_payload
    (bytes_back first.x.pace (suc (length hops)) n)
    → (arriving_packets (arrived_by last.x (own_input last.inputs last.x) (n + 1))
    ≡ (first.inputs.client sender).packets)
    × (text_by last.x (own_input last.inputs last.x) (n + 1) ≡ hex_text (first.inputs.client sender).packets)
