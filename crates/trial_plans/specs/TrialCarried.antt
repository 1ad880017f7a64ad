-- Believed: what the trial's runs carry: all packets that are drawn come back.
use Rattle.std.specs.Prelude.{◌≡◌, ℕ, ◌+◌, ◌*◌, ◌<◌, ◌≤◌, List, All, length}
use Rattle.std.specs.List.{concat}
use Rattle.otn_base.specs.declared.limits.TheConstants.{OTU2_SLOTS}
use Rattle.odu_client.specs.ClientInput.{AtEnd}
use Rattle.odu_client.specs.ClientOutput.{arriving_packets}
use Rattle.packet_text.specs.PacketText.{hex_text}
use Rattle.device_model.specs.LineFiles.{IsLineFile}
use Rattle.device_model.specs.Through.{Inputs, own_input, arrived_by, text_by}
use Rattle.trial_plans.specs.TrialPlans.{trial_clients, trial_packets, trial_turns, trial_connection, trial_plan}

-- how many bytes a packet of the trial has at most
abbrev pub longest_packet : ℕ
longest_packet = 1500

-- packets of a client as the trial draws them: 16, each of 1 to 1,500 bytes
pub record AreTrialPackets (packets : List (List ℕ)) : Type 0 where
  pub many : length packets ≡ trial_packets
  pub sizes : All (λ packet. (1 ≤ length packet) × (length packet ≤ longest_packet)) packets

-- how many frames a line file of the trial has
abbrev pub trial_frames : ℕ
trial_frames = OTU2_SLOTS * trial_turns

-- Runs of the four plans. The clients of the first run give these packets, and end; each run but the last makes the
-- file of the line of its number, and the next run reads it as line 0.
pub record AreTrialRuns (packets : (c : ℕ) → List (List ℕ)) (inputs : (run : ℕ) → Inputs)
    (frames : (run : ℕ) → List (List ℕ)) : Type 0 where
  pub clients : (c : ℕ) → c < trial_clients → (inputs 0).client c ≡ record { packets = packets c; ending = AtEnd }
  pub first : IsLineFile (trial_plan 0) (inputs 0) 0 trial_frames (frames 0)
  pub second : IsLineFile (trial_plan 1) (inputs 1) 1 trial_frames (frames 1)
  pub third : IsLineFile (trial_plan 2) (inputs 2) 2 trial_frames (frames 2)
  pub read : (run : ℕ) → run < 3 → (inputs (run + 1)).line 0 ≡ concat (frames run)

-- Then the packets that arrive at client c of the fourth run are those of client c of the first, and so is the text
-- that it gets.
abbrev pub AllPacketsComeBack : Type 0
AllPacketsComeBack = (packets : (c : ℕ) → List (List ℕ)) (inputs : (run : ℕ) → Inputs)
    (frames : (run : ℕ) → List (List ℕ)) (c : ℕ)
    → AreTrialRuns packets inputs frames → c < trial_clients → AreTrialPackets (packets c)
    → (arriving_packets (arrived_by (trial_connection 3 c) (own_input (inputs 3) (trial_connection 3 c)) trial_turns)
    ≡ packets c)
    × (text_by (trial_connection 3 c) (own_input (inputs 3) (trial_connection 3 c)) trial_turns ≡ hex_text (packets c))
