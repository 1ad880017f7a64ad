-- Steps of `lines_of_clients`, `first_places` and others: what private contracts alone cite, beside the definitions of
-- `TrialRuns`.
use Rattle.std.specs.Prelude.{◌≡◌, ℕ, ◌<◌, List, Some, All, length}
use Rattle.std.specs.List.{concat}
use Rattle.port_base.specs.Bytes.{raised}
use Rattle.port_base.specs.Views.{Live, OutView, BaysView, line_in_at, line_out_at, client_in_at, client_out_at}
use Rattle.device_model.specs.LineFiles.{IsLineFile}
use Rattle.device_model.specs.Report.{Numbers}
use Rattle.device_model.specs.Through.{Inputs, own_input, text_by}
use Rattle.device_model.specs.RunLeft.{Takings, RunLeft}
use Rattle.odu_client.specs.ClientInput.{AtEnd}
use Rattle.packet_text.specs.Laws.{IsPacket}
use Rattle.packet_text.specs.PacketText.{hex_text}
use Rattle.trial_plans.specs.TrialCarried.{trial_frames}
use Rattle.trial_plans.specs.TrialDraw.{packets_of_trial}
use Rattle.trial_command.specs.TrialReport.{client_lines}
use Rattle.trial_plans.specs.TrialPlans.{trial_clients, trial_turns, trial_connection, trial_plan}
use Rattle.trial_command.specs.TrialRuns.{holding, waiting, run_pieces}

-- no read of these places failed
pub record ReadsWell (bays : BaysView) : Type 0 where
  pub lines : (a : ℕ) → (line_in_at bays a).faults ≡ 0
  pub clients : (n : ℕ) → (client_in_at bays n).faults ≡ 0

-- the places of the first run: the texts that were drawn for the clients, and room for line 0
pub record FirstPlaces (number : ℕ) (bays : BaysView) : Type 0 where
  pub clients : (c : ℕ) → c < trial_clients → client_in_at bays c ≡ holding (hex_text (packets_of_trial number c))
  pub out : line_out_at bays 0 ≡ waiting

-- those of the second or the third run: the file of the one before as line input 0, and room for the line of its number
pub record MiddlePlaces (run : ℕ) (file : List ℕ) (bays : BaysView) : Type 0 where
  pub line : line_in_at bays 0 ≡ holding file
  pub out : line_out_at bays run ≡ waiting

-- those of the last run: the file of the third one, and room for the clients
pub record LastPlaces (file : List ℕ) (bays : BaysView) : Type 0 where
  pub line : line_in_at bays 0 ≡ holding file
  pub clients : (c : ℕ) → c < trial_clients → client_out_at bays c ≡ waiting

-- a run of the plan of this number left the places so, and asked the chooser once for each piece
pub record RunWent (run : ℕ) (first last : BaysView) (asked asked_now : ℕ) : Type 0 where
  pub takings : Takings
  pub numbers : Numbers
  pub left : RunLeft (trial_plan run) first last takings numbers
  pub well : ReadsWell last
  pub asked_each : asked_now ≡ raised asked run_pieces

-- the first run, which made this file of line 0 of the packets that were drawn
pub record FirstRan (number : ℕ) (file : List ℕ) (asked asked_now : ℕ) : Type 0 where
  pub inputs : Inputs
  pub frames : List (List ℕ)
  pub clients : (c : ℕ) → c < trial_clients
      → inputs.client c ≡ record { packets = packets_of_trial number c; ending = AtEnd }
  pub made : IsLineFile (trial_plan 0) inputs 0 trial_frames frames
  pub is : file ≡ concat frames
  pub asked_each : asked_now ≡ raised asked run_pieces

-- the second or the third run, which read a file as line input 0, and made this one of the line of its number
pub record MiddleRan (run : ℕ) (read file : List ℕ) (asked asked_now : ℕ) : Type 0 where
  pub inputs : Inputs
  pub frames : List (List ℕ)
  pub line : inputs.line 0 ≡ read
  pub made : IsLineFile (trial_plan run) inputs run trial_frames frames
  pub is : file ≡ concat frames
  pub asked_each : asked_now ≡ raised asked run_pieces

-- the text that is due to client c of the last run
abbrev pub last_text : Inputs → (c : ℕ) → List ℕ
last_text inputs c = text_by (trial_connection 3 c) (own_input inputs (trial_connection 3 c)) trial_turns

-- a live place whose port got these bytes
pub record GotAll (place : OutView) (bytes : List ℕ) : Type 0 where
  pub live : place.state ≡ Live
  pub got : place.got ≡ Some bytes

-- the last run, which read a file as line input 0, with so much room for each text: each client whose text has fewer
-- bytes than that got it, and its place lives
pub record LastRan (room : ℕ) (read : List ℕ) (last : BaysView) (asked asked_now : ℕ) : Type 0 where
  pub inputs : Inputs
  pub line : inputs.line 0 ≡ read
  pub clients : (c : ℕ) → c < trial_clients → length (last_text inputs c) < room
      → GotAll (client_out_at last c) (last_text inputs c)
  pub asked_each : asked_now ≡ raised asked run_pieces

-- the place of each client lives
abbrev pub AllClientsLive : BaysView → Type 0
AllClientsLive bays = (c : ℕ) → c < trial_clients → (client_out_at bays c).state ≡ Live

-- each client got the text of these packets
pub record GotPackets (bays : BaysView) (packets : (c : ℕ) → List (List ℕ)) : Type 0 where
  pub each : (c : ℕ) → c < trial_clients → (client_out_at bays c).got ≡ Some (hex_text (packets c))
  pub are : (c : ℕ) → c < trial_clients → All IsPacket (packets c)

-- these are the lines of the first n clients, whatever packets came
pub record ClientsTold (n : ℕ) (bays : BaysView) (lines : List ℕ) : Type 0 where
  pub told : (packets : (c : ℕ) → List (List ℕ)) → GotPackets bays packets → lines ≡ client_lines packets n
