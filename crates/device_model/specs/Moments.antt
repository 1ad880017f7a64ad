-- Believed: the moments of a run. A run is made of pieces: in each turn of a plan a line that it uses has one for each
-- frame of a multiframe, and a client that it uses has one. A moment is a turn, and how many of its pieces each port
-- has done. What is due at a moment is said port by port: no definition of it names two ports.
use Rattle.std.specs.Prelude.{◌≡◌, ℕ, ◌+◌, ◌-◌, ◌*◌, min, Bool, true, ◌&&◌, if◌then◌else◌, nat_le, List, length, map, sum}
use Rattle.std.specs.List.{concat, list_any, range_with_len}
use Rattle.otn_base.specs.declared.kind.PortName.{PortName}
use Rattle.otn_base.specs.declared.kind.PortName.TheVariants as port
use Rattle.otn_base.specs.declared.limits.TheConstants.{CLIENTS, LINES, LINE_FRAME_BYTES}
use Rattle.line_side.specs.LineFile.{mfas_of}
use Rattle.line_side.specs.LineForm.{LineForm, size_of, through_mask}
use Rattle.multiframe.specs.LineTurns.{wanted_so_far, took}
use Rattle.odu_client.specs.ClientInput.{emitted_before}
use Rattle.plan_file.specs.declared.connection.Connection.{Connection}
use Rattle.plan_file.specs.declared.plan.Plan.{Plan}
use Rattle.device_model.specs.Entries.{first_turn, is_from_line, is_from_client, is_to_line, is_to_client, form_in, form_out}
use Rattle.device_model.specs.LineFiles.{IsLineFile}
use Rattle.device_model.specs.Through.{Inputs, OwnInput, text_by}

-- the connection comes from the port, or goes to it; some connection of the plan does
abbrev pub touches : PortName → Connection → Bool
touches (port.LineIn a) x = is_from_line a x.from
touches (port.LineOut b) x = is_to_line b x.to
touches (port.ClientIn n) x = is_from_client n x.from
touches (port.ClientOut n) x = is_to_client n x.to

abbrev pub uses : Plan → PortName → Bool
uses plan name = list_any (touches name) plan.connections

-- how many pieces a port has in a turn where it is used, and how many it has: none where it is not
abbrev pub pieces_by : Plan → PortName → ℕ
pieces_by plan (port.LineIn a) = size_of (form_in plan a)
pieces_by plan (port.LineOut b) = size_of (form_out plan b)
pieces_by plan client = 1

unfoldable pub pieces_of : Plan → PortName → ℕ
pieces_of plan name = if uses plan name then pieces_by plan name else 0

-- a number of each port, summed over all ports of a device
unfoldable pub over_ports : (PortName → ℕ) → ℕ
over_ports count =
    sum (map (λ a. count (port.LineIn a)) (range_with_len 0 LINES))
    + sum (map (λ b. count (port.LineOut b)) (range_with_len 0 LINES))
    + sum (map (λ n. count (port.ClientIn n)) (range_with_len 0 CLIENTS))
    + sum (map (λ n. count (port.ClientOut n)) (range_with_len 0 CLIENTS))

-- ---- what is due at a moment

-- how many bytes an input line of the plan has given: what the turns and pieces so far want, or all where they want a
-- frame that is not whole
abbrev pub line_read : LineForm → (available : List ℕ) → (past pieces : ℕ) → ℕ
line_read form available past pieces = took LINE_FRAME_BYTES (length available) (mfas_of available)
    (wanted_so_far (size_of form) (mfas_of available) past pieces)

-- How many of its own turns a client of this connection has done, in or out, before turn past + 1 and by so many pieces
-- of it. A client's piece of a turn in which its connection is not active does nothing.
abbrev pub turns_done : Connection → (past pieces : ℕ) → ℕ
turns_done x past pieces = min past x.stop - first_turn x +
    (if nat_le x.start (past + 1) && nat_le (past + 1) x.stop then pieces else 0)

-- how many bytes of its stream a client's input has emitted
abbrev pub emitted_by : Connection → (past pieces : ℕ) → ℕ
emitted_by x past pieces = emitted_before x.pace (turns_done x past pieces)

-- the text that is due to a client
abbrev pub client_due : Connection → OwnInput → (past pieces : ℕ) → List ℕ
client_due x input past pieces = text_by x input (turns_done x past pieces)

-- these bytes are due to output line b, where it is used: the frames of its file so far, through its mask
pub record LineDue (plan : Plan) (inputs : Inputs) (b past pieces : ℕ) (due : List ℕ) : Type 0 where
  pub frames : List (List ℕ)
  pub file : IsLineFile plan inputs b (size_of (form_out plan b) * past + pieces) frames
  pub bytes : due ≡ through_mask (form_out plan b).scrambled (concat frames)

-- its client places were retired in one of the turns that are past
abbrev pub is_retired : Connection → (past : ℕ) → Bool
is_retired x past = x.retire && nat_le x.stop past
