-- Believed: two worlds: two runs that share a connection, whose own input shows the same in both. What leaves on it is
-- the same, whatever else differs: other connections and their bytes, other slots of its line, lengths, and how many
-- turns there are.
use Rattle.std.specs.Prelude.{◌≡◌, ℕ, ◌+◌, ◌*◌, ◌%◌, ◌<◌, List, None, ⊤}
use Rattle.std.specs.List.{concat, Contains}
use Rattle.otn_base.specs.LineSlots.{LineSlots, slots_of}
use Rattle.line_side.specs.LineFile.{frame_at}
use Rattle.line_side.specs.LineForm.{size_of, through_mask}
use Rattle.plan_file.specs.Answer.{fault_in}
use Rattle.plan_file.specs.declared.connection.Connection.{Connection}
use Rattle.plan_file.specs.declared.connection.FromEnd.{FromEnd}
use Rattle.plan_file.specs.declared.connection.FromEnd.TheVariants as from_end
use Rattle.plan_file.specs.declared.plan.Plan.{Plan}
use Rattle.tributary_model.specs.Places.{tributary_of, byte_at, IsOwn}
use Rattle.device_model.specs.Agreements.{AgreeOnTributary}
use Rattle.device_model.specs.Entries.{form_out, IsSentOn}
use Rattle.device_model.specs.LineFiles.{IsLineFile}
use Rattle.device_model.specs.Moments.{client_due}
use Rattle.device_model.specs.Numbers.{last_state}
use Rattle.device_model.specs.Through.{Inputs, OwnInput, of_line, of_client, of_signal, own_input, emits, got_by, arrived_by, text_by, state_in}

-- ---- the own input

-- Both show the same: each turn of a line the same of the tributary; a client the same packets, which end in the same
-- way; a signal nothing.
abbrev pub SameInput : (one other : OwnInput) → Type 0
SameInput (of_line shows) (of_line others) = (t : ℕ) → shows t ≡ others t
SameInput (of_client one) (of_client other) = one ≡ other
SameInput of_signal of_signal = ⊤
SameInput (of_line shows) (of_client other) = ⊥
SameInput (of_line shows) of_signal = ⊥
SameInput (of_client one) (of_line others) = ⊥
SameInput (of_client one) of_signal = ⊥
SameInput of_signal (of_line others) = ⊥
SameInput of_signal (of_client other) = ⊥

-- Two sets of inputs agree on what an end comes from: its line has as many whole frames in both, with the same MFAS
-- bytes, and the same bytes at the own places of its tributary; its client has the same packets, which end in the same
-- way.
abbrev pub AgreeOnEnd : FromEnd → (one other : Inputs) → Type 0
AgreeOnEnd (from_end.Line a port slots) one other = AgreeOnTributary (tributary_of slots port) (one.line a)
    (other.line a)
AgreeOnEnd (from_end.Client n) one other = one.client n ≡ other.client n
AgreeOnEnd (from_end.Signal signal) one other = ⊤

-- Then the own input of a connection of an accepted plan shows the same.
abbrev pub GivesTheSameInput : Type 0
GivesTheSameInput = (plan : Plan) (x : Connection) (one other : Inputs) → fault_in plan ≡ None
    → Contains plan.connections x
    → AgreeOnEnd x.from one other → SameInput (own_input one x) (own_input other x)

-- ---- what leaves

-- By its own turn n these are the same: what its from end emits in it; what its to end gets in the turns before; of
-- that, the bytes that arrive at a client, and the text of their packets; and what the from end is then.
pub record LeavesAlike (x : Connection) (one other : OwnInput) (n : ℕ) : Type 0 where
  pub emitted : emits x one n ≡ emits x other n
  pub got : got_by x one n ≡ got_by x other n
  pub arrived : arrived_by x one n ≡ arrived_by x other n
  pub text : text_by x one n ≡ text_by x other n
  pub state : state_in x one n ≡ state_in x other n

-- So it is where the own input shows the same.
abbrev pub LeavesTheSame : Type 0
LeavesTheSame = (x : Connection) (one other : OwnInput) (n : ℕ) → SameInput one other → LeavesAlike x one other n

-- At each moment the same text is due to a client that it goes to.
abbrev pub OwesTheSame : Type 0
OwesTheSame = (x : Connection) (one other : OwnInput) (past pieces : ℕ) → SameInput one other
    → client_due x one past pieces ≡ client_due x other past pieces

-- Runs of as many turns report the same of it.
abbrev pub ReportsTheSame : Type 0
ReportsTheSame = (x : Connection) (one other : OwnInput) (turns : ℕ) → SameInput one other
    → last_state turns x one ≡ last_state turns x other

-- ---- what a line file has of it

-- a run: its plan, what its inputs gave, and the first frames of the file of one of its output lines
pub record FiledRun : Type 0 where
  pub plan : Plan
  pub inputs : Inputs
  pub frames : List (List ℕ)

-- The plan is accepted, and the connection goes in turn past + 1 to these slots of line b, with this tributary port.
-- The frames are so many of that line's file, and frame n, from 0, of the turn is one of them.
pub record HasFrame (run : FiledRun) (x : Connection) (b port past n : ℕ) (slots : LineSlots) : Type 0 where
  pub accepted : fault_in run.plan ≡ None
  pub sends : IsSentOn run.plan b past x port slots
  pub count : ℕ
  pub file : IsLineFile run.plan run.inputs b count run.frames
  pub made : size_of (form_out run.plan b) * past + n < count

-- Two such runs, and a frame n of the multiframe, in which this is an own place by the MFAS that the frame has there.
pub record HaveFrame (one other : FiledRun) (x : Connection) (b port past n row column : ℕ)
    (slots : LineSlots) : Type 0 where
  pub first : HasFrame one x b port past n slots
  pub second : HasFrame other x b port past n slots
  pub frame : n < slots_of slots.kind
  pub own : IsOwn (tributary_of slots port) n ((slots_of slots.kind * past + n) % 256) row column

-- the file of line b, as it is written
abbrev pub written : FiledRun → (b : ℕ) → List ℕ
written run b = through_mask (form_out run.plan b).scrambled (concat run.frames)

-- the same byte in a row and a column of frame f of both
abbrev pub HaveSameByte : (one other : List ℕ) → (f row column : ℕ) → Type 0
HaveSameByte one other f row column = byte_at (frame_at one f) row column ≡ byte_at (frame_at other f) row column

-- Where the own input shows the same, the frames have the same byte at each own place, before the mask.
abbrev pub SendsTheSame : Type 0
SendsTheSame = (one other : FiledRun) (x : Connection) (b port past n row column : ℕ) (slots : LineSlots)
    → HaveFrame one other x b port past n row column slots
    → SameInput (own_input one.inputs x) (own_input other.inputs x)
    → HaveSameByte (concat one.frames) (concat other.frames) (slots_of slots.kind * past + n) row column

-- So have the files themselves, where both lines are scrambled, or neither is.
abbrev pub WritesTheSame : Type 0
WritesTheSame = (one other : FiledRun) (x : Connection) (b port past n row column : ℕ) (slots : LineSlots)
    → HaveFrame one other x b port past n row column slots
    → SameInput (own_input one.inputs x) (own_input other.inputs x)
    → (form_out one.plan b).scrambled ≡ (form_out other.plan b).scrambled
    → HaveSameByte (written one b) (written other b) (slots_of slots.kind * past + n) row column

-- ---- all of it

-- What leaves on the connection is the same in both runs: at each moment the text that is due to its client; in runs of
-- as many turns its line of the report; in each frame that both have of its turns, its own places, and these as they
-- are written where both lines are scrambled, or neither is.
pub record IsSameInBoth (one other : FiledRun) (x : Connection) : Type 0 where
  pub due : (past pieces : ℕ) → client_due x (own_input one.inputs x) past pieces
      ≡ client_due x (own_input other.inputs x) past pieces
  pub report : (turns : ℕ) → last_state turns x (own_input one.inputs x) ≡ last_state turns x (own_input other.inputs x)
  pub places : (b port past n row column : ℕ) (slots : LineSlots) → HaveFrame one other x b port past n row column slots
      → HaveSameByte (concat one.frames) (concat other.frames) (slots_of slots.kind * past + n) row column
  pub file : (b port past n row column : ℕ) (slots : LineSlots) → HaveFrame one other x b port past n row column slots
      → (form_out one.plan b).scrambled ≡ (form_out other.plan b).scrambled → HaveSameByte (written one b)
      (written other b) (slots_of slots.kind * past + n) row column

-- Two runs whose plans are accepted and share a connection, and whose inputs agree on what it comes from.
pub record ShareIt (one other : FiledRun) (x : Connection) : Type 0 where
  pub first : (fault_in one.plan ≡ None) × Contains one.plan.connections x
  pub second : (fault_in other.plan ≡ None) × Contains other.plan.connections x
  pub agree : AgreeOnEnd x.from one.inputs other.inputs

-- Then what leaves on it is the same in both.
abbrev pub IsSameWhereShared : Type 0
IsSameWhereShared = (one other : FiledRun) (x : Connection) → ShareIt one other x → IsSameInBoth one other x
