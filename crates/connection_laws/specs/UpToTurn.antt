-- Believed: no turn looks ahead: what leaves on a connection in one of its own turns is fixed by what its own input
-- shows in those before.
use Rattle.std.specs.Prelude.{◌≡◌, ◌<◌, ◌≤◌, ◌+◌, ◌*◌, ◌%◌, ◌⊎◌, ℕ, Bool, List, ◌++◌, None, Some, ⊤}
use Rattle.std.specs.List.{Contains}
use Rattle.otn_base.specs.LineSlots.{LineSlots, slots_of}
use Rattle.line_side.specs.LineFile.{frame_at, mfas_of}
use Rattle.multiframe.specs.LineTurns.{Lock, multiframe}
use Rattle.odu_client.specs.ClientFrames.{payload_begun}
use Rattle.odu_client.specs.ClientInput.{ClientInput, gfp_length, emitted_before}
use Rattle.plan_file.specs.Answer.{fault_in}
use Rattle.plan_file.specs.declared.connection.Connection.{Connection}
use Rattle.plan_file.specs.declared.connection.FromEnd.{FromEnd}
use Rattle.plan_file.specs.declared.connection.FromEnd.TheVariants as from_end
use Rattle.plan_file.specs.declared.plan.Plan.{Plan}
use Rattle.tributary_model.specs.Places.{Tributary, tributary_of, IsOwn, byte_at}
use Rattle.device_model.specs.Entries.{first_turn, own_turn, form_out}
use Rattle.device_model.specs.Through.{Inputs, OwnInput, of_line, of_client, of_signal, own_input, emits, got_by, arrived_by, text_by, state_in}
use Rattle.connection_laws.specs.TwoWorlds.{FiledRun, HaveFrame, HaveSameByte, written}

-- ---- the own input

-- In turn t + 1 two lines have the same multiframe, or neither has one, with the same bytes at a tributary's own
-- places.
pub record AgreeInTurn (own : Tributary) (one other : List ℕ) (t : ℕ) : Type 0 where
  pub lock : multiframe own.line_slots (mfas_of one) t ≡ multiframe own.line_slots (mfas_of other) t
  pub bytes : (at : Lock) (n row column : ℕ) → multiframe own.line_slots (mfas_of one) t ≡ Some at → n < own.line_slots
      → IsOwn own n ((at.expected + n) % 256) row column
      → byte_at (frame_at one (at.frame + n)) row column ≡ byte_at (frame_at other (at.frame + n)) row column

-- Two clients begin with the same packets, and when so many bytes are emitted these fill all client frames that are
-- begun.
pub record BeginAlike (fcs : Bool) (emitted : ℕ) (one other : ClientInput) : Type 0 where
  pub packets : List (List ℕ)
  pub first : (rest : List (List ℕ)) × (one.packets ≡ packets ++ rest)
  pub second : (rest : List (List ℕ)) × (other.packets ≡ packets ++ rest)
  pub fill : payload_begun emitted ≤ gfp_length packets fcs

-- when so many bytes are emitted two clients have brought the same packets: those that they begin with, or all that
-- they have
abbrev pub BringAlike : (fcs : Bool) → (emitted : ℕ) → (one other : ClientInput) → Type 0
BringAlike fcs emitted one other = (one.packets ≡ other.packets) ⊎ BeginAlike fcs emitted one other

-- Two sets of inputs agree on what an end comes from in the connection's first n own turns.
abbrev pub AgreeUpTo : FromEnd → Connection → (n : ℕ) → (one other : Inputs) → Type 0
AgreeUpTo (from_end.Line a port slots) x n one other = (j : ℕ) → j < n
    → AgreeInTurn (tributary_of slots port) (one.line a) (other.line a) (first_turn x + j)
AgreeUpTo (from_end.Client m) x n one other = BringAlike x.fcs (emitted_before x.pace n) (one.client m) (other.client m)
AgreeUpTo (from_end.Signal signal) x n one other = ⊤

-- In a connection's first n own turns both show the same.
abbrev pub ShowUpTo : Connection → (n : ℕ) → (one other : OwnInput) → Type 0
ShowUpTo x n (of_line shows) (of_line others) = (j : ℕ) → j < n → shows (first_turn x + j) ≡ others (first_turn x + j)
ShowUpTo x n (of_client one) (of_client other) = BringAlike x.fcs (emitted_before x.pace n) one other
ShowUpTo x n of_signal of_signal = ⊤
ShowUpTo x n (of_line shows) (of_client other) = ⊥
ShowUpTo x n (of_line shows) of_signal = ⊥
ShowUpTo x n (of_client one) (of_line others) = ⊥
ShowUpTo x n (of_client one) of_signal = ⊥
ShowUpTo x n of_signal (of_line others) = ⊥
ShowUpTo x n of_signal (of_client other) = ⊥

-- Inputs that agree so far show the same so far.
abbrev pub ShowsTheSameUpTo : Type 0
ShowsTheSameUpTo = (plan : Plan) (x : Connection) (n : ℕ) (one other : Inputs) → fault_in plan ≡ None
    → Contains plan.connections x
    → AgreeUpTo x.from x n one other → ShowUpTo x n (own_input one x) (own_input other x)

-- ---- what leaves

-- In its first n own turns the from end emits the same; in one more its to end gets the same, and of that the same
-- bytes and the same text arrive at a client.
pub record LeavesAlikeUpTo (x : Connection) (n : ℕ) (one other : OwnInput) : Type 0 where
  pub emitted : (j : ℕ) → j < n → emits x one j ≡ emits x other j
  pub got : (k : ℕ) → k ≤ n + 1 → got_by x one k ≡ got_by x other k
  pub arrived : (k : ℕ) → k ≤ n + 1 → arrived_by x one k ≡ arrived_by x other k
  pub text : (k : ℕ) → k ≤ n + 1 → text_by x one k ≡ text_by x other k
  pub state : (k : ℕ) → k ≤ n → state_in x one k ≡ state_in x other k

-- So it is where the own input shows the same so far, whatever it shows later.
abbrev pub LooksNotAhead : Type 0
LooksNotAhead = (x : Connection) (n : ℕ) (one other : OwnInput) → ShowUpTo x n one other → LeavesAlikeUpTo x n one other

-- The frames of a turn have the same byte at each own place where the own input shows the same in the own turns before
-- it.
abbrev pub WritesNothingAhead : Type 0
WritesNothingAhead = (one other : FiledRun) (x : Connection) (b port past n row column : ℕ) (slots : LineSlots)
    → HaveFrame one other x b port past n row column slots
    → ShowUpTo x (own_turn x past) (own_input one.inputs x) (own_input other.inputs x)
    → (form_out one.plan b).scrambled ≡ (form_out other.plan b).scrambled
    → HaveSameByte (written one b) (written other b) (slots_of slots.kind * past + n) row column
