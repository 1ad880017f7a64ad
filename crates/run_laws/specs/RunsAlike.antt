-- Believed: two worlds, by what runs leave: two runs that carry one connection, which comes from the same in both. What
-- left on it is the same, as far as both have gone.
use Rattle.std.specs.Prelude.{◌≡◌, ◌≢◌, ◌<◌, ◌+◌, ◌*◌, ◌%◌, ◌⊎◌, ℕ, List, ◌++◌, None, Some, length, slice_get}
use Rattle.std.specs.List.{Contains}
use Rattle.otn_base.specs.LineSlots.{LineSlots, slots_of}
use Rattle.otn_base.specs.declared.limits.TheConstants.{LINE_COLUMNS, LINE_FRAME_BYTES}
use Rattle.frame_geometry.specs.Places.{place_of}
use Rattle.port_base.specs.Views.{State, Live, Dead, BaysView, line_out_at, client_out_at}
use Rattle.plan_file.specs.Answer.{fault_in}
use Rattle.plan_file.specs.declared.connection.Connection.{Connection}
use Rattle.plan_file.specs.declared.connection.FromEnd.TheVariants as from_end
use Rattle.plan_file.specs.declared.connection.ToEnd.TheVariants as to_end
use Rattle.plan_file.specs.declared.plan.Plan.{Plan}
use Rattle.tributary_model.specs.Places.{tributary_of, IsOwn}
use Rattle.device_model.specs.Entries.{form_out, IsActive}
use Rattle.device_model.specs.Numbers.{OutputBytes}
use Rattle.device_model.specs.Report.{Numbers}
use Rattle.device_model.specs.Through.{Inputs}
use Rattle.connection_laws.specs.TwoWorlds.{AgreeOnEnd, HaveSameByte}
use Rattle.device_model.specs.RunLeft.{Takings, MayBeInputs, RunLeft}

-- ---- runs

-- a run: its plan, its places as they were first and as they are last, what was taken of its inputs, its numbers, and
-- what its inputs may have been
pub record World : Type 0 where
  pub plan : Plan
  pub first : BaysView
  pub last : BaysView
  pub takings : Takings
  pub numbers : Numbers
  pub inputs : Inputs

-- the plan is accepted, a run of it left this, and its inputs may be these
pub record IsWorld (world : World) : Type 0 where
  pub accepted : fault_in world.plan ≡ None
  pub left : RunLeft world.plan world.first world.last world.takings world.numbers
  pub may_be : MayBeInputs world.plan world.first world.last world.takings world.inputs

-- what was written to its outputs
abbrev pub bytes_out : (world : World) → IsWorld world → OutputBytes
bytes_out world is = (is.left.of_inputs world.inputs is.may_be).written

-- both plans have the connection, and their inputs agree on what it comes from
pub record ShareOne (one other : World) (x : Connection) : Type 0 where
  pub first : Contains one.plan.connections x
  pub second : Contains other.plan.connections x
  pub agree : AgreeOnEnd x.from one.inputs other.inputs

-- ---- what went

-- one of two texts begins with the other
abbrev pub IsFrontOfOther : (one other : List ℕ) → Type 0
IsFrontOfOther one other = ((rest : List ℕ) × (one ++ rest ≡ other)) ⊎ ((rest : List ℕ) × (other ++ rest ≡ one))

-- a place was live and has not died: it is live, or was retired with its connection (what went there `ClientGot` then
-- tells where its port keeps it)
pub record HasLived (first last : State) : Type 0 where
  pub was : first ≡ Live
  pub is : last ≢ Dead

-- in both runs it has
pub record BothLived (one other : World) (place : BaysView → State) : Type 0 where
  pub first : HasLived (place one.first) (place one.last)
  pub second : HasLived (place other.first) (place other.last)

-- the state of a line output, and of a client output
abbrev pub state_of_line : ℕ → BaysView → State
state_of_line b bays = (line_out_at bays b).state

abbrev pub state_of_client : ℕ → BaysView → State
state_of_client n bays = (client_out_at bays n).state

-- The connection goes in turn past + 1 to these slots of line b, with this tributary port; and in frame n, from 0, of
-- the turn this is an own place, by the MFAS that the frame has there.
pub record HasPlace (x : Connection) (b port past n row column : ℕ) (slots : LineSlots) : Type 0 where
  pub to : x.to ≡ to_end.Line b port slots
  pub active : IsActive x past
  pub frame : n < slots_of slots.kind
  pub own : IsOwn (tributary_of slots port) n ((slots_of slots.kind * past + n) % 256) row column

-- the byte in a row and a column of frame f is among these bytes of a line
abbrev pub HasGone : (line : List ℕ) → (f row column : ℕ) → Type 0
HasGone line f row column = LINE_FRAME_BYTES * f + place_of LINE_COLUMNS row column < length line

-- ---- all of it

-- What left on the connection is the same in both runs, to whose outputs these went. To a client: of the two texts one
-- begins with the other, and where its place has lived in both they are one, as are the client's numbers. On a line: at
-- each own place whose byte has gone in both, and so in each of its turns where the line has lived in both, stands the
-- same byte, where both lines are scrambled, or neither is. The numbers of a client that it comes from are the same;
-- and so, in runs of as many turns, is its own line of the report.
pub record LeftAlike (one other : World) (written others : OutputBytes) (x : Connection) : Type 0 where
  pub text : (n : ℕ) → x.to ≡ to_end.Client n → IsFrontOfOther (written.client n) (others.client n)
  pub whole_text : (n : ℕ) → x.to ≡ to_end.Client n → BothLived one other (state_of_client n)
      → written.client n ≡ others.client n
  pub places : (b port past n row column : ℕ) (slots : LineSlots) → HasPlace x b port past n row column slots
      → (form_out one.plan b).scrambled ≡ (form_out other.plan b).scrambled
      → HasGone (written.line b) (slots_of slots.kind * past + n) row column
      → HasGone (others.line b) (slots_of slots.kind * past + n) row column
      → HaveSameByte (written.line b) (others.line b) (slots_of slots.kind * past + n) row column
  pub all_places : (b port past n row column : ℕ) (slots : LineSlots) → HasPlace x b port past n row column slots
      → (form_out one.plan b).scrambled ≡ (form_out other.plan b).scrambled → BothLived one other (state_of_line b)
      → HaveSameByte (written.line b) (others.line b) (slots_of slots.kind * past + n) row column
  pub client_in : (n : ℕ) → x.from ≡ from_end.Client n → one.numbers.client_in n ≡ other.numbers.client_in n
  pub client_out : (n : ℕ) → x.to ≡ to_end.Client n → BothLived one other (state_of_client n)
      → one.numbers.client_out n ≡ other.numbers.client_out n
  pub from : (i j : ℕ) → slice_get one.plan.connections i ≡ Some x → slice_get other.plan.connections j ≡ Some x
      → one.plan.turns ≡ other.plan.turns
      → one.numbers.from i ≡ other.numbers.from j

-- So it is of any two runs that share it, whatever else they carry.
abbrev pub RunsAgree : Type 0
RunsAgree = (one other : World) (x : Connection) (first : IsWorld one) (second : IsWorld other) → ShareOne one other x
    → LeftAlike one other (bytes_out one first) (bytes_out other second) x
