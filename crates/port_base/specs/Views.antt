-- Believed: what is seen of a place, and of all places.
use Rattle.std.specs.Prelude.{ℕ, Bool, true, false, List, [], Option, Some, get_or}

-- how a place stands
pub data State : Type 0 where
  Empty : State
  Live : State
  Dead : State

-- whether a place is dead
abbrev pub is_dead : State → Bool
is_dead Empty = false
is_dead Live = false
is_dead Dead = true

-- a place for an input: how it stands, whether its port is behind a box, the bytes still to come
-- where its port tells them, whether its port has answered that it ended, its port's count of faults, and
-- the place's number of bytes taken
pub record InView : Type 0 where
  pub state : State
  pub boxed : Bool
  pub left : Option (List ℕ)
  pub ended : Bool
  pub faults : ℕ
  pub number : ℕ

-- a place for an output: how it stands, whether its port is behind a box, the bytes that it got
-- where its port tells them, whether it gives them back, its port's count of faults, and the
-- place's number of bytes sent. A place whose port is retired is seen as one with no port, but for the bytes that
-- the port keeps.
pub record OutView : Type 0 where
  pub state : State
  pub boxed : Bool
  pub got : Option (List ℕ)
  pub keeps : Bool
  pub faults : ℕ
  pub number : ℕ

-- a place for an input with no port: it acts as one whose port has ended
abbrev pub no_input : InView
no_input = record { state = Empty; boxed = false; left = Some []; ended = true; faults = 0; number = 0 }

-- a place for an output with no port
abbrev pub no_output : OutView
no_output = record { state = Empty; boxed = false; got = Some []; keeps = false; faults = 0; number = 0 }

-- all places of a device
pub record BaysView : Type 0 where
  pub line_in : List InView
  pub line_out : List OutView
  pub client_in : List InView
  pub client_out : List OutView

-- line input n
abbrev pub line_in_at : BaysView → ℕ → InView
line_in_at bays n = get_or bays.line_in n no_input

-- line output n
abbrev pub line_out_at : BaysView → ℕ → OutView
line_out_at bays n = get_or bays.line_out n no_output

-- client input n
abbrev pub client_in_at : BaysView → ℕ → InView
client_in_at bays n = get_or bays.client_in n no_input

-- client output n
abbrev pub client_out_at : BaysView → ℕ → OutView
client_out_at bays n = get_or bays.client_out n no_output
