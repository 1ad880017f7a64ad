-- Believed: what the answer of a place for an input says.
use Rattle.std.specs.Prelude.{◌≡◌, ◌<◌, ◌≤◌, ◌||◌, ◌&&◌, ℕ, zero, suc, nat_eq, nat_lt, Bool, true, false, List, [], length, take, Option, IfSome, Result, Ok, Err}
use Rattle.port_base.specs.Bytes.{before, HasFailed, raised}
use Rattle.port_base.specs.Views.{State, Live, Dead, InView}
use Rattle.port_base.specs.declared.source.Failed.{Failed}
use Rattle.port_base.specs.declared.in_place.Reading.{Reading}
use Rattle.port_base.specs.declared.in_place.Reading.TheVariants.{Full, End, Lost}

-- a place's port, boxed as before, gave these bytes, and they were counted
pub record Takes (old : InView) (bytes : List ℕ) (new : InView) : Type 0 where
  pub boxed : new.boxed ≡ old.boxed
  pub left : old.left ≡ before bytes new.left
  pub faults : old.faults ≤ new.faults
  pub number : new.number ≡ raised old.number (length bytes)

-- whether a read into so much room answered that the source has ended: no byte came, and there was room
abbrev pub is_end : ℕ → Result ℕ Failed → Bool
is_end room (Ok n) = nat_eq n 0 && nat_lt 0 room
is_end room (Err e) = false

-- whether a source has answered that it ended, after a read into so much room
abbrev pub ended_after : ℕ → Result ℕ Failed → Bool → Bool
ended_after room result ended = ended || is_end room result

-- a source has ended: it has answered so, and nothing is left, where it tells what is left
pub record HasEnded (left : Option (List ℕ)) (ended : Bool) : Type 0 where
  pub answered : ended ≡ true
  pub nothing : IfSome left (λ bytes. bytes ≡ [])

-- what the answer of a live place says, with the slice as it was left: its port's count of faults rose or stands at its
-- end where the read is lost, and else it is as it was. Whether it has answered its end is as it was too, but where the
-- read came to that end: a call that failed came before it.
abbrev pub Reads : Reading → InView → List ℕ → InView → Type 0
Reads Full old into new = Takes old into new × (new.faults ≡ old.faults) × (new.ended ≡ old.ended)
Reads (End n) old into new = (n < length into) × Takes old (take n into) new × HasEnded new.left new.ended
    × (new.faults ≡ old.faults)
Reads Lost old into new = (n : ℕ) × (n < length into) × Takes old (take n into) new × HasFailed old.faults new.faults
    × (new.ended ≡ old.ended)

-- whether a source has answered its end after a whole read: where the read came to it, or where it had before
abbrev pub ended_by : Reading → Bool → Bool
ended_by Full ended = ended
ended_by (End n) ended = true
ended_by Lost ended = ended

-- a live place dies exactly where a read is lost
abbrev pub state_after : State → Reading → State
state_after Live Lost = Dead
state_after state reading = state

-- what a place that is not live answers to so much room
abbrev pub idle_reading : ℕ → Reading
idle_reading zero = Full
idle_reading (suc n) = End 0

-- what so many bytes that came into so much room make of an answer
abbrev pub IsReading : Reading → ℕ → ℕ → Option (List ℕ) → Bool → Type 0
IsReading Full count room left ended = count ≡ room
IsReading (End n) count room left ended = (n ≡ count) × (count < room) × HasEnded left ended
IsReading Lost count room left ended = count < room
