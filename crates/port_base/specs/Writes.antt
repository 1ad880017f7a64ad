-- Believed: what the answer of a place for an output, or of a whole write, says.
use Rattle.std.specs.Prelude.{◌≡◌, ◌<◌, ◌≤◌, ℕ, List, length, take, Option}
use Rattle.port_base.specs.Bytes.{after, HasFailed, raised}
use Rattle.port_base.specs.Views.{State, Live, Dead, OutView}
use Rattle.port_base.specs.declared.drain.Written.{Written}
use Rattle.port_base.specs.declared.drain.Written.TheVariants.{Whole, Lost}

-- a place's port, boxed as before, took these bytes, and they were counted
pub record Sends (old : OutView) (bytes : List ℕ) (new : OutView) : Type 0 where
  pub boxed : new.boxed ≡ old.boxed
  pub got : new.got ≡ after old.got bytes
  pub keeps : new.keeps ≡ old.keeps
  pub faults : old.faults ≤ new.faults
  pub number : new.number ≡ raised old.number (length bytes)

-- what the answer of a live place says of the bytes that it was given: its port's count of faults rose or stands at its
-- end where the write is lost, and else it is as it was
abbrev pub Writes : Written → OutView → List ℕ → OutView → Type 0
Writes Whole old bytes new = Sends old bytes new × (new.faults ≡ old.faults)
Writes Lost old bytes new = (n : ℕ) × (n < length bytes) × Sends old (take n bytes) new
    × HasFailed old.faults new.faults

-- a live place dies exactly where a write is lost
abbrev pub state_after_write : State → Written → State
state_after_write Live Lost = Dead
state_after_write state written = state

-- what the answer of a whole write says of what a sink had got and has got
abbrev pub Gains : Written → Option (List ℕ) → List ℕ → Option (List ℕ) → Type 0
Gains Whole old bytes new = new ≡ after old bytes
Gains Lost old bytes new = (n : ℕ) × (n < length bytes) × (new ≡ after old (take n bytes))

-- what so many bytes that went out of so many make of an answer
abbrev pub IsWriting : Written → ℕ → ℕ → Type 0
IsWriting Whole written all = written ≡ all
IsWriting Lost written all = written < all
