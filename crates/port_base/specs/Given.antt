-- Believed: what a place gave, and what went to it, between two moments.
use Rattle.std.specs.Prelude.{◌≡◌, ◌≢◌, ◌⊎◌, ℕ, Bool, true, false, List, [], ◌++◌, Option, Some}
use Rattle.port_base.specs.Bytes.{HasFailed}
use Rattle.port_base.specs.Reads.{Takes}
use Rattle.port_base.specs.Writes.{Sends}
use Rattle.port_base.specs.Views.{State, Empty, Live, Dead, InView, OutView}

-- a source that tells its bytes gave these, and still has the rest
pub record Took (first now : Option (List ℕ)) (bytes : List ℕ) : Type 0 where
  pub rest : List ℕ
  pub had : first ≡ Some (bytes ++ rest)
  pub has : now ≡ Some rest

-- what an input place gave between two of its states, and between what its source had and has yet
abbrev pub given_between : State → State → Option (List ℕ) → Option (List ℕ) → List ℕ → Type 0
-- where it died, what was taken
given_between Live Dead first now bytes = Took first now bytes
-- where it did not, all that it had
given_between Live state first now bytes = first ≡ Some bytes
-- where it was not live, nothing
given_between other state first now bytes = bytes ≡ []

-- Given: these are the bytes that a live place had to give at its opening view, taken or not; where it died, those
-- taken. That is said of a source that tells its bytes. Where it was not live there are none. `Gave`, below, is of
-- bytes taken.
abbrev pub HadToGive : InView → InView → List ℕ → Type 0
HadToGive first now bytes = given_between first.state now.state first.left now.left bytes

-- what a sink got, where it tells its bytes, grew by these
pub record Grew (first now : Option (List ℕ)) (bytes : List ℕ) : Type 0 where
  pub before : List ℕ
  pub had : first ≡ Some before
  pub has : now ≡ Some (before ++ bytes)

-- what an output place's port got is told: it is in its place, or it was retired there and keeps what it got
abbrev pub IsTold : OutView → Type 0
IsTold place = (place.state ≢ Empty) ⊎ (place.keeps ≡ true)

-- what went to an output place between two of its states, the later of which keeps what its port got or does not, and
-- between what its sink had got and has got
abbrev pub written_between : State → State → (keeps : Bool) → Option (List ℕ) → Option (List ℕ) → List ℕ → Type 0
-- where its port is gone, what that got is not told
written_between Live Empty false first now bytes = ⊥
-- where it was live, by so much what it got grew, also of one that was retired and keeps it
written_between Live state keeps first now bytes = Grew first now bytes
-- where it was not live, by nothing
written_between other state keeps first now bytes = bytes ≡ []

-- Gone: these are the bytes by which what an output place got grew from its opening view to its
-- closing one, which is said of a sink that tells its bytes
abbrev pub IsWritten : OutView → OutView → List ℕ → Type 0
IsWritten first now bytes = written_between first.state now.state now.keeps first.got now.got bytes

-- a place is as live as it was, and its port's count of faults is as it was; or it was live and died by its own port's
-- fault
abbrev pub Lives : State → State → ℕ → ℕ → Type 0
Lives first now old_faults new_faults = ((now ≡ first) × (new_faults ≡ old_faults))
    ⊎ ((first ≡ Live) × (now ≡ Dead) × HasFailed old_faults new_faults)

-- an input place from one moment to a later one, in which these bytes were taken of its port
pub record Gave (first : InView) (bytes : List ℕ) (now : InView) : Type 0 where
  pub takes : Takes first bytes now
  pub state : Lives first.state now.state first.faults now.faults
  pub idle : first.state ≢ Live → (now ≡ first) × (bytes ≡ [])

-- an output place from one moment to a later one, in which its port took these bytes
pub record Gained (first : OutView) (bytes : List ℕ) (now : OutView) : Type 0 where
  pub sends : Sends first bytes now
  pub state : Lives first.state now.state first.faults now.faults
  pub idle : first.state ≢ Live → (now ≡ first) × (bytes ≡ [])

-- A place that is dead in the end has answered no end between two moments: its port, where it failed, had not answered
-- it before. So nothing was asked of a port behind its end that it could fail at.
abbrev pub DiedUnended : InView → InView → Type 0
DiedUnended first now = now.state ≡ Dead → now.ended ≡ first.ended
