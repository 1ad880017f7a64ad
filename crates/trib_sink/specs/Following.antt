-- API: how a sink follows its tributary.
use Rattle.std.specs.Prelude.{◌≡◌, ℕ, ◌+◌, ◌*◌, ◌-◌, ◌<◌, ◌≤◌, List, [], Option, Some, None}
use Rattle.otn_base.specs.declared.limits.TheConstants.{GROUPS}
use Rattle.maintenance_signals.specs.declared.signal.Signal.TheVariants.{Ais}
use Rattle.maintenance_signals.specs.Emitted.{StreamPlace, HasEmitted}
use Rattle.tributary_model.specs.declared.turns.Said.{Said}
use Rattle.tributary_model.specs.declared.turns.Standing.{Standing}
use Rattle.tributary_model.specs.declared.turns.Standing.TheVariants.{Waiting, Down, Up}
use Rattle.tributary_model.specs.Machine.{Machine}
use Rattle.trib_sink.specs.Extraction.{Extraction}

-- how it stands, the number that its listener keeps (outside a stretch it is dropped before the next message), its
-- bytes, and the place in the AIS stream
pub record Following : Type 0 where
  pub standing : Standing
  pub listener : Option ℕ
  pub extraction : Extraction
  pub stream : StreamPlace

-- within a stretch a listener keeps the number of the last turn; outside one, anything
abbrev pub Keeps : Standing → Option ℕ → Type 0
Keeps (Waiting n) former = Unit {0}
Keeps Down former = Unit {0}
Keeps (Up said) former = former ≡ Some said.cm

-- nothing is pending after the turn that began a stretch, and remainders are less than a group
abbrev pub FitsDue : (slots : ℕ) → (pending : List ℕ) → Option ℕ → Type 0
FitsDue slots pending None = pending ≡ []
FitsDue slots pending (Some due) = due < slots

-- what a turn says is small: no more groups than a multiframe has, and a remainder less than a group
abbrev pub IsSmallSaid : (slots : ℕ) → Said → Type 0
IsSmallSaid slots said = (said.cm ≤ GROUPS) × (said.cnd < slots)

-- what is kept fits how the sink stands: at most two turns while Waiting; within a stretch small numbers, and what is
-- pending
abbrev pub FitsStanding : (slots : ℕ) → (pending : List ℕ) → Standing → Type 0
FitsStanding slots pending (Waiting n) = n ≤ 2
FitsStanding slots pending Down = Unit {0}
FitsStanding slots pending (Up said) = IsSmallSaid slots said × FitsDue slots pending said.due

-- it stands as the machine without totals
pub record IsAt (machine : Machine) (f : Following) : Type 0 where
  pub standing : f.standing ≡ machine.standing
  pub pending : f.extraction.pending ≡ machine.pending
  pub stream : HasEmitted Ais machine.place f.stream

-- the most bytes that a turn emits: all groups of a multiframe, and a part of one
abbrev pub most_of : (slots : ℕ) → ℕ
most_of slots = slots * GROUPS + (slots - 1)
