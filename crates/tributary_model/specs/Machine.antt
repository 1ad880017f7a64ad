-- API: the sink without totals. Where Emission counts the bytes of a stretch from its start, this keeps what its
-- stretch said last, the bytes that it has not emitted, and its place in the AIS stream. Read from the end:
-- machine_after is what it keeps, gives what it emits; Laws says that this is the emission.
use Rattle.std.specs.Prelude.{ℕ, ◌+◌, ◌*◌, nat_le, List, [], ◌∷◌, ◌++◌, Bool, true, false, if◌then◌else◌, Option, Some, None, length, take, drop}
use Rattle.otn_base.specs.declared.limits.TheConstants.{NOMINAL}
use Rattle.tributary_model.specs.declared.turns.Hearing.{Hearing}
use Rattle.tributary_model.specs.declared.turns.Hearing.TheVariants.{Damaged, Lost, Pair}
use Rattle.tributary_model.specs.declared.turns.Said.{Said}
use Rattle.tributary_model.specs.declared.turns.Standing.{Standing}
use Rattle.tributary_model.specs.declared.turns.Standing.TheVariants.{Waiting, Down, Up}
use Rattle.tributary_model.specs.declared.turns.SinkState.{SinkState}
use Rattle.tributary_model.specs.declared.turns.SinkState.TheVariants.{Waiting as StateWaiting, Up as StateUp, Down as StateDown}
use Rattle.tributary_model.specs.Places.{Tributary, View}
use Rattle.tributary_model.specs.Messages.{hears_message}
use Rattle.tributary_model.specs.Stretches.{groups_of, any_marked}
use Rattle.tributary_model.specs.Emission.{data_bytes, stream_bytes}

-- what it keeps between two turns: how it stands, the bytes extracted and not yet emitted, and its place in the AIS
-- stream
pub record Machine : Type 0 where
  pub standing : Standing
  pub pending : List ℕ
  pub place : ℕ

-- the machine before the first turn
abbrev pub start : Machine
start = record { standing = Waiting 0; pending = []; place = 0 }

-- the number that a message is heard after
abbrev pub former_of : Standing → Option ℕ
former_of (Waiting n) = None
former_of Down = None
former_of (Up said) = Some said.cm

-- the number by which the groups of the next turn are data: the last one of the stretch, or 0 outside one
abbrev pub cm_of : Standing → ℕ
cm_of (Waiting n) = 0
cm_of Down = 0
cm_of (Up said) = said.cm

-- what is heard in a turn: nothing without a multiframe or where an own slot is marked
abbrev pub heard_in : Option ℕ → (m : ℕ) → (marked : Bool) → Option View → Option Hearing
heard_in former m true view = None
heard_in former m false None = None
heard_in former m false (Some view) = Some (hears_message former m view.message)

-- what is said in the first turn of a stretch, where a message begins one
abbrev pub first_said : Hearing → Option Said
first_said (Pair cm cnd true) = Some (record { cm = cm; cnd = cnd; damaged = 0; due = None })
first_said (Pair cm cnd false) = None
first_said Damaged = None
first_said Lost = None

-- the same of what a turn has: nothing where nothing is heard in it
abbrev pub begun : Option Hearing → Option Said
begun None = None
begun (Some heard) = first_said heard

-- what is said in the next turn, where the stretch goes on
abbrev pub next_said : Said → Hearing → Option Said
next_said said (Pair cm cnd equal) = Some
    (record { cm = cm; cnd = cnd; damaged = 0; due = Some said.cnd })
next_said said Lost = None
next_said said Damaged =
    if nat_le 2 said.damaged then None
    else Some (record { cm = said.cm; cnd = said.cnd; damaged = said.damaged + 1; due = Some said.cnd })

-- the same of what a turn has: the stretch ends where nothing is heard in it
abbrev pub gone_on : Option Hearing → Said → Option Said
gone_on None said = None
gone_on (Some heard) said = next_said said heard

-- the first turn after the one that began a stretch emits nothing, and each later one all that is pending and as many
-- of the bytes that it extracts as the remainder of two turns ago
abbrev pub given_of : Option ℕ → (pending fresh : List ℕ) → List ℕ
given_of None pending fresh = []
given_of (Some due) pending fresh = pending ++ take due fresh

-- what is pending after such a turn: all, where it emitted nothing, else the bytes that it extracted beyond those it
-- emitted
abbrev pub kept_of : Option ℕ → (pending fresh : List ℕ) → List ℕ
kept_of None pending fresh = pending ++ fresh
kept_of (Some due) pending fresh = drop due fresh

-- a turn in which no stretch begins, after n such turns: still Waiting, or Down from the third one on
abbrev pub waits_on : ℕ → Machine
waits_on n = if nat_le 2 n then record { standing = Down; pending = []; place = 0 }
    else record { standing = Waiting (n + 1); pending = []; place = 0 }

-- the machine after a turn that continues no stretch: Up where it begins one with what was said, else the other machine
abbrev pub opened : Option Said → Machine → Machine
opened (Some said) other = record { standing = Up said; pending = []; place = 0 }
opened None other = other

-- the machine after a turn before which it was Up: Up with what is said next and what is pending, or Down where the
-- stretch ended
abbrev pub went_on : Option Said → Said → (pending fresh : List ℕ) → Machine
went_on (Some next) said pending fresh = record {
  standing = Up next;
  pending = kept_of said.due pending fresh;
  place = 0;
}
went_on None said pending fresh = record { standing = Down; pending = []; place = 0 }

-- the machine after a turn in which this was heard, and these bytes extracted
abbrev pub after_standing : (m : ℕ) → Option Hearing → (fresh : List ℕ) → Machine → Standing → Machine
after_standing m heard fresh s (Waiting n) = opened (begun heard) (waits_on n)
after_standing m heard fresh s Down = opened (begun heard)
    (record { standing = Down; pending = []; place = s.place + m * NOMINAL })
after_standing m heard fresh s (Up said) = went_on (gone_on heard said) said s.pending fresh

-- the same, by how the machine itself stands
abbrev pub after_heard : (m : ℕ) → Option Hearing → (fresh : List ℕ) → Machine → Machine
after_heard m heard fresh s = after_standing m heard fresh s s.standing

-- what a turn after one that was Down emits: nothing where it begins a stretch, else the signal
abbrev pub down_gives : Option Said → List ℕ → List ℕ
down_gives (Some said) signal = []
down_gives None signal = signal

-- what a turn after one that was Up emits: where the stretch goes on as `given_of` says, where it ended all that was
-- pending
abbrev pub up_gives : Option Said → Said → (pending fresh : List ℕ) → List ℕ
up_gives (Some next) said pending fresh = given_of said.due pending fresh
up_gives None said pending fresh = pending

-- what a turn emits of a machine that stands so: nothing while Waiting; Down as `down_gives` says of the AIS stream; Up
-- as `up_gives` says
abbrev pub gives_standing : (m : ℕ) → (ais : ℕ → ℕ) → Option Hearing → (fresh : List ℕ) → Machine → Standing → List ℕ
gives_standing m ais heard fresh s (Waiting n) = []
gives_standing m ais heard fresh s Down = down_gives (begun heard) (stream_bytes ais s.place (m * NOMINAL))
gives_standing m ais heard fresh s (Up said) = up_gives (gone_on heard said) said s.pending fresh

-- the same, by how the machine itself stands
abbrev pub gives_heard : (m : ℕ) → (ais : ℕ → ℕ) → Option Hearing → (fresh : List ℕ) → Machine → List ℕ
gives_heard m ais heard fresh s = gives_standing m ais heard fresh s s.standing

-- the machine after a turn with this view
abbrev pub after : (m : ℕ) → (marked : Bool) → Option View → Machine → Machine
after m marked view s = after_heard m (heard_in (former_of s.standing) m marked view)
    (data_bytes (cm_of s.standing) (groups_of view)) s

-- what the machine emits in a turn with this view
abbrev pub gives : (m : ℕ) → (ais : ℕ → ℕ) → (marked : Bool) → Option View → Machine → List ℕ
gives m ais marked view s = gives_heard m ais (heard_in (former_of s.standing) m marked view)
    (data_bytes (cm_of s.standing) (groups_of view)) s

-- the machine after these turns, the last first
unfoldable pub machine_after : Tributary → List (Option View) → Machine
machine_after own [] = start
machine_after own (view ∷ past) = after (length own.slots) (any_marked own (view ∷ past)) view (machine_after own past)

-- how it stands, as a caller sees it
abbrev pub state_of_standing : Standing → SinkState
state_of_standing (Waiting n) = StateWaiting
state_of_standing Down = StateDown
state_of_standing (Up said) = StateUp
