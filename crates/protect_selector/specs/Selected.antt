-- Believed: what 1+1 protection gives on (G.873.1: unidirectional, without APS). Turns of both lines are listed with
-- the last first.
use Rattle.std.specs.Prelude.{ℕ, suc, ◌+◌, ◌-◌, ◌%◌, min, nat_lt, nat_le, List, [], ◌∷◌, Bool, true, false, not, ◌&&◌, if◌then◌else◌, Option, Some, None}
use Rattle.tributary_model.specs.declared.turns.SinkState.{SinkState}
use Rattle.tributary_model.specs.declared.turns.SinkState.TheVariants.{Waiting, Up, Down}
use Rattle.protect_selector.specs.declared.side.Side.{Side}
use Rattle.protect_selector.specs.declared.side.Side.TheVariants.{Working, Protection}
use Rattle.protect_selector.specs.declared.side.SwitchCause.{SwitchCause}
use Rattle.protect_selector.specs.declared.side.SwitchCause.TheVariants.{Defect, Restored}
use Rattle.protect_selector.specs.declared.side.Choice.{Choice}

-- a turn of one line: how its sink stands after it, and how many bytes it emits in it
pub record SideTurn : Type 0 where
  pub state : SinkState
  pub bytes : ℕ

-- a turn of both
pub record BothTurn : Type 0 where
  pub working : SideTurn
  pub protection : SideTurn

abbrev pub of_side : Side → BothTurn → SideTurn
of_side Working now = now.working
of_side Protection now = now.protection

abbrev pub other : Side → Side
other Working = Protection
other Protection = Working

abbrev pub is_protection : Side → Bool
is_protection Working = false
is_protection Protection = true

abbrev pub is_up : SinkState → Bool
is_up Waiting = false
is_up Up = true
is_up Down = false

-- ---- when the side changes

-- for how many turns in a row, the last of them this one, the working line's sink is Up
abbrev pub turns_up : List BothTurn → ℕ
turns_up [] = 0
turns_up (now ∷ past) = if is_up now.working.state then suc (turns_up past) else 0

-- the side has a defect that the other has not: it is not Up, and the other is
abbrev pub has_defect : Side → BothTurn → Bool
has_defect side now = not (is_up (of_side side now).state) && is_up (of_side (other side) now).state

-- Revertive operation, n turns of waiting to restore: the side is protection, and working was Up after each of the last
-- n turns. With n = 0 the operation is non-revertive.
abbrev pub is_restored : (n : ℕ) → Side → List BothTurn → Bool
is_restored n side turns = is_protection side && nat_lt 0 n && nat_le n (turns_up turns)

-- the cause of a switch in the first of these turns, where this was the side before it
abbrev pub cause_in : (n : ℕ) → Side → (now : BothTurn) → (past : List BothTurn) → Option SwitchCause
cause_in n side now past = if has_defect side now then Some Defect else if is_restored n side (now ∷ past)
    then Some Restored else None

-- the side after it
abbrev pub side_by : Side → Option SwitchCause → Side
side_by side None = side
side_by side (Some cause) = other side

-- ---- what is given on

-- how many bytes a side emitted in these turns
abbrev pub emitted_by_side : Side → List BothTurn → ℕ
emitted_by_side side [] = 0
emitted_by_side side (now ∷ past) = emitted_by_side side past + (of_side side now).bytes

-- after some turns: the side, how many of its next bytes are still to be skipped, and how many bytes were given on in
-- all
pub record Selection : Type 0 where
  pub side : Side
  pub to_skip : ℕ
  pub due : ℕ

-- What is skipped of a side from a switch on, so that groups of m bytes stay whole: the number of bytes given on less
-- that of the bytes that the side emitted before, modulo m.
abbrev pub skip_at_switch : (m due emitted : ℕ) → ℕ
skip_at_switch m due emitted = (due + (m - emitted % m)) % m

-- what is still to be skipped when a turn of this side begins
abbrev pub to_skip_in : (m emitted : ℕ) → Option SwitchCause → Selection → ℕ
to_skip_in m emitted None before = before.to_skip
to_skip_in m emitted (Some cause) before = skip_at_switch m before.due emitted

-- the choice in a turn: as many are skipped as are to be, where the emission has so many
abbrev pub choice_by : (to_skip bytes : ℕ) → Side → Option SwitchCause → Choice
choice_by to_skip bytes side cause = record { side = side; skip = min to_skip bytes; cause = cause }

abbrev pub choice_after : (m n : ℕ) → Selection → (now : BothTurn) → (past : List BothTurn) → Choice
choice_after m n before now past =
    let cause = cause_in n before.side now past in
    let side = side_by before.side cause in
    choice_by (to_skip_in m (emitted_by_side side past) cause before) (of_side side now).bytes side cause

-- how it stands after that turn
abbrev pub selection_after : (m n : ℕ) → Selection → (now : BothTurn) → (past : List BothTurn) → Selection
selection_after m n before now past =
    let choice = choice_after m n before now past in record {
      side = choice.side;
      to_skip = to_skip_in m (emitted_by_side choice.side past) choice.cause before - choice.skip;
      due = before.due + ((of_side choice.side now).bytes - choice.skip);
    }

-- the selection of m slots after these turns: working before the first
unfoldable pub selection : (m n : ℕ) → List BothTurn → Selection
selection m n [] = record { side = Working; to_skip = 0; due = 0 }
selection m n (now ∷ past) = selection_after m n (selection m n past) now past

-- what is chosen in the first of these turns
abbrev pub choice_in : (m n : ℕ) → (now : BothTurn) → (past : List BothTurn) → Choice
choice_in m n now past = choice_after m n (selection m n past) now past
