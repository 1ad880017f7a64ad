-- Steps of `cause_of` and `to_skip_in`: what private contracts alone cite, beside the definitions of `Selector`.
use Rattle.std.specs.Prelude.{ℕ, ◌+◌, ◌-◌, ◌%◌, nat_lt, nat_le, not, ◌&&◌, if◌then◌else◌, Option, Some, None}
use Rattle.tributary_model.specs.declared.turns.SinkState.{SinkState}
use Rattle.protect_selector.specs.declared.side.Side.{Side}
use Rattle.protect_selector.specs.declared.side.Side.TheVariants.{Working, Protection}
use Rattle.protect_selector.specs.declared.side.SwitchCause.{SwitchCause}
use Rattle.protect_selector.specs.declared.side.SwitchCause.TheVariants.{Defect, Restored}
use Rattle.protect_selector.specs.Selected.{is_up, is_protection}

abbrev pub state_by : Side → (working protection : SinkState) → SinkState
state_by Working working protection = working
state_by Protection working protection = protection

-- the cause of a switch, by how the sinks of the side and of the other stand, where working was Up for so many turns
abbrev pub cause_by : (n up : ℕ) → Side → (own beside : SinkState) → Option SwitchCause
cause_by n up side own beside =
    if not (is_up own) && is_up beside then Some Defect
    else if is_protection side && nat_lt 0 n && nat_le n up then Some Restored else None

-- what is to be skipped in a turn, by counts modulo m
abbrev pub to_skip_by : (m emitted : ℕ) → Option SwitchCause → (skip due : ℕ) → ℕ
to_skip_by m emitted None skip due = skip
to_skip_by m emitted (Some cause) skip due = (due + (m - emitted)) % m
