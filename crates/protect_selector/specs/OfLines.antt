-- Believed: what 1+1 protection gives on of a tributary of two lines. Working and protection are all bytes of each;
-- turns count from 0 here: turn t is the lines' turn t + 1.
use Rattle.std.specs.Prelude.{ℕ, zero, suc, ◌+◌, List, [], ◌∷◌, ◌++◌, Option, Some, None, length, drop, codes}
use Rattle.std.specs.Fmt.{decimal}
use Rattle.tributary_model.specs.Places.{Tributary}
use Rattle.tributary_model.specs.Stretches.{state_after}
use Rattle.device_model.specs.LineViews.{views_until, emitted_at}
use Rattle.protect_selector.specs.declared.side.Choice.{Choice}
use Rattle.protect_selector.specs.declared.side.Side.{Side}
use Rattle.protect_selector.specs.declared.side.Side.TheVariants.{Working, Protection}
use Rattle.protect_selector.specs.declared.side.SwitchCause.{SwitchCause}
use Rattle.protect_selector.specs.declared.side.SwitchCause.TheVariants.{Defect, Restored}
use Rattle.protect_selector.specs.Selected.{SideTurn, BothTurn, choice_in}

-- what the sink of the tributary comes to in turn t of a line
abbrev pub side_turn : Tributary → (available : List ℕ) → (t : ℕ) → SideTurn
side_turn own available t = record {
  state = state_after own (views_until own available (suc t));
  bytes = length (emitted_at own available t);
}

abbrev pub both_turn : Tributary → (working protection : List ℕ) → (t : ℕ) → BothTurn
both_turn own working protection t = record {
  working = side_turn own working t;
  protection = side_turn own protection t;
}

-- the turns before turn t, the last first
unfoldable pub turns_before : Tributary → (working protection : List ℕ) → (t : ℕ) → List BothTurn
turns_before own working protection zero = []
turns_before own working protection (suc t) = both_turn own working protection t ∷ turns_before own working protection t

-- the choice in turn t
unfoldable pub choice_at : Tributary → (n : ℕ) → (working protection : List ℕ) → (t : ℕ) → Choice
choice_at own n working protection t = choice_in (length own.slots) n (both_turn own working protection t)
    (turns_before own working protection t)

-- the bytes of a side, of those of both
abbrev pub bytes_of : Side → (working protection : List ℕ) → List ℕ
bytes_of Working working protection = working
bytes_of Protection working protection = protection

-- the bytes given on in it
unfoldable pub due_at : Tributary → (n : ℕ) → (working protection : List ℕ) → (t : ℕ) → List ℕ
due_at own n working protection t =
    let choice = choice_at own n working protection t in
    drop choice.skip (emitted_at own (bytes_of choice.side working protection) t)

-- those of the turns before turn t, the first one first
unfoldable pub due_before : Tributary → (n : ℕ) → (working protection : List ℕ) → (t : ℕ) → List (List ℕ)
due_before own n working protection zero = []
due_before own n working protection (suc t) = due_before own n working protection t
    ++ due_at own n working protection t ∷ []

-- ---- the report

abbrev pub side_word : Side → List ℕ
side_word Working = codes "working"
side_word Protection = codes "protection"

abbrev pub cause_word : SwitchCause → List ℕ
cause_word Defect = codes "defect"
cause_word Restored = codes "restored"

-- the line of turn t, where there is a switch in it
abbrev pub switch_line : (t : ℕ) → Side → Option SwitchCause → List ℕ
switch_line t side None = []
switch_line t side (Some cause) = codes "turn " ++ decimal (t + 1) ++ codes " " ++ side_word side ++ codes " "
    ++ cause_word cause ++ codes "\n"

abbrev pub switch_text_at : Tributary → (n : ℕ) → (working protection : List ℕ) → (t : ℕ) → List ℕ
switch_text_at own n working protection t = let choice =
    choice_at own n working protection t in switch_line t choice.side choice.cause

-- those of the turns before turn t
unfoldable pub switch_text : Tributary → (n : ℕ) → (working protection : List ℕ) → (t : ℕ) → List ℕ
switch_text own n working protection zero = []
switch_text own n working protection (suc t) = switch_text own n working protection t
    ++ switch_text_at own n working protection t
