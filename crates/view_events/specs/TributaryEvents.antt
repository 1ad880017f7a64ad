-- API: what changes of a tributary from turn to turn, by what the view says of it in the turns so far in which it was
-- shown, the last one first.
use Rattle.std.specs.Prelude.{◌≡◌, ◌&&◌, ◌+◌, ℕ, Bool, true, false, not, max, List, [], ◌∷◌, Option, Some, None, if◌then◌else◌}
use Rattle.std.specs.List.{find}
use Rattle.view_events.specs.LineEvents.{whole_now}
use Rattle.view_events.specs.SlotEvents.{is_wrong_twice, msi_bytes}
use Rattle.view_events.specs.declared.said.MsiSaid.{MsiSaid}
use Rattle.view_events.specs.declared.said.TurnSaid.{TurnSaid}
use Rattle.view_events.specs.Tallies.{capped, how_many, how_many_last}
use Rattle.view_events.specs.declared.said.SinkState.{SinkState}
use Rattle.view_events.specs.declared.said.SinkState.TheVariants.{Waiting, Up, Down}
use Rattle.view_events.specs.declared.said.TributarySaid.{TributarySaid}
use Rattle.view_events.specs.declared.tributary_events.Change.{Change}
use Rattle.view_events.specs.declared.tributary_events.Change.TheVariants as change
use Rattle.view_events.specs.declared.tributary_events.TributaryTally.{TributaryTally}

abbrev pub is_waiting : SinkState → Bool
is_waiting Waiting = true
is_waiting Up = false
is_waiting Down = false

abbrev pub is_up : SinkState → Bool
is_up Waiting = false
is_up Up = true
is_up Down = false

abbrev pub is_down : SinkState → Bool
is_down Waiting = false
is_down Up = false
is_down Down = true

-- how its sink stood after the last of these turns: it waits before its first
abbrev pub state_before : List TributarySaid → SinkState
state_before [] = Waiting
state_before (turn ∷ past) = turn.state

-- turns just before in which it was not up
abbrev pub turns_not_up : List TributarySaid → ℕ
turns_not_up past = how_many_last (λ turn. not (is_up turn.state)) past

-- turns in a row that it is down by now
abbrev pub turns_down : List TributarySaid → ℕ
turns_down past = how_many_last (λ turn. is_down turn.state) past

-- the most turns in a row that it was down
abbrev pub most_turns_down : List TributarySaid → ℕ
most_turns_down [] = 0
most_turns_down (turn ∷ past) = max (most_turns_down past) (turns_down (turn ∷ past))

-- how often it went down
abbrev pub times_down : List TributarySaid → ℕ
times_down [] = 0
times_down (turn ∷ past) =
    (if is_down turn.state && not (is_down (state_before past)) then 1 else 0) + times_down past

-- the first and the last turn in which it was shown
abbrev pub first_turn : List TributarySaid → ℕ
first_turn [] = 0
first_turn (turn ∷ []) = turn.turn
first_turn (turn ∷ before ∷ past) = first_turn (before ∷ past)

abbrev pub last_turn : List TributarySaid → ℕ
last_turn [] = 0
last_turn (turn ∷ past) = turn.turn

-- why it goes down, the first that fits: it was waiting; the turn has no multiframe; the last two MSI bytes of a slot,
-- the marked one, were wrong; else its messages are damaged
abbrev pub cause_of : (before : SinkState) → (whole : Bool) → (marked : Option ℕ) → Change
cause_of Waiting whole marked = change.NeverUp
cause_of Up false marked = change.NoMultiframe
cause_of Up true (Some slot) = change.WrongMsi slot
cause_of Up true None = change.Damaged
cause_of Down false marked = change.NoMultiframe
cause_of Down true (Some slot) = change.WrongMsi slot
cause_of Down true None = change.Damaged

-- SSF of the tributary begins or ends, as docs/ALARMS.md says it: its sink is up and was not, or is down and was not
abbrev pub change_of : (past : List TributarySaid) → TributarySaid → (whole : Bool) → (marked : Option ℕ)
    → Option Change
change_of past now whole marked = changed now.state
  where
    changed : SinkState → Option Change
    changed Up = if is_up (state_before past) then None else Some (change.Up now.cm now.cnd (turns_not_up past))
    changed Down = if is_down (state_before past) then None else Some (cause_of (state_before past) whole marked)
    changed Waiting = if is_waiting (state_before past) then None else Some change.Waiting

-- dMSIM: the first of its slots whose last two MSI bytes, since it is shown, are not that of its port
abbrev pub marked_slot : (bytes : List MsiSaid) → (past : List TributarySaid) → (slots : List ℕ) → (right : ℕ)
    → Option ℕ
marked_slot bytes past slots right = find (λ slot. is_wrong_twice (msi_bytes slot bytes) (first_turn past) right) slots

-- Its event in a turn of the line: by what is said of the line in its turns so far and of it, by the MSI bytes that
-- came up to then, and by the turns before in which it was shown.
abbrev pub tributary_event : (turns : List TurnSaid) → (bytes : List MsiSaid) → (past : List TributarySaid)
    → TributarySaid → (slots : List ℕ) → (right : ℕ) → Option Change
tributary_event turns bytes past now slots right =
    change_of past now (whole_now turns) (marked_slot bytes past slots right)

-- the numbers of these turns, but for the first one
pub record TributaryCounts (past : List TributarySaid) (tally : TributaryTally) : Type 0 where
  pub state : tally.state ≡ state_before past
  pub without : tally.without ≡ turns_not_up past
  pub up : tally.up ≡ how_many (λ turn. is_up turn.state) past
  pub waiting : tally.waiting ≡ how_many (λ turn. is_waiting turn.state) past
  pub down : tally.down ≡ how_many (λ turn. is_down turn.state) past
  pub times : tally.times ≡ capped (times_down past)
  pub row : tally.row ≡ turns_down past
  pub longest : tally.longest ≡ most_turns_down past
  pub last : tally.last ≡ last_turn past

-- the numbers of these turns
pub record TributaryStands (past : List TributarySaid) (tally : TributaryTally) : Type 0 where
  pub counts : TributaryCounts past tally
  pub first : tally.first ≡ first_turn past
