-- API: what changes of a line from turn to turn, by what the view says of its turns so far, the last one first.
use Rattle.std.specs.Prelude.{◌≡◌, ◌==◌, ◌&&◌, ℕ, Bool, true, false, not, List, [], ◌∷◌, Option, Some, None, if◌then◌else◌}
use Rattle.view_events.specs.Tallies.{how_many, how_many_last, total_of}
use Rattle.view_events.specs.declared.said.Alignment.{Alignment}
use Rattle.view_events.specs.declared.said.Alignment.TheVariants.{Whole, Lost, Hunting, Ended}
use Rattle.view_events.specs.declared.said.TurnSaid.{TurnSaid}
use Rattle.view_events.specs.declared.line_events.LineEvent.{LineEvent}
use Rattle.view_events.specs.declared.line_events.LineEvent.TheVariants as event
use Rattle.view_events.specs.declared.line_events.LineTally.{LineTally}

-- the turn has its multiframe, lost it, or none was found
abbrev pub is_whole : Alignment → Bool
is_whole Whole = true
is_whole Lost = false
is_whole Hunting = false
is_whole Ended = false

abbrev pub is_lost : Alignment → Bool
is_lost Whole = false
is_lost Lost = true
is_lost Hunting = false
is_lost Ended = false

abbrev pub is_hunting : Alignment → Bool
is_hunting Whole = false
is_hunting Lost = false
is_hunting Hunting = true
is_hunting Ended = false

abbrev pub is_ended : Alignment → Bool
is_ended Whole = false
is_ended Lost = false
is_ended Hunting = false
is_ended Ended = true

-- how the last turn was aligned
abbrev pub last_alignment : List TurnSaid → Option Alignment
last_alignment [] = None
last_alignment (turn ∷ past) = Some turn.alignment

-- whether the last turn has its multiframe
abbrev pub whole_now : List TurnSaid → Bool
whole_now [] = false
whole_now (turn ∷ past) = is_whole turn.alignment

-- turns without a multiframe just before
abbrev pub turns_without : List TurnSaid → ℕ
turns_without past = how_many_last (λ turn. not (is_whole turn.alignment)) past

-- the event of a turn that is aligned so, after these turns
abbrev pub alignment_told : (past : List TurnSaid) → Alignment → LineEvent
alignment_told past Whole = event.Found (turns_without past)
alignment_told past Lost = event.Lost
alignment_told past Hunting = event.NotFound
alignment_told past Ended = event.Ended

-- G.798, as docs/ALARMS.md says it: the alignment is told where it is not that of the turn before, in the first turn,
-- and in each turn that loses its multiframe
abbrev pub alignment_event : (past : List TurnSaid) → Alignment → Option LineEvent
alignment_event [] alignment = Some (alignment_told [] alignment)
alignment_event (turn ∷ past) Lost = Some event.Lost
alignment_event (turn ∷ past) Whole = if is_whole turn.alignment then None
    else Some (alignment_told (turn ∷ past) Whole)
alignment_event (turn ∷ past) Hunting = if is_hunting turn.alignment then None else Some event.NotFound
alignment_event (turn ∷ past) Ended = if is_ended turn.alignment then None else Some event.Ended

-- frames that were passed over, where there are some
abbrev pub lead_in_event : TurnSaid → Option LineEvent
lead_in_event turn = if turn.lead_in == 0 then None else Some (event.PassedOver turn.lead_in)

-- frames with a wrong FAS, SM parity or PM parity, where there are some
abbrev pub error_event : TurnSaid → Option LineEvent
error_event turn = if (turn.fas == 0) && ((turn.sm == 0) && (turn.pm == 0)) then None
    else Some (event.Errors turn.fas turn.sm turn.pm)

-- the numbers of these turns
pub record LineStands (past : List TurnSaid) (tally : LineTally) : Type 0 where
  pub last : tally.last ≡ last_alignment past
  pub without : tally.without ≡ turns_without past
  pub whole : tally.whole ≡ how_many (λ turn. is_whole turn.alignment) past
  pub lost : tally.lost ≡ how_many (λ turn. is_lost turn.alignment) past
  pub hunting : tally.hunting ≡ how_many (λ turn. is_hunting turn.alignment) past
  pub fas : tally.fas ≡ total_of (λ turn. turn.fas) past
  pub sm : tally.sm ≡ total_of (λ turn. turn.sm) past
  pub pm : tally.pm ≡ total_of (λ turn. turn.pm) past
