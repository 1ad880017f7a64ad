-- API: what a view says of a line, as text: a line for the line itself, then for each turn one of the turn, one of each
-- MSI byte that came in it and one of each tributary that is shown in it, and a last one where the turns are over.
use Rattle.std.specs.Prelude.{ℕ, ◌+◌, ◌-◌, ◌/◌, ◌%◌, ◌&&◌, nat_le, nat_lt, if◌then◌else◌, Bool, true, false, List, [], ◌∷◌, ◌++◌, Option, Some, None, codes, length, is_some}
use Rattle.std.specs.Fmt.{decimal}
use Rattle.std.specs.List.{flat_map, range_with_len}
use Rattle.otn_base.specs.declared.line_kind.LineKind.{LineKind}
use Rattle.otn_base.specs.declared.line_kind.LineKind.TheVariants.{Otu2, Otu3}
use Rattle.line_side.specs.LineFile.{mfas_of}
use Rattle.line_side.specs.LineForm.{LineForm, size_of}
use Rattle.line_side.specs.LineNumbers.{numbers_of}
use Rattle.line_side.specs.Reader.{rest_of}
use Rattle.line_side.specs.declared.counts.LineCounts.{LineCounts}
use Rattle.line_side.specs.declared.ending.Ending.{Ending}
use Rattle.line_side.specs.declared.ending.Ending.TheVariants.{Open}
use Rattle.maintenance_signals.specs.Stream.{signal_byte}
use Rattle.maintenance_signals.specs.declared.signal.Signal.TheVariants.{Ais}
use Rattle.multiframe.specs.LineTurns.{line_state, multiframe, has_ended}
use Rattle.tributary_line.specs.TurnsDone.{turns_of}
use Rattle.tributary_model.specs.Carries.{past_of}
use Rattle.tributary_model.specs.Emission.{emission}
use Rattle.tributary_model.specs.Places.{Tributary, View}
use Rattle.tributary_model.specs.Stretches.{state_after}
use Rattle.tributary_model.specs.declared.turns.SinkState.{SinkState}
use Rattle.tributary_model.specs.declared.turns.SinkState.TheVariants.{Waiting, Up, Down}
use Rattle.trib_sink.specs.Pairs.{pair_after}
use Rattle.device_model.specs.LineViews.{view_at}
use Rattle.line_view.specs.declared.told.Told.{Told}
use Rattle.line_view.specs.declared.told.TurnCounts.{TurnCounts}
use Rattle.line_view.specs.declared.told.TurnSeen.{TurnSeen}

-- ---- what is shown

-- A tributary that a view shows: its name, its port and slots, how many turns of the line are past before its first,
-- and its last turn.
pub record Showing : Type 0 where
  pub name : List ℕ
  pub own : Tributary
  pub first : ℕ
  pub stop : ℕ

-- its first turn is turn t + 1, or before it
abbrev pub has_begun : Showing → (t : ℕ) → Bool
has_begun showing t = nat_le showing.first t

-- turn t + 1 is one of its turns, of which the first and the last are two
abbrev pub is_shown : Showing → (t : ℕ) → Bool
is_shown showing t = has_begun showing t && nat_lt t showing.stop

-- ---- what a turn says

-- how much the numbers of a line grew
abbrev pub counts_between : (was is : LineCounts) → TurnCounts
counts_between was is = record {
  frames = is.frames - was.frames;
  lead_in = is.lead_in - was.lead_in;
  lost = is.lost - was.lost;
  fas = is.fas - was.fas;
  sm = is.sm - was.sm;
  pm = is.pm - was.pm;
}

-- Turn t + 1 of a line of these bytes: whether the line has ended with it, whether it has a multiframe, and how much
-- the line's numbers grew in it.
abbrev pub seen_at : LineForm → (available : List ℕ) → (t : ℕ) → TurnSeen
seen_at form available t = record {
  ended = has_ended (line_state (size_of form) (mfas_of available) (t + 1));
  whole = is_some (multiframe (size_of form) (mfas_of available) t);
  counts = counts_between (numbers_of form Open available t 0) (numbers_of form Open available (t + 1) 0);
}

-- The turn of this view after these, of a tributary: how its sink stands after it, the pair of its numbers, and how
-- many bytes it emitted in it.
abbrev pub told_of : Tributary → List (Option View) → Option View → Told
told_of own past view = record {
  state = state_after own (view ∷ past);
  pair = pair_after own (view ∷ past);
  bytes = length (emission own (signal_byte Ais) past view);
}

-- what the turns first + 1 to t of a line of these bytes show of a tributary, the last first
unfoldable pub views_from : Tributary → (first : ℕ) → (available : List ℕ) → (t : ℕ) → List (Option View)
views_from own first available t = past_of (view_at own available) first (t - first)

-- turn t + 1 of a line of these bytes, of a tributary whose sink begins with turn first + 1
unfoldable pub told_at : Tributary → (first : ℕ) → (available : List ℕ) → (t : ℕ) → Told
told_at own first available t = told_of own (views_from own first available t) (view_at own available t)

-- all slots of a line of this form, as those of one tributary
abbrev pub all_slots : LineForm → Tributary
all_slots form = record { line_slots = size_of form; slots = range_with_len 1 (size_of form); port = 0 }

-- the MSI bytes of a view, each with its slot
abbrev pub msi_shown : Option View → List (ℕ × ℕ)
msi_shown None = []
msi_shown (Some view) = view.msi

-- G.709 clause 19.4.1: the MSI bytes that came in turn t + 1 of a line of these bytes, each with its slot; none where
-- it has no multiframe
unfoldable pub msi_at_turn : LineForm → (available : List ℕ) → (t : ℕ) → List (ℕ × ℕ)
msi_at_turn form available t = msi_shown (view_at (all_slots form) available t)

-- ---- words

abbrev pub kind_word : LineKind → List ℕ
kind_word Otu2 = codes "otu2"
kind_word Otu3 = codes "otu3"

abbrev pub mask_word : (scrambled : Bool) → List ℕ
mask_word false = codes "plain"
mask_word true = codes "scrambled"

-- a turn with which the line ended; with its multiframe; that lost it; or in which none was found
abbrev pub align_word : (ended whole lost : Bool) → List ℕ
align_word true whole lost = codes "end"
align_word false true lost = codes "whole"
align_word false false true = codes "lost"
align_word false false false = codes "none"

abbrev pub state_word : SinkState → List ℕ
state_word Waiting = codes "waiting"
state_word Up = codes "up"
state_word Down = codes "down"

-- numbers of slots, with commas between them
abbrev pub slots_text : List ℕ → List ℕ
slots_text [] = []
slots_text (k ∷ slots) = decimal k ++ flat_map (λ s. codes "," ++ decimal s) slots

-- Cm and CnD, or a mark for each where the tributary is not up
abbrev pub pair_text : Option (ℕ × ℕ) → List ℕ
pair_text None = codes " cm - cnd -"
pair_text (Some pair) = codes " cm " ++ decimal (pair.0) ++ codes " cnd " ++ decimal (pair.1)

-- a digit of a number to the base 16
abbrev pub hex_digit : ℕ → ℕ
hex_digit n = if nat_lt n 10 then 48 + n else 87 + n

-- a byte, as two of them
unfoldable pub hex_text : ℕ → List ℕ
hex_text byte = hex_digit (byte / 16) ∷ hex_digit (byte % 16) ∷ []

-- ---- lines

-- the line: its kind, and whether it is scrambled
abbrev pub head_line : LineKind → (scrambled : Bool) → List ℕ
head_line kind scrambled = codes "line " ++ kind_word kind ++ codes " " ++ mask_word scrambled ++ codes "\n"

-- a turn, with its number
unfoldable pub turn_line : (number : ℕ) → TurnSeen → List ℕ
turn_line number seen =
    codes "turn " ++ decimal number ++ codes " " ++ align_word seen.ended seen.whole (nat_lt 0 seen.counts.lost)
    ++ codes " frames " ++ decimal seen.counts.frames ++ codes " lead-in " ++ decimal seen.counts.lead_in
    ++ codes " fas " ++ decimal seen.counts.fas
    ++ codes " sm " ++ decimal seen.counts.sm ++ codes " pm " ++ decimal seen.counts.pm ++ codes "\n"

-- the MSI byte of a slot
unfoldable pub msi_line : ℕ × ℕ → List ℕ
msi_line pair = codes "msi " ++ decimal (pair.0) ++ codes " " ++ hex_text (pair.1) ++ codes "\n"

-- what a turn says of a tributary, behind its name and port
unfoldable pub told_text : (slots : List ℕ) → Told → List ℕ
told_text slots told =
    codes " slots " ++ slots_text slots ++ codes " " ++ state_word told.state ++ pair_text told.pair ++ codes " bytes "
    ++ decimal told.bytes ++ codes "\n"

-- a tributary in a turn, with its name
unfoldable pub tributary_line : (name : List ℕ) → (port : ℕ) → (slots : List ℕ) → Told → List ℕ
tributary_line name port slots told = codes "tributary " ++ name ++ codes " port " ++ decimal port
    ++ told_text slots told

-- the end: how many turns were done, and how many bytes came after the last whole frame
abbrev pub end_line : (turns rest : ℕ) → List ℕ
end_line turns rest = codes "end turns " ++ decimal turns ++ codes " rest " ++ decimal rest ++ codes "\n"

-- ---- the whole

-- turn t + 1 of a tributary: its line, where the turn is one of its turns
abbrev pub showing_text : (available : List ℕ) → (t : ℕ) → Showing → List ℕ
showing_text available t x = if is_shown x t then tributary_line x.name x.own.port x.own.slots
    (told_at x.own x.first available t) else []

-- turn t + 1: its line, one for each MSI byte that came in it, and one for each tributary that is shown in it
unfoldable pub turn_text : LineForm → List Showing → (available : List ℕ) → (t : ℕ) → List ℕ
turn_text form shows available t =
    turn_line (t + 1) (seen_at form available t)
    ++ (flat_map msi_line (msi_at_turn form available t) ++ flat_map (showing_text available t) shows)

-- the lines up to turn t: that of the line, and those of each turn
abbrev pub text_until : LineForm → List Showing → (available : List ℕ) → (t : ℕ) → List ℕ
text_until form shows available t = head_line form.kind form.scrambled
    ++ flat_map (turn_text form shows available) (range_with_len 0 t)

-- What a view says of a line of these bytes, through its mask, that ended so, and of these tributaries on it, in this
-- order.
unfoldable pub view_text : LineForm → List Showing → Ending → (available : List ℕ) → List ℕ
view_text form shows ending available =
    head_line form.kind form.scrambled ++
    (flat_map (turn_text form shows available) (turns_of (size_of form) (mfas_of available))
    ++ end_line (length (turns_of (size_of form) (mfas_of available))) (rest_of ending available))
