-- Believed: the stretches in which a sink follows its tributary. Turns are listed with the last first: a past is the
-- views of all turns since the sink began, its course. Read from the end: course, next_part, fit and goes_on.
use Rattle.std.specs.Prelude.{ℕ, ◌==◌, nat_lt, List, [], ◌∷◌, ◌++◌, Bool, true, false, not, ◌&&◌, if◌then◌else◌, Option, Some, None, length, map, filter}
use Rattle.std.specs.List.{list_any}
use Rattle.msi_table.specs.Marks.{is_marked}
use Rattle.tributary_model.specs.declared.turns.Hearing.{Hearing}
use Rattle.tributary_model.specs.declared.turns.Hearing.TheVariants.{Damaged, Pair}
use Rattle.tributary_model.specs.declared.turns.SinkState.{SinkState}
use Rattle.tributary_model.specs.declared.turns.SinkState.TheVariants.{Waiting, Up, Down}
use Rattle.tributary_model.specs.Places.{Tributary, View}
use Rattle.tributary_model.specs.Messages.{hears_message}

-- ---- marked slots

-- the groups of a turn: none where it has no multiframe
abbrev pub groups_of : Option View → List (List ℕ)
groups_of None = []
groups_of (Some view) = view.groups

-- the MSI bytes of slot k: those among bytes with their slots, those of a turn, and those of all turns, as they came
abbrev pub bytes_of : (k : ℕ) → List (ℕ × ℕ) → List ℕ
bytes_of k msi = map (λ p. p.1) (filter (λ p. p.0 == k) msi)

abbrev pub msi_of : (k : ℕ) → Option View → List ℕ
msi_of k None = []
msi_of k (Some view) = bytes_of k view.msi

unfoldable pub msi_read : (k : ℕ) → List (Option View) → List ℕ
msi_read k [] = []
msi_read k (view ∷ past) = msi_read k past ++ msi_of k view

-- whether an own slot is marked after these turns: the last two of its MSI bytes that came were both wrong
abbrev pub any_marked : Tributary → List (Option View) → Bool
any_marked own past = list_any (λ k. is_marked own.port (msi_read k past)) own.slots

-- ---- stretches

-- a turn of a stretch: what its message was heard as, its pair C and D, and its groups
pub record Member : Type 0 where
  pub heard : Hearing
  pub cm : ℕ
  pub cnd : ℕ
  pub groups : List (List ℕ)

-- What a turn is: in no stretch, Waiting or Down; or in a stretch, whose turns so far are listed with this one first;
-- or the ending turn of a stretch, whose turns before this one are listed. The word is of what the turn emits: after
-- the third Waiting turn, and after an ending one, the sink is Down.
pub data Part : Type 0 where
  WaitingTurn : Part
  DownTurn : Part
  StretchTurn : List Member → Part
  EndingTurn : List Member → Part

-- A turn as the first of a stretch, where it is fit: it has a multiframe, no own slot is marked, and its message, heard
-- after no number, is a pair with equal indicators.
abbrev pub fit_pair : View → Hearing → Option Member
fit_pair view (Pair cm cnd true) = Some (record { heard = Pair cm cnd true; cm = cm; cnd = cnd; groups = view.groups })
fit_pair view other = None

abbrev pub fit : Tributary → (marked : Bool) → Option View → Option Member
fit own false (Some view) = fit_pair view (hears_message None (length own.slots) view.message)
fit own marked view = None

-- whether a message is damaged, and whether the last two of a stretch were
abbrev pub is_damaged : Hearing → Bool
is_damaged Damaged = true
is_damaged other = false

abbrev pub two_damaged : List Member → Bool
two_damaged (last ∷ before ∷ earlier) = is_damaged last.heard && is_damaged before.heard
two_damaged other = false

-- The next turn of a stretch, its message heard after the last number: with the pair heard, or with the last again
-- where the message is damaged. There is none, and the stretch ends, where the message is lost, or damaged after two
-- damaged ones, where the turn has no multiframe, or where an own slot is marked.
abbrev pub goes_on_with : View → (two : Bool) → (last : Member) → Hearing → Option Member
goes_on_with view two last (Pair cm cnd equal) = Some
    (record { heard = Pair cm cnd equal; cm = cm; cnd = cnd; groups = view.groups })
goes_on_with view false last Damaged = Some
    (record { heard = Damaged; cm = last.cm; cnd = last.cnd; groups = view.groups })
goes_on_with view two last other = None

abbrev pub goes_on : Tributary → (marked : Bool) → Option View → List Member → Option Member
goes_on own false (Some view) (last ∷ before) =
    goes_on_with view (two_damaged (last ∷ before)) last (hears_message (Some last.cm) (length own.slots) view.message)
goes_on own marked view stretch = None

-- Whether a turn is of a stretch, or ends one. A turn in no stretch that begins none: Waiting where no turn before it
-- was such a one and it is one of the first three, else Down.
abbrev pub is_of_stretch : Part → Bool
is_of_stretch WaitingTurn = false
is_of_stretch DownTurn = false
is_of_stretch other = true

abbrev pub idle : List Part → Part
idle parts = if nat_lt (length parts) 3 && not (list_any is_of_stretch parts) then WaitingTurn else DownTurn

-- what a turn is after these: one that is fit and stands in no stretch begins one; one after a stretch's last turn is
-- of the same stretch where that goes on, else its ending turn
abbrev pub opens : List Part → Option Member → Part
opens parts (Some first) = StretchTurn (first ∷ [])
opens parts None = idle parts

abbrev pub continues : List Member → Option Member → Part
continues stretch (Some next) = StretchTurn (next ∷ stretch)
continues stretch None = EndingTurn stretch

abbrev pub next_part : Tributary → (marked : Bool) → Option View → List Part → Part
next_part own marked view (StretchTurn stretch ∷ parts) = continues stretch (goes_on own marked view stretch)
next_part own marked view parts = opens parts (fit own marked view)

-- The course of a sink: what each of its turns is, the last first.
unfoldable pub course : Tributary → List (Option View) → List Part
course own [] = []
course own (view ∷ past) = let before = course own past in next_part own (any_marked own (view ∷ past)) view before
    ∷ before

-- how the sink stands after these turns, or those of these views: Up within a stretch, Waiting after no turn, one or
-- two where no stretch began, else Down
abbrev pub state_of : List Part → SinkState
state_of [] = Waiting
state_of (StretchTurn stretch ∷ parts) = Up
state_of (WaitingTurn ∷ parts) = if nat_lt (length parts) 2 then Waiting else Down
state_of other = Down

abbrev pub state_after : Tributary → List (Option View) → SinkState
state_after own past = state_of (course own past)
