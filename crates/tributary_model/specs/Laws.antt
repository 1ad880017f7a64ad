-- API: what is proved of the definitions.
use Rattle.std.specs.Prelude.{◌≡◌, ℕ, suc, ◌+◌, ◌*◌, ◌/◌, ◌<◌, ◌≤◌, List, [], ◌∷◌, Option, length}
use Rattle.otn_base.specs.declared.limits.TheConstants.{PAYLOAD_COLUMNS}
use Rattle.otn_base.specs.SlotList.{IsSlotList}
use Rattle.tributary_model.specs.Places.{Tributary, View, Taken, byte_at, IsOwn, view_of, IsWhole, AreWholeTurns}
use Rattle.tributary_model.specs.Stretches.{any_marked, next_part, course, state_after}
use Rattle.tributary_model.specs.Emission.{emission, amount_of, emitted_so_far}
use Rattle.tributary_model.specs.Machine.{machine_after, gives, state_of_standing}

-- A tributary whose slots are slots of its line, on a line whose slots share the 3,808 payload columns evenly.
pub record IsTributary (own : Tributary) : Type 0 where
  pub slots : IsSlotList own.line_slots own.slots
  pub even : own.line_slots * (PAYLOAD_COLUMNS / own.line_slots) ≡ PAYLOAD_COLUMNS

-- two frames that stand as frame n of a multiframe agree at each own place
pub record SameOwnPlaces (own : Tributary) (n : ℕ) (one other : Taken) : Type 0 where
  pub expected : one.expected ≡ other.expected
  pub bytes : (row column : ℕ) → IsOwn own n one.expected row column
      → byte_at one.frame row column ≡ byte_at other.frame row column

-- so do as many frames, from frame n on
abbrev pub AllSameOwnPlaces : Tributary → (n : ℕ) → (frames others : List Taken) → Type 0
AllSameOwnPlaces own n [] [] = Unit {0}
AllSameOwnPlaces own n [] (other ∷ others) = ⊥
AllSameOwnPlaces own n (one ∷ frames) [] = ⊥
AllSameOwnPlaces own n (one ∷ frames) (other ∷ others) = SameOwnPlaces own n one other
    × AllSameOwnPlaces own (suc n) frames others

-- The view of a multiframe is fixed by its own places and the numbers expected of its frames.
abbrev pub IsFixedByOwnPlaces : Type 0
IsFixedByOwnPlaces = (own : Tributary) (frames others : List Taken) → IsTributary own
    → AllSameOwnPlaces own 0 frames others → view_of own frames ≡ view_of own others

-- As many frames as the line has slots give a whole view.
abbrev pub GivesWholeViews : Type 0
GivesWholeViews = (own : Tributary) (frames : List Taken) → IsTributary own → length frames ≡ own.line_slots
    → IsWhole (length own.slots) (view_of own frames)

-- A turn emits as many bytes as the totals say.
abbrev pub EmitsTheAmount : Type 0
EmitsTheAmount = (own : Tributary) (ais : ℕ → ℕ) (past : List (Option View)) (view : Option View)
    → 0 < length own.slots → AreWholeTurns (length own.slots) (view ∷ past)
    → length (emission own ais past view)
    ≡ amount_of (length own.slots) (next_part own (any_marked own (view ∷ past)) view (course own past))

-- In every turn after any others, the sink without totals gives the emission by totals, whatever the AIS stream is.
abbrev pub GivesTheEmission : Type 0
GivesTheEmission = (own : Tributary) (ais : ℕ → ℕ) (past : List (Option View)) (view : Option View)
    → 0 < length own.slots → AreWholeTurns (length own.slots) (view ∷ past)
    → gives (length own.slots) ais (any_marked own (view ∷ past)) view (machine_after own past)
    ≡ emission own ais past view

-- It stands as the definition says.
abbrev pub StandsAsDefined : Type 0
StandsAsDefined = (own : Tributary) (past : List (Option View)) → 0 < length own.slots
    → AreWholeTurns (length own.slots) past
    → state_of_standing (machine_after own past).standing ≡ state_after own past

-- A tributary of m slots never emits more than so many bytes in a turn.
abbrev pub EmitsAtMost : (m most : ℕ) → Type 0
EmitsAtMost m most = (own : Tributary) (ais : ℕ → ℕ) (past : List (Option View)) (view : Option View)
    → length own.slots ≡ m → AreWholeTurns m (view ∷ past) → length (emission own ais past view) ≤ most

-- In no turn does it complete more than so many groups of the bytes emitted since its start.
abbrev pub CompletesAtMost : (m most : ℕ) → Type 0
CompletesAtMost m most = (own : Tributary) (ais : ℕ → ℕ) (past : List (Option View)) (view : Option View)
    → length own.slots ≡ m → AreWholeTurns m (view ∷ past)
    → emitted_so_far own ais (view ∷ past) / m ≤ emitted_so_far own ais past / m + most
