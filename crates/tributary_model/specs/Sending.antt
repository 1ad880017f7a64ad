-- API: what a source puts carries its bytes.
use Rattle.std.specs.Prelude.{◌≡◌, ℕ, ◌+◌, ◌-◌, ◌≤◌, List, [], ◌∷◌, Option, Some, length, take, reverse, slice_get}
use Rattle.std.specs.List.{concat, Contains}
use Rattle.otn_base.specs.declared.limits.TheConstants.{GROUPS, MOST_SLOTS}
use Rattle.msi_table.specs.Marks.{msi_byte}
use Rattle.tributary_model.specs.Places.{Tributary, Taken, View, byte_at, IsOwnMsi, view_of, turn_view, IsWholeTurn}
use Rattle.tributary_model.specs.Laws.{IsTributary}
use Rattle.tributary_model.specs.Carries.{cm_in, cm_before, CarriesTurn, Carries, IsSteady, past_of}
use Rattle.tributary_model.specs.Damage.{emissions}
use Rattle.tributary_model.specs.Carriage.{Arrives}
use Rattle.tributary_model.specs.Passing.{SendsOn}
use Rattle.tributary_model.specs.Puts.{lengths_of, IsPut, IsSourcePlace, WasPut}

-- A tributary of a line that can be sent: its remainders fit the ten bits of a message. Lines have 8 or 32 slots.
pub record IsSent (own : Tributary) : Type 0 where
  pub tributary : IsTributary own
  pub few : length own.slots ≤ MOST_SLOTS

-- the frames of a multiframe that have what the source puts in turn t, and whose own MSI bytes are the port's
pub record ShowsTurn (own : Tributary) (turns : List (List ℕ)) (t : ℕ) (frames : List Taken) : Type 0 where
  pub many : length frames ≡ own.line_slots
  pub put : (n : ℕ) (f : Taken) → slice_get frames n ≡ Some f → IsPut own turns t n f.frame
  pub msi : (n : ℕ) (f : Taken) → slice_get frames n ≡ Some f → (row column : ℕ) → IsOwnMsi own f.expected row column
      → byte_at f.frame row column ≡ msi_byte own.port

-- Their view carries the bytes of the turns, whatever else stands in them.
abbrev pub CarriesWhatIsPut : Type 0
CarriesWhatIsPut = (own : Tributary) (turns : List (List ℕ)) (t : ℕ) (frames : List Taken)
    → IsSent own → cm_before (length own.slots) (lengths_of turns) t ≤ GROUPS → ShowsTurn own turns t frames
    → CarriesTurn own (concat turns) (lengths_of turns) t (view_of own frames)

-- In each turn from s to u of a line the frames have what a source puts that began with turn s, by the turns that it
-- had until then. Each number fits a multiframe.
pub record Sends (own : Tributary) (turns : List (List ℕ)) (frames : ℕ → Option (List Taken)) (s u : ℕ) : Type 0 where
  pub own_is : IsSent own
  pub enough : u + 1 - s ≤ length turns
  pub fits : (i : ℕ) → s + i ≤ u → cm_in (length own.slots) (lengths_of turns) i ≤ GROUPS
  pub each : (t : ℕ) → s ≤ t → t ≤ u → (multiframe : List Taken)
      × ((frames t ≡ Some multiframe) × ShowsTurn own (take (t + 1 - s) turns) (t - s) multiframe)

-- The line carries the bytes of all turns.
abbrev pub CarriesAllThatIsPut : Type 0
CarriesAllThatIsPut = (own : Tributary) (turns : List (List ℕ)) (frames : ℕ → Option (List Taken)) (s u : ℕ)
    → Sends own turns frames s u → Carries own (concat turns) (lengths_of turns) (λ t. turn_view own (frames t)) s s u

-- In steady numbers they arrive: a sink that began with the same turn emits them as the laws of carriage say.
abbrev pub ArrivesAsItIsPut : Type 0
ArrivesAsItIsPut = (own : Tributary) (turns : List (List ℕ)) (frames : ℕ → Option (List Taken)) (s u : ℕ)
    → Sends own turns frames s u → IsSteady (length own.slots) (take (u + 1 - s) (lengths_of turns))
    → Arrives own (concat turns) (lengths_of turns) (λ t. turn_view own (frames t)) s s s u

-- the turns of a source that takes in each turn what was emitted in the turn before, and nothing in its first; the
-- emissions are listed with the last first
abbrev pub turns_of : List (List ℕ) → List (List ℕ)
turns_of emitted = [] ∷ reverse emitted

-- A source that takes in each turn what a sink of as many slots emitted in the turn before sends it on. Its numbers fit
-- of themselves.
abbrev pub SendsOnWhatIsPut : Type 0
SendsOnWhatIsPut = (own next : Tributary) (ais : ℕ → ℕ) (views : ℕ → Option View) (frames : ℕ → Option (List Taken))
    (s u : ℕ)
    → IsSent next → length next.slots ≡ length own.slots
    → ((t : ℕ) → s ≤ t → t ≤ u → IsWholeTurn (length own.slots) (views t))
    → ((t : ℕ) → s ≤ t → t ≤ u → (multiframe : List Taken)
    × ((frames t ≡ Some multiframe) × ShowsTurn next (turns_of (emissions own ais (past_of views s (t - s))))
    (t - s) multiframe))
    → SendsOn own next ais views (λ t. turn_view next (frames t)) s u

-- ---- several sources of a line

-- What a source put stays where its places keep their bytes.
abbrev pub StaysWhereKept : Type 0
StaysWhereKept = (own : Tributary) (turns : List (List ℕ)) (t n : ℕ) (before now : List ℕ)
    → IsPut own turns t n before → ((row column : ℕ) → IsSourcePlace own n row column
    → byte_at now row column ≡ byte_at before row column) → IsPut own turns t n now

-- two tributaries of a line that have no slot in common
pub record StandApart (own other : Tributary) : Type 0 where
  pub line : own.line_slots ≡ other.line_slots
  pub none : (k : ℕ) → Contains own.slots k → Contains other.slots k → ⊥

-- Their sources write into no common place: what one puts into a frame stays when the other puts its own there.
abbrev pub StaysApart : Type 0
StaysApart = (own other : Tributary) (turns others : List (List ℕ)) (t u n : ℕ) (before now : List ℕ)
    → IsTributary own → IsTributary other → StandApart own other → IsPut own turns t n before
    → WasPut other others u n before now → IsPut own turns t n now
