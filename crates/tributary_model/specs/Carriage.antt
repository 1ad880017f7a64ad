-- Believed: what a sink emits of the bytes that its views carry. Turns count from 0 here: turn t is a line's turn t +
-- 1.
use Rattle.std.specs.Prelude.{◌≡◌, ℕ, ◌+◌, ◌-◌, ◌*◌, ◌/◌, ◌%◌, ◌<◌, ◌≤◌, List, ◌∷◌, false, Option, Some, length, take, slice_index, slice_range}
use Rattle.otn_base.specs.declared.limits.TheConstants.{GROUPS, MOST_SLOTS}
use Rattle.tributary_model.specs.declared.turns.SinkState.TheVariants.{Up, Down}
use Rattle.tributary_model.specs.Places.{Tributary, View, IsWholeTurn}
use Rattle.tributary_model.specs.Stretches.{any_marked, state_after}
use Rattle.tributary_model.specs.Emission.{emission}
use Rattle.tributary_model.specs.Carries.{sent, cm_in, Carries, IsSteady, past_of}

-- The views of a connection that began with turn a. Whatever those before turn b are, those from b to u carry the bytes
-- by the numbers of p, of a sender that began with turn s. Up to turn u the numbers are steady.
pub record Arrives (own : Tributary) (bytes p : List ℕ) (views : ℕ → Option View) (a s b u : ℕ) : Type 0 where
  pub slots : 0 < length own.slots
  pub order : a ≤ b
  pub whole : (t : ℕ) → a ≤ t → t ≤ u → IsWholeTurn (length own.slots) (views t)
  pub carries : Carries own bytes p views s b u
  pub steady : IsSteady (length own.slots) (take (u + 1 - s) p)

-- the sink of a connection that began with turn a is Up after turn t
abbrev pub IsUpAfter : Tributary → (views : ℕ → Option View) → (a t : ℕ) → Type 0
IsUpAfter own views a t = state_after own (past_of views a (t + 1 - a)) ≡ Up

-- in turn t it emits the bytes from A(t - 3) to A(t - 2), where A(t) counts those that the sender took from turn s to
-- turn t
abbrev pub EmitsTwoLater : Tributary → (ais : ℕ → ℕ) → (bytes p : List ℕ) → (views : ℕ → Option View) → (a s t : ℕ)
    → Type 0
EmitsTwoLater own ais bytes p views a s t =
    emission own ais (past_of views a (t - a)) (views t) ≡ slice_range bytes (sent p (t - s - 2)) (sent p (t - s - 1))

-- ---- from the first turn on

-- Where all views of a connection carry the bytes, its sink emits exactly these: in each turn those of the turn two
-- before.
abbrev pub EmitsWhatIsCarried : Type 0
EmitsWhatIsCarried = (own : Tributary) (ais : ℕ → ℕ) (bytes p : List ℕ) (views : ℕ → Option View) (s u : ℕ)
    → Arrives own bytes p views s s s u → (t : ℕ) → s ≤ t → t ≤ u → EmitsTwoLater own ais bytes p views s s t

-- It is Up after each of them.
abbrev pub IsUpWhileCarried : Type 0
IsUpWhileCarried = (own : Tributary) (bytes p : List ℕ) (views : ℕ → Option View) (s u : ℕ)
    → Arrives own bytes p views s s s u → (t : ℕ) → s ≤ t → t ≤ u → IsUpAfter own views s t

-- Where it is Down after the turn behind them, it emits in that turn the rest of the whole groups that came, and no
-- more.
abbrev pub EmitsTheRest : Type 0
EmitsTheRest = (own : Tributary) (ais : ℕ → ℕ) (bytes p : List ℕ) (views : ℕ → Option View) (s u : ℕ)
    (view : Option View)
    → Arrives own bytes p views s s s u → s ≤ u → IsWholeTurn (length own.slots) view
    → state_after own (view ∷ past_of views s (u + 1 - s)) ≡ Down
    → emission own ais (past_of views s (u + 1 - s)) view
    ≡ slice_range bytes (sent p (u - s - 1)) (length own.slots * (sent p (u - s) / length own.slots))

-- ---- after damage

-- a message whose indicators II and DI, bits 7 and 8 of JC2, are equal: it says its number without a former one
abbrev pub HasEqualIndicators : List ℕ → Type 0
HasEqualIndicators message = slice_index message 1 / 2 % 2 ≡ slice_index message 1 % 2

-- A turn h with such a message, at which no own slot is marked, of a connection that began with turn a.
pub record SaysAnew (own : Tributary) (views : ℕ → Option View) (a h : ℕ) : Type 0 where
  pub message : (view : View) → views h ≡ Some view → HasEqualIndicators view.message
  pub unmarked : any_marked own (past_of views a (h + 1 - a)) ≡ false

-- Whatever the own places held before turn b: from the third turn after any such turn h on the sink emits exactly what
-- is carried.
abbrev pub EmitsAfterDamage : Type 0
EmitsAfterDamage = (own : Tributary) (ais : ℕ → ℕ) (bytes p : List ℕ) (views : ℕ → Option View) (a s b u h : ℕ)
    → Arrives own bytes p views a s b u → b ≤ h → SaysAnew own views a h
    → (t : ℕ) → h + 3 ≤ t → t ≤ u → EmitsTwoLater own ais bytes p views a s t

-- It is Up from turn h on.
abbrev pub IsUpAfterDamage : Type 0
IsUpAfterDamage = (own : Tributary) (bytes p : List ℕ) (views : ℕ → Option View) (a s b u h : ℕ)
    → Arrives own bytes p views a s b u → b ≤ h → SaysAnew own views a h
    → (t : ℕ) → h ≤ t → t ≤ u → IsUpAfter own views a t

-- ---- and that these speak of something

-- Whatever the bytes are, in such numbers there are views that carry them.
abbrev pub CanBeCarried : Type 0
CanBeCarried = (own : Tributary) (bytes p : List ℕ) (s u : ℕ)
    → 0 < length own.slots → length own.slots ≤ MOST_SLOTS → u + 1 - s ≤ length p → sent p (u + 1 - s) ≤ length bytes
    → ((i : ℕ) → s + i ≤ u → cm_in (length own.slots) p i ≤ GROUPS)
    → IsSteady (length own.slots) (take (u + 1 - s) p)
    → (views : ℕ → Option View) × Arrives own bytes p views s s s u
