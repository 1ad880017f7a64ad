-- API: what a node passes on: a sender that takes in each turn what a sink emitted in the turn before.
use Rattle.std.specs.Prelude.{◌≡◌, ℕ, zero, suc, ◌+◌, ◌-◌, ◌*◌, ◌/◌, ◌<◌, ◌≤◌, List, [], ◌∷◌, ◌++◌, Option, Some, length, take}
use Rattle.tributary_model.specs.declared.turns.SinkState.TheVariants.{Down}
use Rattle.tributary_model.specs.Places.{Tributary, View, IsWholeTurn}
use Rattle.tributary_model.specs.Stretches.{state_after}
use Rattle.tributary_model.specs.Carries.{sent, cm_in, cnd_in, CarriesTurn, past_of}
use Rattle.tributary_model.specs.Damage.{emissions}
use Rattle.tributary_model.specs.Carriage.{Arrives}

-- what was emitted in some turns, which are listed with the last first, joined in their order
abbrev pub joined_back : List (List ℕ) → List ℕ
joined_back [] = []
joined_back (last ∷ before) = joined_back before ++ last

-- how many bytes each of them has, in their order
abbrev pub lengths_back : List (List ℕ) → List ℕ
lengths_back [] = []
lengths_back (last ∷ before) = lengths_back before ++ length last ∷ []

-- The first n turns of a sink whose views carry the bytes emit a front of these, without gap or repetition.
abbrev pub JoinsToWhatIsCarried : Type 0
JoinsToWhatIsCarried = (own : Tributary) (ais : ℕ → ℕ) (bytes p : List ℕ) (views : ℕ → Option View) (s u n : ℕ)
    → Arrives own bytes p views s s s u → s + n ≤ u + 1
    → joined_back (emissions own ais (past_of views s n)) ≡ take (sent p (n - 2)) bytes

-- With the turn after which it is Down, it has emitted the whole groups that came.
abbrev pub JoinsToWholeGroups : Type 0
JoinsToWholeGroups = (own : Tributary) (ais : ℕ → ℕ) (bytes p : List ℕ) (views : ℕ → Option View) (s u : ℕ)
    (view : Option View)
    → Arrives own bytes p views s s s u → s ≤ u → IsWholeTurn (length own.slots) view
    → state_after own (view ∷ past_of views s (u + 1 - s)) ≡ Down
    → joined_back (emissions own ais (view ∷ past_of views s (u + 1 - s)))
    ≡ take (length own.slots * (sent p (u - s) / length own.slots)) bytes

-- Each turn emits as many as the sender took two turns before, the first two none.
abbrev pub EmitsAsMany : Type 0
EmitsAsMany = (own : Tributary) (ais : ℕ → ℕ) (bytes p : List ℕ) (views : ℕ → Option View) (s u n : ℕ)
    → Arrives own bytes p views s s s u → s + n ≤ u + 1
    → lengths_back (emissions own ais (past_of views s n)) ≡ take n (0 ∷ 0 ∷ p)

-- A turn of a sender speaks of no byte that it takes later, and of no later number: where it carries fronts of both, it
-- carries all.
abbrev pub CarriesAllByFronts : Type 0
CarriesAllByFronts = (own : Tributary) (bytes p : List ℕ) (k n t : ℕ) (view : View)
    → 0 < length own.slots → sent p t ≤ k → t < n → CarriesTurn own (take k bytes) (take n p) t view
    → CarriesTurn own bytes p t view

-- In each turn from s to u these views of another tributary carry what the sink emitted in the turns from s on, each
-- turn's in the turn after it, so nothing in turn s.
pub record SendsOn (own next : Tributary) (ais : ℕ → ℕ) (views others : ℕ → Option View) (s u : ℕ) : Type 0 where
  pub slots : length next.slots ≡ length own.slots
  pub whole : (t : ℕ) → s ≤ t → t ≤ u → IsWholeTurn (length next.slots) (others t)
  pub each : (t : ℕ) → s ≤ t → t ≤ u → (view : View)
      × ((others t ≡ Some view)
      × CarriesTurn next (joined_back (emissions own ais (past_of views s (t - s))))
      (0 ∷ lengths_back (emissions own ais (past_of views s (t - s)))) (t - s) view)

-- Then they carry what the sink's own views carry, three turns later.
abbrev pub PassesOn : Type 0
PassesOn = (own next : Tributary) (ais : ℕ → ℕ) (bytes p : List ℕ) (views others : ℕ → Option View) (s u w : ℕ)
    → Arrives own bytes p views s s s u → w ≤ u → SendsOn own next ais views others s w
    → Arrives next bytes (0 ∷ 0 ∷ 0 ∷ p) others s s s w

-- The pairs C and D that they say are the sender's, three turns later.
abbrev pub SaysThreeLater : Type 0
SaysThreeLater = (m : ℕ) (p : List ℕ) (t : ℕ)
    → (cm_in m (0 ∷ 0 ∷ 0 ∷ p) (t + 3) ≡ cm_in m p t) × (cnd_in m (0 ∷ 0 ∷ 0 ∷ p) (t + 3) ≡ cnd_in m p t)

-- three turns later for each of k nodes
abbrev pub later : (k : ℕ) → List ℕ → List ℕ
later zero p = p
later (suc k) p = 0 ∷ 0 ∷ 0 ∷ later k p

-- a tributary, the views of its turns, and the last turn in which it is sent
pub record Leg : Type 0 where
  pub own : Tributary
  pub views : ℕ → Option View
  pub stop : ℕ

-- each leg sends on what comes by the one before, and stops no later
abbrev pub IsChain : (ais : ℕ → ℕ) → (s : ℕ) → Leg → List Leg → Type 0
IsChain ais s leg [] = Unit {0}
IsChain ais s leg (next ∷ legs) = (next.stop ≤ leg.stop) × SendsOn leg.own next.own ais leg.views next.views s next.stop
    × IsChain ais s next legs

-- the last leg of a chain
abbrev pub last_of : Leg → List Leg → Leg
last_of leg [] = leg
last_of leg (next ∷ legs) = last_of next legs

-- So the last leg carries what the first does, three turns later for each node between them.
abbrev pub CarriesToTheEnd : Type 0
CarriesToTheEnd = (ais : ℕ → ℕ) (bytes p : List ℕ) (s : ℕ) (leg : Leg) (legs : List Leg)
    → Arrives leg.own bytes p leg.views s s s leg.stop → IsChain ais s leg legs
    → Arrives (last_of leg legs).own bytes (later (length legs) p) (last_of leg legs).views s s s
    (last_of leg legs).stop
