-- Believed: what it is that a tributary carries a client's bytes. p lists how many bytes each turn of a sender brings,
-- the first turn first: its numbers. C(t) and D(t), which its messages say, follow from them. Turns count from 0 here:
-- turn t is a line's turn t + 1.
use Rattle.std.specs.Prelude.{◌≡◌, ◌⊎◌, ℕ, zero, suc, ◌+◌, ◌*◌, ◌/◌, ◌%◌, ◌-◌, ◌≤◌, List, [], ◌∷◌, ◌++◌, All, Option, Some, None, length, take, drop, map, sum, slice_get}
use Rattle.otn_base.specs.declared.limits.TheConstants.{GROUPS}
use Rattle.gmp_rule.specs.DataRule.{IsData}
use Rattle.msi_table.specs.Marks.{msi_byte}
use Rattle.jc_codec.specs.Message.{says}
use Rattle.cnd_codec.specs.Remainder.{says_cnd}
use Rattle.tributary_model.specs.Places.{Tributary, View}

-- how many bytes the first t turns bring: A(t) of docs/FORMATS.md, where turns count from 1; A(t - 1) where they count
-- from 0, as here
abbrev pub sent : List ℕ → (t : ℕ) → ℕ
sent p t = sum (take t p)

-- C(t) (Cm) of turn t, from 0: the whole groups of m bytes that it completes
abbrev pub cm_in : (m : ℕ) → List ℕ → (t : ℕ) → ℕ
cm_in m p t = sent p (t + 1) / m - sent p t / m

-- D(t) (CnD) of turn t, from 0: the bytes left over behind the whole groups of all turns up to it
abbrev pub cnd_in : (m : ℕ) → List ℕ → (t : ℕ) → ℕ
cnd_in m p t = sent p (t + 1) % m

-- the number of the turn before, 0 at the first; and the one that a message is said after, none at the first
abbrev pub cm_before : (m : ℕ) → List ℕ → (t : ℕ) → ℕ
cm_before m p zero = 0
cm_before m p (suc t) = cm_in m p t

abbrev pub former_of : (m : ℕ) → List ℕ → (t : ℕ) → Option ℕ
former_of m p zero = None
former_of m p (suc t) = Some (cm_in m p t)

-- a message with bits 1 to 3 of JC4, JC5 and JC6 cleared
abbrev pub cleared : List ℕ → List ℕ
cleared bytes = take 3 bytes ++ map (λ b. b % 32) (drop 3 bytes)

-- Group j, where it is data at the number of the turn before, is the m bytes of the list that stand after the whole
-- groups of the turns up to two before, and after the data groups before it. Of the groups 1 to j, j * c / GROUPS are
-- data (data_groups of gmp_rule).
abbrev pub CarriesGroups : (m : ℕ) → (bytes p : List ℕ) → (t : ℕ) → List (List ℕ) → Type 0
CarriesGroups m bytes p t groups =
    let c = cm_before m p t in
    (j : ℕ) → 1 ≤ j → j ≤ GROUPS → IsData c j
    → slice_get groups (j - 1) ≡ Some (take m (drop (m * (sent p (t - 1) / m + j * c / GROUPS - 1)) bytes))

-- the view of turn t, from 0, of a sender that takes the bytes by the numbers of p
pub record CarriesTurn (own : Tributary) (bytes p : List ℕ) (t : ℕ) (view : View) : Type 0 where
  pub message : cleared view.message ≡ says (former_of (length own.slots) p t) (cm_in (length own.slots) p t)
      ++ says_cnd (cnd_in (length own.slots) p t)
  pub msi : All (λ x. x.1 ≡ msi_byte own.port) view.msi
  pub groups : CarriesGroups (length own.slots) bytes p t view.groups

-- The views of a line's turns carry the bytes by the numbers of p from turn b to turn u, where the sender began with
-- turn s. C of each of these turns fits a multiframe: it brings no more groups than one has.
pub record Carries (own : Tributary) (bytes p : List ℕ) (views : ℕ → Option View) (s b u : ℕ) : Type 0 where
  pub order : s ≤ b
  pub numbers : u + 1 - s ≤ length p
  pub enough : sent p (u + 1 - s) ≤ length bytes
  pub fits : (t : ℕ) → b ≤ t → t ≤ u → cm_in (length own.slots) p (t - s) ≤ GROUPS
  pub each : (t : ℕ) → b ≤ t → t ≤ u → (view : View) × ((views t ≡ Some view) × CarriesTurn own bytes p (t - s) view)

-- from the first number on that is not 0 each is at least m: once bytes come, every turn brings at least one a slot
abbrev pub IsSteady : (m : ℕ) → List ℕ → Type 0
IsSteady m [] = Unit {0}
IsSteady m (n ∷ p) = ((n ≡ 0) × IsSteady m p) ⊎ All (λ x. m ≤ x) (n ∷ p)

-- the views of n turns from turn s on, the last first
abbrev pub past_of : (ℕ → Option View) → (s n : ℕ) → List (Option View)
past_of views s zero = []
past_of views s (suc n) = views (s + n) ∷ past_of views s n
