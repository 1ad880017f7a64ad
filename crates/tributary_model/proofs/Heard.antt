-- A pair that is heard is one of a multiframe: the number at most that of the groups, the remainder below that of the
-- slots.
use Rattle.std.proofs.Common.{◌≡◌, ℕ, ◌<◌, ◌≤◌, List, Bool, true, false, cond, Option, Some, None, refl, arith}
use Rattle.std.specs.Prelude.{nat_lt, ◌&&◌}
use Rattle.std.proofs.lemmas.Bool.Decides.{nat_tests}
use Rattle.jc_codec.specs.declared.listener.Heard.{Heard}
use Rattle.jc_codec.specs.declared.listener.Heard.TheVariants.{Accepted, Damaged as DamagedNumber, BaseLost}
use Rattle.jc_codec.proofs.Hears.{IsInRange, IsInRange-hears}
use Rattle.cnd_codec.specs.Remainder.{hears_cnd}
use Rattle.tributary_model.specs.declared.turns.Hearing.{Hearing}
use Rattle.tributary_model.specs.declared.turns.Hearing.TheVariants.{Damaged, Lost, Pair}
use Rattle.tributary_model.specs.Messages.{hears_message, heard_as, with_cnd}

-- a remainder heard is below the number of slots
below_of : (t : Bool) (d m : ℕ) (cnd : ℕ) → cond (t && nat_lt d m) (Some d) None ≡ Some cnd → cnd < m
below_of true d m cnd e = go (nat_lt d m) refl e
  where
    go : (s : Bool) → nat_lt d m ≡ s → cond s (Some d) None ≡ Some cnd → cnd < m
    go true f e = let same : d ≡ cnd = cc in let less : d < m = grind (arith, nat_tests) in omega arith
    go false f e = cc
below_of false d m cnd e = cc

cnd_below : (m jc4 jc5 jc6 cnd : ℕ) → hears_cnd m jc4 jc5 jc6 ≡ Some cnd → cnd < m
unfolding hears_cnd
cnd_below m jc4 jc5 jc6 cnd e = below_of _ _ m cnd e

-- a pair that is heard
pub record IsSmallPair (m : ℕ) (hearing : Hearing) : Type 0 where
  pub cm_at_most : (cm cnd : ℕ) (equal : Bool) → hearing ≡ Pair cm cnd equal → cm ≤ 15232
  pub cnd_below : (cm cnd : ℕ) (equal : Bool) → hearing ≡ Pair cm cnd equal → cnd < m

no_pair : (m : ℕ) (hearing : Hearing) → ((cm cnd : ℕ) (equal : Bool) → hearing ≡ Pair cm cnd equal → ⊥) → IsSmallPair m hearing
no_pair m hearing h = record { cm_at_most = λ n r e f. absurd (h n r e f); cnd_below = λ n r e f. absurd (h n r e f) }

small_with_cnd : (m : ℕ) (heard : Heard) (d : ℕ) → IsInRange heard → d < m → IsSmallPair m (with_cnd heard d)
small_with_cnd m (Accepted n equal) d h k = record {
  cm_at_most = λ cm r e f. let same : n ≡ cm = cc in omega arith;
  cnd_below = λ cm r e f. let same : d ≡ r = cc in omega arith;
}
small_with_cnd m DamagedNumber d h k = no_pair m Damaged (λ n r e f. cc)
small_with_cnd m BaseLost d h k = no_pair m Lost (λ n r e f. cc)

small_heard_as : (m : ℕ) (o : Option ℕ) (heard : Heard) → ((cnd : ℕ) → o ≡ Some cnd → cnd < m) → IsInRange heard → IsSmallPair m (heard_as o heard)
small_heard_as m (Some d) heard k h = small_with_cnd m heard d h (k d refl)
small_heard_as m None heard k h = no_pair m Damaged (λ n r e f. cc)

pub small_message : (former : Option ℕ) (m : ℕ) (bytes : List ℕ) → IsSmallPair m (hears_message former m bytes)
unfolding hears_message
small_message former m bytes = small_heard_as m _ _ (λ cnd e. cnd_below m _ _ _ cnd e) (IsInRange-hears former _ _ _)
