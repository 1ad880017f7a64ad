-- Reading past what is filled with 0.
use Rattle.std.proofs.Common.{◌≡◌, ℕ, zero, suc, List, [], ◌∷◌, ◌++◌, get_or, refl}
use Rattle.otn_base.specs.TrailTrace.{zeros}

-- a byte among so many 0, or past them
pub get_or-zeros : (n i : ℕ) → get_or (zeros n) i 0 ≡ 0
unfolding zeros
get_or-zeros zero i = refl
get_or-zeros (suc n) zero = refl
get_or-zeros (suc n) (suc i) = get_or-zeros n i

-- a byte of a list that zeros follow
pub get_or-filled : (s : List ℕ) (n i : ℕ) → get_or (s ++ zeros n) i 0 ≡ get_or s i 0
get_or-filled [] n i = get_or-zeros n i
get_or-filled (x ∷ s) n zero = refl
get_or-filled (x ∷ s) n (suc i) = get_or-filled s n i

-- reading what is filled with 0
pub ruleset filled = (get_or-filled, get_or-zeros)
