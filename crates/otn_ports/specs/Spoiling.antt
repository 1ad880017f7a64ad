-- API: bytes of which some, by their places, are spoiled.
use Rattle.std.specs.Prelude.{ℕ, suc, ◌-◌, ◌^◌, Bool, true, ◌&&◌, if◌then◌else◌, nat_eq, nat_le, nat_lt, bit_xor, List, [], ◌∷◌}

-- the mask of a place: that of its pair, and 0 where it has none
abbrev pub mask_at : List (ℕ × ℕ) → ℕ → ℕ
mask_at [] place = 0
mask_at ((listed, mask) ∷ rest) place = if nat_eq listed place then mask else mask_at rest place

-- the places of the pairs rise strictly, from this one on, and are below 2^64-1
abbrev pub rises_from : ℕ → List (ℕ × ℕ) → Bool
rises_from low [] = true
rises_from low ((listed, mask) ∷ rest) = nat_le low listed
    && (nat_lt listed (2 ^ 64 - 1) && rises_from (suc listed) rest)

-- bytes that stand from a place on, each XORed with the mask of its place
abbrev pub spoiled : List (ℕ × ℕ) → (from : ℕ) → List ℕ → List ℕ
spoiled pairs from [] = []
spoiled pairs from (byte ∷ bytes) = bit_xor byte (mask_at pairs from) ∷ spoiled pairs (suc from) bytes
