-- Believed: the plain payload areas in a list of bytes, and the packets that it delivers.
use Rattle.std.specs.Prelude.{ℕ, List, [], ◌∷◌, length, take, drop, flat_map, option_to_list}
use Rattle.gfp_scrambler.specs.Register.{descrambled}
use Rattle.gfp_frames.specs.Area.{packet_in}
use Rattle.gfp_frames.specs.Delineation.{sync_areas}

-- areas one after another, as one list
abbrev pub joined : List (List ℕ) → List ℕ
joined areas = flat_map (λ area. area) areas

-- a list cut into pieces as long as these areas
abbrev pub cut_as : (areas : List (List ℕ)) → List ℕ → List (List ℕ)
cut_as [] plain = []
cut_as (area ∷ areas) plain = take (length area) plain ∷ cut_as areas (drop (length area) plain)

-- the plain areas: all areas joined are one list of bits, descrambled after these last 43 bits
unfoldable pub plain_areas : (register : ℕ) → List (List ℕ) → List (List ℕ)
plain_areas register areas = cut_as areas (descrambled register (joined areas))

-- the packets of the areas that pass the checks, in order
abbrev pub packets_in : List (List ℕ) → List (List ℕ)
packets_in areas = flat_map (λ area. option_to_list (packet_in area)) areas

-- the plain areas of all frames that begin in sync and lie whole in the list: bits before the first of them are 0
abbrev pub areas_in : List ℕ → List (List ℕ)
areas_in bytes = plain_areas 0 (sync_areas bytes)

-- what a list of bytes delivers
unfoldable pub delivered : List ℕ → List (List ℕ)
delivered bytes = packets_in (areas_in bytes)
