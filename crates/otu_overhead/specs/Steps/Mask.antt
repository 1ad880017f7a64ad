-- Steps of `otu_overhead`: what private contracts alone cite, beside the definitions of `Mask`.
use Rattle.std.specs.Prelude.{ℕ, List, [], ◌∷◌, bit_xor}
use Rattle.otu_overhead.specs.Mask.{mask}

-- each byte of a frame with the byte of a mask at its place, by exclusive or; past the mask a byte stays
unfoldable pub masked : (mask frame : List ℕ) → List ℕ
masked mask [] = []
masked [] (byte ∷ frame) = byte ∷ frame
masked (m ∷ mask) (byte ∷ frame) = bit_xor byte m ∷ masked mask frame
