-- Believed: lists of tributary slots.
use Rattle.std.specs.Prelude.{ℕ, ◌<◌, ◌≤◌, List, length, EachIndex, slice_index}
use Rattle.std.specs.List.Sorted.{IsStrictlyIncreasing}

-- G.709 clause 19.1.4: the slots that an ODTU takes on a line of so many slots, in rising order
pub record IsSlotList (slots : ℕ) (list : List ℕ) : Type 0 where
  pub taken : 0 < length list
  pub low : EachIndex list (λ i. 1 ≤ slice_index list i)
  pub high : EachIndex list (λ i. slice_index list i ≤ slots)
  pub rising : IsStrictlyIncreasing list
