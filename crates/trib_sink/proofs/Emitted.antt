-- The bytes of the two buffers of a sink.
use Rattle.std.proofs.Common.{◌≡◌, ℕ, ◌+◌, ◌-◌, ◌≤◌, List, take, drop, ap, ◌∙◌, arith}
use Rattle.std.specs.Prelude.{slice_range}
use Rattle.std.proofs.lemmas.List.{drop-take}

-- the bytes between two places of a buffer
pub between : (xs : List ℕ) (first last : ℕ) → first ≤ last → drop first (take last xs) ≡ slice_range xs first last
between xs first last h = ap (λ n. drop first (take n xs)) (let e : last ≡ first + (last - first) = omega arith in e) ∙ drop-take first (last - first) xs
