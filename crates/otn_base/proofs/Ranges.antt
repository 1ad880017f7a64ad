-- The bytes between two places of a buffer.
use Rattle.std.proofs.Common.{◌≡◌, ℕ, ◌+◌, ◌-◌, ◌≤◌, List, take, drop, length, ap, ◌∙◌, sym, arith}
use Rattle.std.specs.Prelude.{slice_range}
use Rattle.std.proofs.lemmas.List.{length-take, drop-drop, drop-take}

-- those between two places, with some dropped in front
pub later : (xs : List ℕ) (first last count : ℕ) → count ≤ length (slice_range xs first last) → slice_range xs (first + count) last ≡ drop count (slice_range xs first last)
later xs first last count low =
    let long = length-take (last - first) (drop first xs) in
    sym (ap (λ n. drop count (take n (drop first xs))) (let e : last - first ≡ count + (last - (first + count)) = omega arith in e)
    ∙ drop-take count (last - (first + count)) (drop first xs)
    ∙ ap (take (last - (first + count))) (drop-drop count first xs))
