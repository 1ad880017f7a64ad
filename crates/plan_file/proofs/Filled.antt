-- Lists that a loop fills.
use Rattle.std.proofs.Common.{◌≡◌, ℕ, ◌+◌, ◌<◌, ◌≤◌, List, [], ◌∷◌, ◌++◌, take, length, map, Some, slice_get, ap, ◌∙◌, sym, arith}
use Rattle.std.proofs.lemmas.List.{length-map, take_all}
use Rattle.plan_file.proofs.Lists.{slice_get_known}
use Rattle.plan_file.proofs.Steps.{take_known, length_front}

-- one more element
pub filled_more : {A B : Type 0} (f : A → B) (xs : List A) (i : ℕ) (x : A) (ys : List B) → slice_get xs i ≡ Some x → ys ≡ take i (map f xs) → ys ++ f x ∷ [] ≡ take (i + 1) (map f xs)
filled_more f xs i x ys known so_far = ap (λ zs. zs ++ f x ∷ []) so_far ∙ sym (take_known (map f xs) i (f x) (slice_get_known f xs i x known))

-- all of them
pub filled_all : {A B : Type 0} (f : A → B) (xs : List A) (i : ℕ) (ys : List B) → length xs ≤ i → ys ≡ take i (map f xs) → ys ≡ map f xs
filled_all f xs i ys end so_far = so_far ∙ take_all i (map f xs) (rw (length-map xs f) end)

-- there is room for one more of so many
pub filled_room : {A B : Type 0} (f : A → B) (xs : List A) (i : ℕ) (ys : List B) (most : ℕ) → length xs ≤ most → i < length xs → ys ≡ take i (map f xs) → length ys < most
filled_room f xs i ys most few inside so_far =
    let same = length-map xs f in
    let front : length (take i (map f xs)) ≡ i = length_front (map f xs) i (rw same (omega arith)) in
    rw (so_far, front) (omega arith)
