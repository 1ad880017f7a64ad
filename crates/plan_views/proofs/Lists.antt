-- Lists of connections, one by one.
use Rattle.std.proofs.Common.{◌≡◌, ◌<◌, ◌≤◌, ◌∙◌, ℕ, List, Some, length, take, get_or, slice_get, flat_map, refl, ap, arith}
use Rattle.std.proofs.Math.Seq.{take-length}
use Rattle.std.proofs.lemmas.Option.{slice_get_read}

pub known_item : {A : Type 0} (xs : List A) (i : ℕ) (item : A) → i < length xs → item ≡ get_or xs i item → slice_get xs i ≡ Some item
known_item xs i item less is = slice_get_read xs (length xs) i item refl less is

-- all, where no more are left
pub flat_all : {A B : Type 0} (f : A → List B) (xs : List A) (i : ℕ) → length xs ≤ i → i ≤ length xs → flat_map f (take i xs) ≡ flat_map f xs
flat_all f xs i most least = ap (flat_map f) (ap (λ n. take n xs) (let e : i ≡ length xs = omega (arith, most, least) in e) ∙ take-length xs)
