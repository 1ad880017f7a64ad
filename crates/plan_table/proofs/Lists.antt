-- Lists, seen through a function.
use Rattle.std.proofs.Common.{◌≡◌, ℕ, ◌<◌, List, [], ◌∷◌, length, get_or, map, pos, Some, slice_get, refl, ap}
use Rattle.std.proofs.lemmas.Option.{slice_get-map, slice_get_read}
use Rattle.toml.specs.View.{items_view, view}
use Rattle.toml.specs.declared.value.Value.{Value}
use Rattle.plan_table.specs.Values.{listed, number_or, numbers}

pub listed_view : (values : List Value) → listed (items_view values) ≡ map view values
listed_view [] = refl
listed_view (value ∷ values) = ap (λ rest. view value ∷ rest) (listed_view values)

-- an element that was read, seen through a function
pub slice_get_seen : {A B : Type 0} (f : A → B) (xs : List A) (i : ℕ) (x : A) → i < length xs → x ≡ get_or xs i x → slice_get (map f xs) i ≡ Some (f x)
slice_get_seen f xs i x inside is = rw (slice_get-map f xs i, slice_get_read xs (length xs) i x refl inside is)

-- the same where the element is known
pub slice_get_known : {A B : Type 0} (f : A → B) (xs : List A) (i : ℕ) (x : A) → slice_get xs i ≡ Some x → slice_get (map f xs) i ≡ Some (f x)
slice_get_known f xs i x known = rw (slice_get-map f xs i, known)

-- a number of a list of values
pub number_known : (values : List Value) (i : ℕ) (value : Value) → slice_get values i ≡ Some value → slice_get (numbers (map view values)) i ≡ Some (number_or (pos 0) (Some (view value)))
number_known values i value known = slice_get_known (λ v. number_or (pos 0) (Some v)) (map view values) i (view value) (slice_get_known view values i value known)
