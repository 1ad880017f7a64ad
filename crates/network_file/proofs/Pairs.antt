-- Lists of two elements.
use Rattle.std.proofs.Common.{◌≡◌, ◌≢◌, pos, List, [], ◌∷◌, length, map, Some, None, slice_get, refl, arith}
use Rattle.toml.specs.Data.{Data}
use Rattle.plan_table.specs.Values.{number_or}
use Rattle.network_file.specs.Table.{turns_in}

-- a list of another length says no turns
pub turns_none : {A : Type 0} (f : A → Data) (xs : List A) → length xs ≢ 2 → turns_in (map f xs) ≡ None
turns_none f [] other = refl
turns_none f (x ∷ []) other = refl
turns_none f (x ∷ y ∷ []) other = absurd (other refl)
turns_none f (x ∷ y ∷ z ∷ xs) other = refl

-- and one of two says them
pub turns_two : {A : Type 0} (f : A → Data) (xs : List A) (x y : A) → length xs ≡ 2 → slice_get xs 0 ≡ Some x → slice_get xs 1 ≡ Some y
    → turns_in (map f xs) ≡ Some (number_or (pos 0) (Some (f x)), number_or (pos 0) (Some (f y)))
turns_two f [] x y two one other = cc
turns_two f (a ∷ []) x y two one other = cc
turns_two f (a ∷ b ∷ []) x y two one other = let same : a ≡ x = cc in let same' : b ≡ y = cc in rw (same, same') refl
turns_two f (a ∷ b ∷ c ∷ xs) x y two one other = absurd (omega arith)

pub ruleset pairs = (turns_none, turns_two)
