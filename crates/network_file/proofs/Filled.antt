-- Lists that a loop fills.
use Rattle.std.proofs.Common.{◌≡◌, ℕ, ◌+◌, ◌≤◌, List, [], ◌∷◌, ◌++◌, take, length, map, Some, slice_get, ap, ◌∙◌, sym}
use Rattle.std.proofs.lemmas.List.{length-map, take_all}
use Rattle.plan_file.proofs.Filled.{filled_all}
use Rattle.plan_file.proofs.Steps.{take_known}

-- one more element of a list that is copied, and all of them
pub copied_more : {A : Type 0} (xs : List A) (i : ℕ) (x : A) (ys : List A) → slice_get xs i ≡ Some x → ys ≡ take i xs → ys ++ x ∷ [] ≡ take (i + 1) xs
copied_more xs i x ys known so_far = ap (λ zs. zs ++ x ∷ []) so_far ∙ sym (take_known xs i x known)

pub copied_all : {A : Type 0} (xs : List A) (i : ℕ) (ys : List A) → length xs ≤ i → ys ≡ take i xs → ys ≡ xs
copied_all xs i ys end so_far = so_far ∙ take_all i xs end

-- all elements, through two functions
pub twice_all : {A B C : Type 0} (f : B → C) (g : A → B) (xs : List A) (i : ℕ) (ys : List C) → length xs ≤ i → ys ≡ take i (map f (map g xs))
    → ys ≡ map f (map g xs)
twice_all f g xs i ys end so_far = filled_all f (map g xs) i ys (rw (length-map xs g) end) so_far

pub ruleset copied = (copied_more, copied_all)
