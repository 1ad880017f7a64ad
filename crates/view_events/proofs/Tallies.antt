-- Numbers that stop at the end of 64 bits.
use Rattle.std.proofs.Common.{◌≡◌, ◌+◌, ℕ, Bool, true, false, List, ◌∷◌, length, arith}
use Rattle.std.specs.Prelude.{if◌then◌else◌, max}
use Rattle.view_events.specs.Tallies.{capped}

-- one more, where it counts
pub counted_more : (b : Bool) (n m r : ℕ) → n ≡ capped m → r ≡ (if b then capped (n + 1) else n)
    → r ≡ capped ((if b then 1 else 0) + m)
counted_more true n m r e f = omega (arith, e, f)
counted_more false n m r e f = omega (arith, e, f)

-- the same of a list that it is put in front of
pub listed_more : {X : Type 0} (b : Bool) (x : X) (xs : List X) (n r : ℕ) → n ≡ capped (length xs)
    → r ≡ (if b then capped (n + 1) else n) → r ≡ capped (length (if b then x ∷ xs else xs))
listed_more true x xs n r e f = omega (arith, e, f)
listed_more false x xs n r e f = omega (arith, e, f)

-- one more in a row, or none
pub run_more : (b : Bool) (n m r : ℕ) → n ≡ capped m → r ≡ (if b then capped (n + 1) else 0)
    → r ≡ capped (if b then 1 + m else 0)
run_more true n m r e f = omega (arith, e, f)
run_more false n m r e f = omega (arith, e, f)

-- the greater of two
pub max_of_both : (a b m n r : ℕ) → a ≡ m → b ≡ n → r ≡ max a b → r ≡ max m n
max_of_both a b m n r e f g = omega (arith, e, f, g)
