-- What is put into two frames, where both have the same source.
use Rattle.std.proofs.Common.{◌≡◌, inl, inr, ℕ, zero, suc, List, refl, sym, ap, ◌∙◌, arith}
use Rattle.tributary_model.specs.Places.{Tributary, byte_at}
use Rattle.tributary_model.specs.Puts.{IsPut, IsSourcePlace}

-- numbers that cannot differ are equal
pub unless_differ : (a b : ℕ) → ((a ≡ b → ⊥) → ⊥) → a ≡ b
unless_differ zero zero h = refl
unless_differ zero (suc b) h = absurd (h (λ e. omega arith))
unless_differ (suc a) zero h = absurd (h (λ e. omega arith))
unless_differ (suc a) (suc b) h = ap suc (unless_differ a b (λ k. h (λ e. k (omega arith))))

-- what a source puts there
pub same_source : (own : Tributary) (turns : List (List ℕ)) (t n row column : ℕ) (one other : List ℕ) → IsPut own turns t n one
    → IsPut own turns t n other → IsSourcePlace own n row column → byte_at one row column ≡ byte_at other row column
same_source own turns t n row column one other f g (inl o) = f.payload row column o ∙ sym (g.payload row column o)
same_source own turns t n row column one other f g (inr (inl o)) = f.message row column o ∙ sym (g.message row column o)
same_source own turns t n row column one other f g (inr (inr o)) = f.others row column o ∙ sym (g.others row column o)
