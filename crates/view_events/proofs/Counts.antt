-- Two counts of faults taken together, as far as 64 bits go.
use Rattle.std.proofs.Common.{◌≡◌, ◌⊎◌, inl, inr, ◌<◌, ◌≤◌, ◌+◌, ◌-◌, ◌^◌, min, ℕ, arith}
use Rattle.std.proofs.lemmas.Bool.{cases_lt}
use Rattle.port_base.specs.Bytes.{HasFailed}

pub later_faults : (a b m n : ℕ) → a ≤ b → m ≤ n → min (a + m) (2 ^ 64 - 1) ≤ min (b + n) (2 ^ 64 - 1)
later_faults a b m n h k = omega arith

pub own_fault : (a m n : ℕ) → n ≡ min (m + 1) (2 ^ 64 - 1) → HasFailed (min (a + m) (2 ^ 64 - 1)) (min (a + n) (2 ^ 64 - 1))
own_fault a m n e = by_size (cases_lt (a + m) (2 ^ 64 - 1))
  where
    by_size : (a + m < 2 ^ 64 - 1) ⊎ (2 ^ 64 - 1 ≤ a + m) → HasFailed (min (a + m) (2 ^ 64 - 1)) (min (a + n) (2 ^ 64 - 1))
    by_size (inl less) = inl (omega (arith, e, less))
    by_size (inr full) = inr (omega (arith, e, full))

pub inner_fault : (a b m : ℕ) → HasFailed a b → HasFailed (min (a + m) (2 ^ 64 - 1)) (min (b + m) (2 ^ 64 - 1))
inner_fault a b m (inr end) = inr (omega (arith, end))
inner_fault a b m (inl more) = by_size (cases_lt (a + m) (2 ^ 64 - 1))
  where
    by_size : (a + m < 2 ^ 64 - 1) ⊎ (2 ^ 64 - 1 ≤ a + m) → HasFailed (min (a + m) (2 ^ 64 - 1)) (min (b + m) (2 ^ 64 - 1))
    by_size (inl less) = inl (omega (arith, more, less))
    by_size (inr full) = inr (omega (arith, more, full))
