-- Believed: counts of 64 bits.
use Rattle.std.specs.Prelude.{ℕ, ◌-◌, ◌^◌, min}

-- what a count says of n things: n, or its largest number where there are more
abbrev pub saturated : ℕ → ℕ
saturated n = min n (2 ^ 64 - 1)
