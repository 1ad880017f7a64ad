use Rattle.std.proofs.Common.{◌≡◌, ℕ, ◌+◌}
use Rattle.otu_overhead.specs.Mask.{bits_from}
use Rattle.otu_overhead.proofs.mask.eight_bits_on.Given as goal

abbrev pub invariant-loop-bit : goal.invariant-loop-bit
invariant-loop-bit l = (i : ℕ) → l.fn.register ≡ bits_from i 16 → l.later ≡ bits_from (i + l._bit) 16
