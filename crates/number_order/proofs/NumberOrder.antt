-- The words of the generator that is made from a number.
use Rattle.std.proofs.Common.{◌≡◌, ◌+◌, ℕ, refl, ap, add-one}
use Rattle.rand_core.specs.Pcg32Seed.{pcg32_seed}
use Rattle.rand_pcg.specs.Pcg.{pcg32, pcg32_of_seed}
use Rattle.number_order.specs.NumberOrder.{generator_after}

-- before the first word
pub generator_first : (number : ℕ) → generator_after number 0 ≡ pcg32_of_seed (pcg32_seed 16 number)
unfolding generator_after
generator_first number = refl

-- after one word more
pub generator_next : (number given : ℕ) → generator_after number (given + 1) ≡ (pcg32 (generator_after number given)).1
unfolding generator_after
generator_next number given = ap (generator_after number) (add-one given)
