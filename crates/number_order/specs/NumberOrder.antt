-- Believed: the choices that a number settles.
use Rattle.std.specs.Prelude.{◌≡◌, ℕ, zero, suc}
use Rattle.rand_core.specs.Pcg32Seed.{pcg32_seed}
use Rattle.rand_pcg.specs.Lcg.{Lcg}
use Rattle.rand_pcg.specs.Pcg.{pcg32, pcg32_of_seed}
use Rattle.number_order.specs.declared.number_chooser.NumberChooser.{NumberChooser}

-- how often it was asked
abbrev pub number_chooser_asked : NumberChooser → ℕ
number_chooser_asked chooser = chooser.asked

-- the generator that is made from a number, after so many of its words
unfoldable pub generator_after : ℕ → ℕ → Lcg
generator_after number zero = pcg32_of_seed (pcg32_seed 16 number)
generator_after number (suc given) = (pcg32 (generator_after number given)).1

-- word n, from 0, of the generator that is made from a number
abbrev pub order_word : ℕ → ℕ → ℕ
order_word number n = (pcg32 (generator_after number n)).0

-- a chooser has given so many words of the generator of this number, in order, and nothing else
abbrev pub HasGivenWords : ℕ → ℕ → NumberChooser → Type 0
HasGivenWords number given chooser = chooser.generator ≡ generator_after number given
