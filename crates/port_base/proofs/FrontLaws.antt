-- What a front of bytes at hand says of them all.
use Rattle.std.proofs.Common.{◌≡◌, ◌≤◌, ℕ, List, length, take, ap, arith}
use Rattle.std.proofs.lemmas.List.{length-take}
use Rattle.std.proofs.lemmas.Grind.{common_steps}
use Rattle.port_base.specs.Fronts.{IsFront}

-- a front is no longer than the whole
pub front_length : (front whole : List ℕ) → IsFront front whole → length front ≤ length whole
front_length front whole h = omega (arith, ap length h, length-take (length front) whole)

-- what stands in the front stands in the whole
pub front_take : (front whole : List ℕ) (n : ℕ) → IsFront front whole → n ≤ length front → take n whole ≡ take n front
front_take front whole n h k = grind (arith, common_steps, h, k)
