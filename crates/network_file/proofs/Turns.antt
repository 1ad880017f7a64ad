-- Numbers of turns, as the machine holds them.
use Rattle.std.proofs.Common.{◌≡◌, ℤ, pos, negsuc, true, arith, to_z, of_z, w64}
use Rattle.std.proofs.Math.Facts.{to_z_pos}
use Rattle.plan_file.proofs.Fitting.{within}
use Rattle.plan_table.specs.NumberTests.{is_within}

-- a number of a turn is read back as it was written
pub read_back : (z : ℤ) → is_within 0 16384 z ≡ true → to_z w64 (of_z w64 z) ≡ z
read_back (pos n) h = to_z_pos w64 (let high = (within 0 16384 (pos n) h).high in omega arith)
read_back (negsuc n) h = cc
