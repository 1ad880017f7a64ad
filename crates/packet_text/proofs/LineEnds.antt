-- A line without its CR.
use Rattle.std.proofs.Common.{◌≡◌, ◌≤◌, ◌+◌, ◌-◌, ℕ, Bool, true, false, nat_lt, ◌&&◌, ◌==◌, if◌then◌else◌, List, length, take, slice_index, arith}
use Rattle.std.proofs.lemmas.List.{length-take-le}
use Rattle.packet_text.specs.PacketText.{without_cr}

pub cr_length : (line : List ℕ) → length line ≤ length (without_cr line) + 1
unfolding without_cr
cr_length line = by_test (nat_lt 0 (length line) && (slice_index line (length line - 1) == 13))
  where
    by_test : (t : Bool) → length line ≤ length (if t then take (length line - 1) line else line) + 1
    by_test true = let e : length (take (length line - 1) line) ≡ length line - 1 = length-take-le (length line - 1) line (omega arith) in omega arith
    by_test false = omega arith
