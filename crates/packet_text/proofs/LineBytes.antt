-- The packet that a line's digits say.
use Rattle.std.proofs.Common.{◌≡◌, ◌<◌, ◌≤◌, ◌%◌, ℕ, Bool, true, false, if◌then◌else◌, nat_le, List, ◌++◌, length, take, Some, None, arith, refl, ap}
use Rattle.std.proofs.lemmas.Bool.Decides.{nat_tests}
use Rattle.std.proofs.lemmas.List.{take_at}
use Rattle.hex.specs.Hex.{decode_of}
use Rattle.hex.proofs.HexLemmas.{decode_of-odd}
use Rattle.packet_text.specs.PacketText.{without_cr, bytes_of_line, decoded}

-- what a line gives by what its digits decode to
pub read_ok : (line digits out back : List ℕ) (n : ℕ) → digits ≡ without_cr line → length digits ≤ 131054 → decoded (decode_of digits) ≡ Some out → length out ≡ n → bytes_of_line line ≡ Some (take n (out ++ back))
unfolding bytes_of_line
read_ok line digits out back n e fits h size =
    let test : nat_le (length (without_cr line)) 131054 ≡ true = rw (← e) (grind (arith, nat_tests)) in
    rw (test, take_at out back n size) (rw e at h)

pub read_none : (line digits : List ℕ) → digits ≡ without_cr line → decoded (decode_of digits) ≡ None → bytes_of_line line ≡ None
unfolding bytes_of_line
read_none line digits e h = by_test (nat_le (length (without_cr line)) 131054) (rw e at h)
  where
    by_test : (b : Bool) → decoded (decode_of (without_cr line)) ≡ None → (if b then decoded (decode_of (without_cr line)) else None) ≡ None
    by_test true same = same
    by_test false same = refl

pub read_odd : (line digits : List ℕ) → digits ≡ without_cr line → length digits % 2 ≡ 1 → bytes_of_line line ≡ None
read_odd line digits e odd = read_none line digits e (ap decoded (decode_of-odd digits odd))

pub read_long : (line digits : List ℕ) → digits ≡ without_cr line → 131054 < length digits → bytes_of_line line ≡ None
unfolding bytes_of_line
read_long line digits e long =
    let test : nat_le (length (without_cr line)) 131054 ≡ false = rw (← e) (grind (arith, nat_tests)) in
    rw test refl
