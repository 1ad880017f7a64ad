-- What is heard of the remainder, by the check and the number of slots.
use Rattle.std.proofs.Common.{◌≡◌, ◌≢◌, ℕ, ◌/◌, ◌%◌, ◌<◌, ◌≤◌, [], ◌∷◌, Some, None, ap, ◌∙◌, sym, arith}
use Rattle.std.specs.Prelude.{◌==◌, nat_lt, ◌&&◌}
use Rattle.std.proofs.lemmas.Bool.{cond-true, cond-false, and_from, and_left, and_right, eq-eqb, ne_eqb, lt-ltb, le-ltb}
use Rattle.std.proofs.Math.Nat.{mod-eq_of_lt}
use Rattle.crc_small.specs.LongDivision.{crc5_of}
use Rattle.cnd_codec.specs.Remainder.{says_cnd, hears_cnd, cnd_in}

pub hears_right : (m jc4 jc5 jc6 : ℕ) → jc6 % 32 ≡ crc5_of (cnd_in jc4 jc5) → cnd_in jc4 jc5 < m → hears_cnd m jc4 jc5 jc6 ≡ Some (cnd_in jc4 jc5)
unfolding hears_cnd
hears_right m jc4 jc5 jc6 e h =
    let d = cnd_in jc4 jc5 in
    cond-true (jc6 % 32 == crc5_of d && nat_lt d m) (Some d) None (and_from (jc6 % 32 == crc5_of d) (nat_lt d m) (eq-eqb (jc6 % 32) (crc5_of d) e) (lt-ltb d m h))

pub hears_wrong : (m jc4 jc5 jc6 : ℕ) → jc6 % 32 ≢ crc5_of (cnd_in jc4 jc5) → hears_cnd m jc4 jc5 jc6 ≡ None
unfolding hears_cnd
hears_wrong m jc4 jc5 jc6 e =
    let d = cnd_in jc4 jc5 in
    cond-false (jc6 % 32 == crc5_of d && nat_lt d m) (Some d) None (and_left (jc6 % 32 == crc5_of d) (nat_lt d m) (ne_eqb (jc6 % 32) (crc5_of d) e))

pub hears_great : (m jc4 jc5 jc6 : ℕ) → m ≤ cnd_in jc4 jc5 → hears_cnd m jc4 jc5 jc6 ≡ None
unfolding hears_cnd
hears_great m jc4 jc5 jc6 h =
    let d = cnd_in jc4 jc5 in
    cond-false (jc6 % 32 == crc5_of d && nat_lt d m) (Some d) None (and_right (jc6 % 32 == crc5_of d) (nat_lt d m) (le-ltb d m h))

pub says_check : (d check : ℕ) → check ≡ crc5_of d → (d / 32 ∷ d % 32 ∷ check ∷ []) ≡ says_cnd d
unfolding says_cnd
says_check d check e = ap (λ c. d / 32 ∷ d % 32 ∷ c ∷ []) e

-- A tributary of more slots than the remainder hears what is said.
pub said_is_heard : (d check m : ℕ) → d < 1024 → check ≡ crc5_of d → check < 32 → d < m → hears_cnd m (d / 32) (d % 32) check ≡ Some d
said_is_heard d check m small e five h =
    let back : cnd_in (d / 32) (d % 32) ≡ d = omega arith in
    let right : check % 32 ≡ crc5_of (cnd_in (d / 32) (d % 32)) = mod-eq_of_lt five ∙ e ∙ ap crc5_of (sym back) in
    hears_right m (d / 32) (d % 32) check right (omega arith) ∙ ap (λ x. Some x) back
