-- Facts on lists of bytes.
use Rattle.std.proofs.Common.{◌≡◌, ◌≢◌, ◌<◌, ◌≤◌, ◌+◌, ◌-◌, ℕ, zero, suc, Bool, true, false, ◌==◌, ◌||◌, List, [], ◌∷◌, ◌++◌, length, take, drop, drop-cons, get_or, arith, refl, sym, ap, ◌∙◌, add-one, length-drop}
use Rattle.std.proofs.lemmas.Bool.Decides.{nat_tests}
use Rattle.std.proofs.lemmas.List.{take-append-drop, get_or-drop}
use Rattle.std.proofs.Math.Seq.{take-add}
use Rattle.std.specs.List.{list_any}
use Rattle.packet_text.specs.TextLines.{has_lf}
use Rattle.packet_text.specs.Steps.Carrying.{IsFirstLf, Carried}

pub or_false : (a b : Bool) → (a || b) ≡ false → (a ≡ false) × (b ≡ false)
or_false true b h = absurd (cc)
or_false false b h = (refl, h)

-- no LF in either of two lists
pub clean_both : (a b : List ℕ) → has_lf a ≡ false → has_lf b ≡ false → has_lf (a ++ b) ≡ false
unfolding has_lf
clean_both [] b h k = k
clean_both (x ∷ xs) b h k =
    let parts = or_false (x == 10) (has_lf xs) h in
    rw (parts.0, clean_both xs b parts.1 k) refl

byte_more : (bytes : List ℕ) (n : ℕ) → n < length bytes → has_lf (take n bytes) ≡ false → get_or bytes n 0 ≢ 10 → has_lf (take (suc n) bytes) ≡ false
unfolding has_lf
byte_more [] n less h other = absurd (omega arith)
byte_more (x ∷ xs) zero less h other =
    let test : (x == 10) ≡ false = grind (arith, nat_tests) in
    rw test refl
byte_more (x ∷ xs) (suc n) less h other =
    let parts = or_false (x == 10) (has_lf (take n xs)) h in
    rw (parts.0, byte_more xs n (omega arith) parts.1 other) refl

-- a byte more
pub clean_more : (bytes : List ℕ) (n : ℕ) → n < length bytes → has_lf (take n bytes) ≡ false → get_or bytes n 0 ≢ 10 → has_lf (take (n + 1) bytes) ≡ false
clean_more bytes n less h other = rw add-one (byte_more bytes n less h other)

-- the answer of `contains`
pub any_lf : (bytes : List ℕ) → list_any (λ x. x == 10) bytes ≡ false → has_lf bytes ≡ false
unfolding has_lf
any_lf [] h = refl
any_lf (x ∷ xs) h =
    let parts = or_false (x == 10) (list_any (λ y. y == 10) xs) h in
    rw (parts.0, any_lf xs parts.1) refl

-- a piece without LF behind others
pub clean_piece : (bytes : List ℕ) (at n : ℕ) → has_lf (take at bytes) ≡ false → has_lf (take (at + n - at) (drop at bytes)) ≡ false → has_lf (take (at + n) bytes) ≡ false
clean_piece bytes at n h none =
    let e : at + n - at ≡ n = omega arith in
    ap has_lf (take-add at n bytes) ∙ clean_both (take at bytes) (take n (drop at bytes)) h (rw e at none)

-- the first LF behind bytes that have none
pub first_behind : (bytes : List ℕ) (before n : ℕ) → before ≤ length bytes → has_lf (take before bytes) ≡ false → IsFirstLf (drop before bytes) n → IsFirstLf bytes (before + n)
first_behind bytes before n fits h first = record {
  within = (let e = length-drop before bytes in let w = first.within in omega arith);
  clean = ap has_lf (take-add before n bytes) ∙ clean_both (take before bytes) (take n (drop before bytes)) h first.clean;
  here = sym (get_or-drop before bytes n 0) ∙ first.here;
}

pub none_behind : (bytes : List ℕ) (before : ℕ) → has_lf (take before bytes) ≡ false → has_lf (drop before bytes) ≡ false → has_lf bytes ≡ false
none_behind bytes before h rest = sym (ap has_lf (take-append-drop before bytes)) ∙ clean_both (take before bytes) (drop before bytes) h rest

pub carried : (old bytes new : List ℕ) (n : ℕ) → new ≡ old ++ take n bytes → IsFirstLf bytes n → Carried old bytes n new
carried old bytes new n line first =
    let byte : get_or bytes n 0 ≡ 10 = first.here in
    let next : drop n bytes ≡ get_or bytes n 0 ∷ drop (n + 1) bytes = rw add-one (drop-cons bytes n 0 first.within) in
    record {
      within = first.within;
      line = line;
      clean = first.clean;
      parts = sym (take-append-drop n bytes) ∙ ap (λ rest. take n bytes ++ rest) (next ∙ ap (λ x. x ∷ drop (n + 1) bytes) byte);
    }
