-- What two bytes say as digits, by what they are worth.
use Rattle.std.proofs.Common.{◌≡◌, ◌<◌, ◌≤◌, ◌+◌, ◌*◌, ◌/◌, ◌%◌, ◌==◌, ◌⊎◌, inl, inr, ℕ, true, false, cond, ltb, Option, Some, None, Result, Ok, Err, arith, refl, sym, ap, ◌∙◌, eqb-true}
use Rattle.std.proofs.lemmas.Bool.{cases_lt, agree_below_at}
use Rattle.std.proofs.lemmas.Bool.Decides.{nat_tests}
use Rattle.hex.specs.Hex.{hex_digit_value, digit_or_error, ◌>>=◌}
use Rattle.hex.specs.declared.error.FromHexError.{FromHexError}
use Rattle.packet_text.specs.Steps.DigitMarks.{worth, byte_of, IsPair, IsRefused}

-- the pair whose digits have these values
abbrev of_values : ℕ → ℕ → ℕ → Option ℕ → Option ℕ → Result ℕ FromHexError
of_values high low i x y = digit_or_error high i x >>= (λ h. digit_or_error low (i + 1) y >>= (λ l. Ok (h * 16 + l)))

-- of a digit 16 and its value, of another byte 0
abbrev marked : Option ℕ → ℕ
marked (Some value) = 16 + value
marked None = 0

marks_are : (c : ℕ) → c < 256 → marked (hex_digit_value c) ≡ cond (ltb (worth c) 16) (16 + worth c) 0
unfolding worth
marks_are c h = eqb-true _ _ (agree_below_at (λ x. marked (hex_digit_value x) == cond (ltb (worth x) 16) (16 + worth x) 0) (λ x. true) 256 c refl h)

none_above : (c : ℕ) → 256 ≤ c → hex_digit_value c ≡ None
none_above c h = grind (arith, nat_tests)

worth_above : (c : ℕ) → 256 ≤ c → worth c ≡ 255
unfolding worth
worth_above c h = grind (arith, nat_tests)

by_marks : (x : Option ℕ) (v : ℕ) → marked x ≡ 16 + v → x ≡ Some v
by_marks (Some w) v h = ap Some (let e : w ≡ v = omega (arith, h) in e)
by_marks None v h = absurd (omega (arith, h))

by_no_mark : (x : Option ℕ) → marked x ≡ 0 → x ≡ None
by_no_mark (Some w) h = absurd (omega (arith, h))
by_no_mark None h = refl

-- a digit
pub worth_digit : (c : ℕ) → worth c < 16 → hex_digit_value c ≡ Some (worth c)
worth_digit c h = elim (cases_lt c 256) [
  | inl l ↦ (
      let below : ltb (worth c) 16 ≡ true = grind (arith, nat_tests) in
      by_marks _ _ (marks_are c l ∙ ap (λ b. cond b (16 + worth c) 0) below))
  | inr k ↦ absurd (let e = worth_above c k in omega (arith, e, h))
]

-- no digit
pub worth_none : (c : ℕ) → 16 ≤ worth c → hex_digit_value c ≡ None
worth_none c h = elim (cases_lt c 256) [
  | inl l ↦ (
      let over : ltb (worth c) 16 ≡ false = grind (arith, nat_tests) in
      by_no_mark _ (marks_are c l ∙ ap (λ b. cond b (16 + worth c) 0) over))
  | inr k ↦ none_above c k
]

joined_values : (v w : ℕ) → v < 16 → w < 16 → byte_of v w ≡ v * 16 + w
joined_values v w f g =
    let at : byte_of ((16 * v + w) / 16) ((16 * v + w) % 16) ≡ (16 * v + w) / 16 * 16 + (16 * v + w) % 16 =
    eqb-true _ _ (agree_below_at (λ n. byte_of (n / 16) (n % 16) == n / 16 * 16 + n % 16) (λ n. true) 256 (16 * v + w) refl (omega (arith, f, g))) in
    let high : (16 * v + w) / 16 ≡ v = omega (arith, g) in
    let low : (16 * v + w) % 16 ≡ w = omega (arith, g) in
    rw (high, low) at at

-- two digits
pub pair_read : (high low : ℕ) → worth high < 16 → worth low < 16 → IsPair high low (byte_of (worth high) (worth low))
pair_read high low h l =
    record { at = λ place. rw (worth_digit high h, worth_digit low l) (ap Ok (sym (joined_values (worth high) (worth low) h l))) }

refused_values : (high low place : ℕ) (x y : Option ℕ) → (x ≡ None) ⊎ (y ≡ None) → (e : FromHexError) × (of_values high low place x y ≡ Err e)
refused_values high low place None y h = (_, refl)
refused_values high low place (Some v) None h = (_, refl)
refused_values high low place (Some v) (Some w) (inl h) = cc h
refused_values high low place (Some v) (Some w) (inr h) = cc h

-- two bytes of which one is no digit
pub pair_refused : (high low : ℕ) → (16 ≤ worth high) ⊎ (16 ≤ worth low) → IsRefused high low
pair_refused high low (inl h) = record { at = λ place. refused_values high low place (hex_digit_value high) (hex_digit_value low) (inl (worth_none high h)) }
pair_refused high low (inr h) = record { at = λ place. refused_values high low place (hex_digit_value high) (hex_digit_value low) (inr (worth_none low h)) }
