-- What a listener hears, by the check, and what is in range.
use Rattle.std.proofs.Common.{◌≡◌, ◌≢◌, ℕ, ◌+◌, ◌*◌, ◌/◌, ◌%◌, ◌-◌, ◌<◌, ◌≤◌, List, [], ◌∷◌, Bool, true, false, Option, Some, None, subst}
use Rattle.std.specs.Prelude.{◌==◌, nat_le}
use Rattle.std.proofs.lemmas.Bool.{cond-true, cond-false, cond_both, eq-eqb, ne_eqb, leb-true}
use Rattle.crc_small.specs.LongDivision.{crc8_of}
use Rattle.crc_small.specs.Changes.{ChangesOneByte}
use Rattle.crc_small.proofs.Changes.{change_shows}
use Rattle.jc_codec.specs.declared.listener.Heard.{Heard}
use Rattle.jc_codec.specs.declared.listener.Heard.TheVariants.{Accepted, Damaged, BaseLost}
use Rattle.jc_codec.specs.Message.{Row, table, hears, hears_word, hears_change, heard_in, in_range, moved, fits}

pub hears_right : (former : Option ℕ) (jc1 jc2 jc3 : ℕ) → jc3 ≡ crc8_of (jc1 ∷ jc2 ∷ []) → hears former jc1 jc2 jc3 ≡ hears_word former (jc1 * 256 + jc2)
unfolding hears
hears_right former jc1 jc2 jc3 e = cond-true (jc3 == crc8_of (jc1 ∷ jc2 ∷ [])) (hears_word former (jc1 * 256 + jc2)) Damaged (eq-eqb jc3 (crc8_of (jc1 ∷ jc2 ∷ [])) e)

pub hears_wrong : (former : Option ℕ) (jc1 jc2 jc3 : ℕ) → jc3 ≢ crc8_of (jc1 ∷ jc2 ∷ []) → hears former jc1 jc2 jc3 ≡ Damaged
unfolding hears
hears_wrong former jc1 jc2 jc3 e = cond-false (jc3 == crc8_of (jc1 ∷ jc2 ∷ [])) (hears_word former (jc1 * 256 + jc2)) Damaged (ne_eqb jc3 (crc8_of (jc1 ∷ jc2 ∷ [])) e)

-- a number that is accepted is at most the groups of a multiframe
abbrev pub IsInRange : Heard → Type 0
IsInRange (Accepted cm equal) = cm ≤ 15232
IsInRange Damaged = Unit {0}
IsInRange BaseLost = Unit {0}

IsInRange-in_range : (cm : ℕ) (equal : Bool) → IsInRange (in_range cm equal)
IsInRange-in_range cm equal = cond_both (nat_le cm 15232) (Accepted cm equal) Damaged IsInRange (λ e. leb-true cm 15232 e) (λ e. tt)

IsInRange-moved : (former more less : ℕ) → IsInRange (moved former more less)
IsInRange-moved former more less =
    cond_both (nat_le less (former + more)) (in_range (former + more - less) false) Damaged IsInRange (λ e. IsInRange-in_range (former + more - less) false) (λ e. tt)

IsInRange-heard_in : (rows : List Row) (former bits ii di : ℕ) → IsInRange (heard_in rows former bits ii di)
IsInRange-heard_in [] former bits ii di = tt
IsInRange-heard_in (row ∷ rows) former bits ii di =
    cond_both (fits former bits ii di row) (moved former row.more row.less) (heard_in rows former bits ii di) IsInRange
    (λ e. IsInRange-moved former row.more row.less) (λ e. IsInRange-heard_in rows former bits ii di)

IsInRange-hears_change : (former : Option ℕ) (bits ii di : ℕ) → IsInRange (hears_change former bits ii di)
IsInRange-hears_change None bits ii di = tt
IsInRange-hears_change (Some former) bits ii di = IsInRange-heard_in table former bits ii di

IsInRange-hears_word : (former : Option ℕ) (word : ℕ) → IsInRange (hears_word former word)
IsInRange-hears_word former word =
    cond_both (word / 2 % 2 == word % 2) (in_range (word / 4) true) (hears_change former (word / 4) (word / 2 % 2) (word % 2)) IsInRange
    (λ e. IsInRange-in_range (word / 4) true) (λ e. IsInRange-hears_change former (word / 4) (word / 2 % 2) (word % 2))

pub IsInRange-hears : (former : Option ℕ) (jc1 jc2 jc3 : ℕ) → IsInRange (hears former jc1 jc2 jc3)
unfolding hears
IsInRange-hears former jc1 jc2 jc3 =
    cond_both (jc3 == crc8_of (jc1 ∷ jc2 ∷ [])) (hears_word former (jc1 * 256 + jc2)) Damaged IsInRange (λ e. IsInRange-hears_word former (jc1 * 256 + jc2)) (λ e. tt)

pub accepted_in_range : (former : Option ℕ) (jc1 jc2 jc3 cm : ℕ) (equal : Bool) → hears former jc1 jc2 jc3 ≡ Accepted cm equal → cm ≤ 15232
accepted_in_range former jc1 jc2 jc3 cm equal e = let P : Heard → Type 0 = IsInRange in subst P e (IsInRange-hears former jc1 jc2 jc3)

-- a right message that was changed within one byte
pub changed_damaged : (former : Option ℕ) (jc1 jc2 jc3 a b : ℕ) → jc1 < 256 → jc2 < 256 → a < 256 → b < 256
    → ChangesOneByte (a ∷ b ∷ crc8_of (a ∷ b ∷ []) ∷ []) (jc1 ∷ jc2 ∷ jc3 ∷ []) → hears former jc1 jc2 jc3 ≡ Damaged
changed_damaged former jc1 jc2 jc3 a b h1 h2 ha hb changed = hears_wrong former jc1 jc2 jc3 (change_shows a b jc1 jc2 jc3 ha hb h1 h2 changed)
