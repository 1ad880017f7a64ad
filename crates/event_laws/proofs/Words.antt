-- Words: bytes without a blank or a line feed.
use Rattle.std.proofs.Common.{◌≡◌, ℕ, Bool, true, false, List, [], ◌∷◌, refl, arith}
use Rattle.std.specs.Prelude.{◌&&◌, not}
use Rattle.std.specs.List.{list_all}
use Rattle.std.proofs.lemmas.Bool.Decides.{nat_tests}
use Rattle.std.proofs.lemmas.List.Elements.{All-nil, All-cons}
use Rattle.plan_file.specs.Rules.{is_name, is_name_byte}
use Rattle.view_events.specs.ViewLines.{IsWord, ends_word}

-- a byte of a word
abbrev pub IsPart : (byte : ℕ) → Type 0
IsPart byte = ends_word byte ≡ false

-- whether each byte is one
abbrev pub is_word : List ℕ → Bool
is_word [] = true
is_word (byte ∷ w) = not (ends_word byte) && is_word w

both : (p q : Bool) → (not p && q) ≡ true → (p ≡ false) × (q ≡ true)
both false q h = (refl, h)
both true q h = absurd (cc)

-- so it is a word
pub word_by : (w : List ℕ) → is_word w ≡ true → IsWord w
word_by [] h = All-nil IsPart
word_by (byte ∷ w) h = let parts = both (ends_word byte) (is_word w) h in All-cons IsPart byte w parts.0 (word_by w parts.1)

-- ---- names

-- the parts of a test of two
pub first_of : (a b : Bool) → (a && b) ≡ true → a ≡ true
first_of true b e = refl
first_of false b e = cc

-- the second one
pub last_of : (a b : Bool) → (a && b) ≡ true → b ≡ true
last_of true b e = e
last_of false b e = cc

name_part : (b : ℕ) → is_name_byte b ≡ true → IsPart b
name_part b e = grind (arith, nat_tests)

all_parts : (name : List ℕ) → list_all is_name_byte name ≡ true → IsWord name
all_parts [] e = All-nil IsPart
all_parts (b ∷ name) e =
    All-cons IsPart b name (name_part b (first_of (is_name_byte b) (list_all is_name_byte name) e))
    (all_parts name (last_of (is_name_byte b) (list_all is_name_byte name) e))

-- a name is a word
pub name_word : (name : List ℕ) → is_name name ≡ true → IsWord name
name_word name good = all_parts name (last_of _ (list_all is_name_byte name) good)
