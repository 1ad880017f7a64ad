-- The text of a word, by whether its bytes are UTF-8.
use Rattle.std.proofs.Common.{◌≡◌, ℕ, Bool, true, false, List, [], refl}
use Rattle.std.proofs.lemmas.Str.{IsUtf8-from_is_utf8, is_utf8-from_IsUtf8}
use Rattle.std.specs.Str.{IsUtf8, is_utf8}
use Rattle.program_words.specs.Given.{word_text}

not_utf8 : (bytes : List ℕ) → ¬ IsUtf8 bytes → (b : Bool) → is_utf8 bytes ≡ b → is_utf8 bytes ≡ false
not_utf8 bytes bad true e = absurd (bad (IsUtf8-from_is_utf8 bytes e))
not_utf8 bytes bad false e = e

pub word_text-good : (bytes : List ℕ) → IsUtf8 bytes → word_text bytes ≡ bytes
word_text-good bytes good = rw (is_utf8-from_IsUtf8 bytes good) refl

pub word_text-bad : (bytes : List ℕ) → ¬ IsUtf8 bytes → word_text bytes ≡ []
word_text-bad bytes bad = rw (not_utf8 bytes bad (is_utf8 bytes) refl) refl
