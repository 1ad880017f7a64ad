-- The bytes of words that are five.
use Rattle.std.proofs.Common.{◌≡◌, ◌<◌, ◌≤◌, List, [], ◌∷◌, length, get_or, arith, refl}
use Rattle.std.specs.Prelude.{String, string_bytes}
use Rattle.std.specs.declared.alloc.Global.{Global}
use Rattle.command_words.specs.Words.{texts}

pub five_texts : (words : List (String Global)) (a b c d e : String Global) → 5 ≤ length words → length words < 6 → a ≡ get_or words 0 a → b ≡ get_or words 1 b → c ≡ get_or words 2 c
    → d ≡ get_or words 3 d → e ≡ get_or words 4 e → texts words ≡ string_bytes a ∷ string_bytes b ∷ string_bytes c ∷ string_bytes d ∷ string_bytes e ∷ []
five_texts [] a b c d e low high p q r s t = absurd (omega arith)
five_texts (v ∷ []) a b c d e low high p q r s t = absurd (omega arith)
five_texts (v ∷ w ∷ []) a b c d e low high p q r s t = absurd (omega arith)
five_texts (v ∷ w ∷ x ∷ []) a b c d e low high p q r s t = absurd (omega arith)
five_texts (v ∷ w ∷ x ∷ y ∷ []) a b c d e low high p q r s t = absurd (omega arith)
five_texts (v ∷ w ∷ x ∷ y ∷ z ∷ []) a b c d e low high p q r s t = rw (p, q, r, s, t) refl
five_texts (v ∷ w ∷ x ∷ y ∷ z ∷ u ∷ us) a b c d e low high p q r s t = absurd (omega arith)
