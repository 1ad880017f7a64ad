-- The table of a text, by what is known of the text.
use Rattle.std.proofs.Common.{◌≡◌, ℕ, ◌≤◌, Bool, true, false, ◌&&◌, List, length, nat_le, Option, None, refl, ap, sym, ◌∙◌, arith}
use Rattle.std.proofs.lemmas.Bool.Decides.{nat_tests}
use Rattle.std.proofs.lemmas.Str.{IsUtf8-from_is_utf8, is_utf8-from_IsUtf8}
use Rattle.std.specs.Str.{IsUtf8, is_utf8}
use Rattle.toml.specs.Data.{Members}
use Rattle.toml.specs.Parse.{parse_document}
use Rattle.plan_file.specs.Answer.{accepted_or, plan_of_text}
use Rattle.plan_file.specs.Meaning.{table_of_text, meaning_in, meaning_of}
use Rattle.plan_file.specs.Refusal.{refusal_in, refusal_of}

at_most : (n m : ℕ) → n ≤ m → nat_le n m ≡ true
at_most n m h = grind (arith, nat_tests)

pub table_of_text-short : (text : List ℕ) → length text ≤ 1048576 → IsUtf8 text → table_of_text text ≡ parse_document text
unfolding table_of_text
table_of_text-short text short utf8 = rw (at_most (length text) 1048576 short, is_utf8-from_IsUtf8 text utf8)

not_utf8 : (text : List ℕ) → ¬ IsUtf8 text → (b : Bool) → is_utf8 text ≡ b → is_utf8 text ≡ false
not_utf8 text bad true e = absurd (bad (IsUtf8-from_is_utf8 text e))
not_utf8 text bad false e = e

and_false : (b : Bool) → (b && false) ≡ false
and_false true = refl
and_false false = refl

pub table_of_text-bad : (text : List ℕ) → ¬ IsUtf8 text → table_of_text text ≡ None
unfolding table_of_text
table_of_text-bad text bad = rw (not_utf8 text bad (is_utf8 text) refl, and_false (nat_le (length text) 1048576))

-- ---- the answer to a text, by its table

pub answer_of : (text : List ℕ) (table : Option Members) → table ≡ table_of_text text → accepted_or (meaning_in table) (refusal_in table) ≡ plan_of_text text
unfolding meaning_of refusal_of
answer_of text table same = ap (λ t. accepted_or (meaning_in t) (refusal_in t)) same

pub same_table : (text other : List ℕ) → table_of_text text ≡ table_of_text other → plan_of_text text ≡ plan_of_text other
same_table text other same = sym (answer_of text (table_of_text text) refl) ∙ answer_of other (table_of_text text) same
