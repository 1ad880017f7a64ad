-- What is said is heard, by a listener that keeps the same former number.
use Rattle.std.proofs.Common.{◌≡◌, ℕ, ◌+◌, ◌*◌, ◌/◌, ◌%◌, ◌≤◌, ◌≢◌, [], ◌∷◌, Bool, true, false, Option, Some, None, refl, ap, ◌∙◌, arith, cond}
use Rattle.std.specs.Prelude.{◌==◌}
use Rattle.std.proofs.lemmas.Bool.Decides.{nat_tests}
use Rattle.std.proofs.lemmas.Bool.{eqb-true}
use Rattle.std.specs.Option.{ForSome}
use Rattle.crc_small.specs.LongDivision.{crc8_of}
use Rattle.jc_codec.specs.declared.listener.Heard.TheVariants.{Accepted}
use Rattle.jc_codec.specs.Message.{Word, table, says, hears, hears_word, word_in, word_said, word_value, turned, one_more, one_less, two_more, two_less}
use Rattle.jc_codec.proofs.Turned.{turned_same}
use Rattle.jc_codec.proofs.OneRow.{more_differ, less_differ}
use Rattle.jc_codec.proofs.Hears.{hears_right}

-- a word that is heard as the number, with its own indicators
abbrev HeardAs : Option ℕ → ℕ → Word → Type 0
HeardAs former next word = hears_word former (word_value word) ≡ Accepted next (word.ii == word.di)

whole : (former : Option ℕ) (x : ℕ) → x ≤ 15232 → hears_word former (4 * x + 2 * 1 + 1) ≡ Accepted x true
whole former x h = grind (arith, nat_tests)

no_change : (former : Option ℕ) (x : ℕ) → x ≤ 15232 → hears_word former (4 * x + 2 * 0 + 0) ≡ Accepted x true
no_change former x h = grind (arith, nat_tests)

up_one : (former : ℕ) → former + 1 ≤ 15232 → hears_word (Some former) (4 * turned one_more former + 2 * 1 + 0) ≡ Accepted (former + 1) false
up_one former h = grind (arith, nat_tests)

up_two : (former : ℕ) → former + 2 ≤ 15232 → turned one_more former ≢ turned two_more former → hears_word (Some former) (4 * turned two_more former + 2 * 1 + 0) ≡ Accepted (former + 2) false
up_two former h other = grind (arith, nat_tests)

down_one : (next : ℕ) → next ≤ 15232 → hears_word (Some (next + 1)) (4 * turned one_less (next + 1) + 2 * 0 + 1) ≡ Accepted next false
down_one next h = grind (arith, nat_tests)

down_two : (next : ℕ) → next ≤ 15232 → turned one_less (next + 2) ≢ turned two_less (next + 2) → hears_word (Some (next + 2)) (4 * turned two_less (next + 2) + 2 * 0 + 1) ≡ Accepted next false
down_two next h other = grind (arith, nat_tests)

by_test : (t : Bool) (x y : Word) (former : Option ℕ) (next : ℕ)
    → (t ≡ true → HeardAs former next x) → (t ≡ false → HeardAs former next y) → HeardAs former next (cond t x y)
by_test true x y former next p q = p refl
by_test false x y former next p q = q refl

-- the five rows, and any other change
after_back : (former next : ℕ) → former ≤ 15232 → next ≤ 15232 → HeardAs (Some former) next (word_in table former next)
after_back former next hf hn =
    by_test (next + 0 == former + 0) _ _ (Some former) next
    (λ e. let is : next + 0 ≡ former + 0 = eqb-true (next + 0) (former + 0) e in let is' : next ≡ former = omega arith in let same_is = turned_same former (omega arith) in let back = no_change (Some former) former hf in cc) λ n0.
    by_test (next + 0 == former + 1) _ _ (Some former) next
    (λ e. let is : next + 0 ≡ former + 1 = eqb-true (next + 0) (former + 1) e in let is' : next ≡ former + 1 = omega arith in let back = up_one former (omega arith) in cc) λ n1.
    by_test (next + 1 == former + 0) _ _ (Some former) next
    (λ e. let is : next + 1 ≡ former + 0 = eqb-true (next + 1) (former + 0) e in let is' : next + 1 ≡ former = omega arith in let back = down_one next hn in cc) λ n2.
    by_test (next + 0 == former + 2) _ _ (Some former) next
    (λ e. let is : next + 0 ≡ former + 2 = eqb-true (next + 0) (former + 2) e in let is' : next ≡ former + 2 = omega arith in let back = up_two former (omega arith) (more_differ former (omega arith)) in cc) λ n3.
    by_test (next + 2 == former + 0) _ _ (Some former) next
    (λ e. let is : next + 2 ≡ former + 0 = eqb-true (next + 2) (former + 0) e in let is' : next + 2 ≡ former = omega arith in let back = down_two next hn (less_differ (next + 2) (omega arith)) in cc) λ n4.
    whole (Some former) next hn

word_back : (former : Option ℕ) (next : ℕ) → ForSome former (λ n. n ≤ 15232) → next ≤ 15232 → HeardAs former next (word_said former next)
word_back None next hf hn = whole None next hn
word_back (Some former) next hf hn = after_back former next (hf former refl) hn

-- A listener that keeps the same number as the sayer hears what is said.
pub said_is_heard : (former : Option ℕ) (next : ℕ) → ForSome former (λ n. n ≤ 15232) → next ≤ 15232
    → let word = word_said former next in
    let value = word_value word in
    hears former (value / 256) (value % 256) (crc8_of (value / 256 ∷ value % 256 ∷ [])) ≡ Accepted next (word.ii == word.di)
said_is_heard former next hf hn =
    let value = word_value (word_said former next) in
    let joined : value / 256 * 256 + value % 256 ≡ value = omega arith in
    hears_right former (value / 256) (value % 256) (crc8_of (value / 256 ∷ value % 256 ∷ [])) refl
    ∙ ap (hears_word former) joined ∙ word_back former next hf hn

-- the bytes of a word that is said
pub says_word : (former : Option ℕ) (next word check : ℕ) → word ≡ word_value (word_said former next) → check ≡ crc8_of (word / 256 ∷ word % 256 ∷ [])
    → (word / 256 ∷ word % 256 ∷ check ∷ []) ≡ says former next
unfolding says
says_word former next word check e f =
    ap (λ r. word / 256 ∷ word % 256 ∷ r ∷ []) f ∙ ap (λ w. w / 256 ∷ w % 256 ∷ crc8_of (w / 256 ∷ w % 256 ∷ []) ∷ []) e

pub hears_word_said : (former : Option ℕ) (next word check : ℕ) → ForSome former (λ n. n ≤ 15232) → next ≤ 15232
    → word ≡ word_value (word_said former next) → check ≡ crc8_of (word / 256 ∷ word % 256 ∷ [])
    → hears former (word / 256) (word % 256) check ≡ Accepted next ((word_said former next).ii == (word_said former next).di)
hears_word_said former next word check hf hn e f =
    ap (hears former (word / 256) (word % 256)) f
    ∙ ap (λ w. hears former (w / 256) (w % 256) (crc8_of (w / 256 ∷ w % 256 ∷ []))) e
    ∙ said_is_heard former next hf hn
