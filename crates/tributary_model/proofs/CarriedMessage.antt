-- A message that says a pair is heard as that pair; with equal indicators whatever the former number is.
use Rattle.std.proofs.Common.{◌≡◌, ℕ, ◌+◌, ◌*◌, ◌/◌, ◌%◌, ◌<◌, ◌≤◌, List, [], ◌∷◌, ◌++◌, length, Bool, true, false, cond, Option, Some, None, refl, ap, ◌∙◌, sym, arith}
use Rattle.std.specs.Prelude.{◌==◌, nat_le, slice_index}
use Rattle.std.specs.Option.{ForSome}
use Rattle.std.proofs.lemmas.Bool.{cond-true, eq-eqb, eqb-true, le-leb}
use Rattle.crc_small.specs.LongDivision.{crc8_of, crc5_of}
use Rattle.jc_codec.specs.declared.listener.Heard.TheVariants.{Accepted, Damaged as DamagedNumber}
use Rattle.jc_codec.specs.Message.{Word, says, hears, hears_word, word_said, word_value, in_range, turned, same, one_more, one_less, two_more, two_less}
use Rattle.jc_codec.proofs.Turned.{turned_same}
use Rattle.jc_codec.proofs.Hears.{hears_right}
use Rattle.jc_codec.proofs.HeardBack.{said_is_heard}
use Rattle.cnd_codec.specs.Remainder.{says_cnd, hears_cnd, cnd_in}
use Rattle.cnd_codec.proofs.HeardRest.{hears_right as hears_right_rest}
use Rattle.tributary_model.specs.declared.turns.Hearing.TheVariants.{Pair}
use Rattle.tributary_model.specs.Messages.{hears_message, heard_as, with_cnd}
use Rattle.tributary_model.specs.Carries.{cleared}
use Rattle.tributary_model.specs.Carriage.{HasEqualIndicators}

-- the six bytes of a message, as far as they are given
record Six (bytes : List ℕ) (a b k x y z : ℕ) : Type 0 where
  jc1 : slice_index bytes 0 ≡ a
  jc2 : slice_index bytes 1 ≡ b
  jc3 : slice_index bytes 2 ≡ k
  jc4 : slice_index bytes 3 % 32 ≡ x
  jc5 : slice_index bytes 4 % 32 ≡ y
  jc6 : slice_index bytes 5 % 32 ≡ z

six : (bytes : List ℕ) (a b k x y z : ℕ) → cleared bytes ≡ (a ∷ b ∷ k ∷ x ∷ y ∷ z ∷ []) → Six bytes a b k x y z
six [] a b k x y z e = absurd (let n = ap length e in omega arith)
six (b0 ∷ []) a b k x y z e = absurd (let n = ap length e in omega arith)
six (b0 ∷ b1 ∷ []) a b k x y z e = absurd (let n = ap length e in omega arith)
six (b0 ∷ b1 ∷ b2 ∷ []) a b k x y z e = absurd (let n = ap length e in omega arith)
six (b0 ∷ b1 ∷ b2 ∷ b3 ∷ []) a b k x y z e = absurd (let n = ap length e in omega arith)
six (b0 ∷ b1 ∷ b2 ∷ b3 ∷ b4 ∷ []) a b k x y z e = absurd (let n = ap length e in omega arith)
six (b0 ∷ b1 ∷ b2 ∷ b3 ∷ b4 ∷ b5 ∷ rest) a b k x y z e = record {
  jc1 = ap (λ l. slice_index l 0) e;
  jc2 = ap (λ l. slice_index l 1) e;
  jc3 = ap (λ l. slice_index l 2) e;
  jc4 = ap (λ l. slice_index l 3) e;
  jc5 = ap (λ l. slice_index l 4) e;
  jc6 = ap (λ l. slice_index l 5) e;
}

-- a message says a number after a former one, and a remainder
abbrev pub Says : (former : Option ℕ) → (c d : ℕ) → List ℕ → Type 0
Says former c d bytes = cleared bytes ≡ says former c ++ says_cnd d

said_bytes : (former : Option ℕ) (c d : ℕ) (bytes : List ℕ) → Says former c d bytes
    → let w = word_value (word_said former c) in Six bytes (w / 256) (w % 256) (crc8_of (w / 256 ∷ w % 256 ∷ [])) (d / 32) (d % 32) (crc5_of d)
unfolding says says_cnd
said_bytes former c d bytes e = let w = word_value (word_said former c) in six bytes (w / 256) (w % 256) (crc8_of (w / 256 ∷ w % 256 ∷ [])) (d / 32) (d % 32) (crc5_of d) e

-- the remainder
rest_back : (m d jc4 jc5 jc6 : ℕ) → d < m → jc4 % 32 ≡ d / 32 → jc5 % 32 ≡ d % 32 → jc6 % 32 ≡ crc5_of d → hears_cnd m jc4 jc5 jc6 ≡ Some d
rest_back m d jc4 jc5 jc6 h e f g =
    let is : cnd_in jc4 jc5 ≡ d = omega arith in
    hears_right_rest m jc4 jc5 jc6 (g ∙ ap crc5_of (sym is)) (omega arith) ∙ ap (λ x. Some x) is

-- the number
number_back : (former : Option ℕ) (c jc1 jc2 jc3 : ℕ) → ForSome former (λ n. n ≤ 15232) → c ≤ 15232
    → let w = word_value (word_said former c) in
    jc1 ≡ w / 256 → jc2 ≡ w % 256 → jc3 ≡ crc8_of (w / 256 ∷ w % 256 ∷ [])
    → hears former jc1 jc2 jc3 ≡ Accepted c ((word_said former c).ii == (word_said former c).di)
number_back former c jc1 jc2 jc3 hf hc e f g =
    let w = word_value (word_said former c) in
    ap (λ x. hears former x jc2 jc3) e
    ∙ ap (λ x. hears former (w / 256) x jc3) f
    ∙ ap (λ x. hears former (w / 256) (w % 256) x) g
    ∙ said_is_heard former c hf hc

-- What is said is heard back, after the same former number.
pub heard_back : (m : ℕ) (former : Option ℕ) (c d : ℕ) (bytes : List ℕ) → ForSome former (λ n. n ≤ 15232) → c ≤ 15232 → d < m → Says former c d bytes
    → hears_message former m bytes ≡ Pair c d ((word_said former c).ii == (word_said former c).di)
unfolding hears_message
heard_back m former c d bytes hf hc hd e =
    let s = said_bytes former c d bytes e in
    ap (λ o. heard_as o (hears former (slice_index bytes 0) (slice_index bytes 1) (slice_index bytes 2))) (rest_back m d _ _ _ hd s.jc4 s.jc5 s.jc6)
    ∙ ap (λ x. with_cnd x d) (number_back former c _ _ _ hf hc s.jc1 s.jc2 s.jc3)

-- ---- with equal indicators

equal_word : (former : Option ℕ) (w : ℕ) → w / 2 % 2 ≡ w % 2 → hears_word former w ≡ in_range (w / 4) true
equal_word former w e = cond-true (w / 2 % 2 == w % 2) _ _ (eq-eqb (w / 2 % 2) (w % 2) e)

-- a word whose indicators, where they are equal, stand beside the number itself
abbrev IsPlain : (c : ℕ) → Word → Type 0
IsPlain c word = word_value word / 2 % 2 ≡ word_value word % 2 → word_value word / 4 ≡ c

by_test : (t : Bool) (x y : Word) (c : ℕ) → (t ≡ true → IsPlain c x) → IsPlain c y → IsPlain c (cond t x y)
by_test true x y c p q = p refl
by_test false x y c p q = q

plain_binary : (c : ℕ) → IsPlain c (record { bits = c; ii = 1; di = 1 })
plain_binary c e = omega arith

plain_same : (c former x : ℕ) → c ≡ former → x ≡ former → IsPlain c (record { bits = x; ii = 0; di = 0 })
plain_same c former x e f g = omega arith

up_differs : (c x : ℕ) → IsPlain c (record { bits = x; ii = 1; di = 0 })
up_differs c x e = absurd (omega arith)

down_differs : (c x : ℕ) → IsPlain c (record { bits = x; ii = 0; di = 1 })
down_differs c x e = absurd (omega arith)

plain_said : (former : Option ℕ) (c : ℕ) → c ≤ 15232 → IsPlain c (word_said former c)
plain_said None c h = plain_binary c
plain_said (Some former) c h =
    by_test (c + 0 == former + 0) _ _ c (λ e. let is : c + 0 ≡ former + 0 = eqb-true (c + 0) (former + 0) e in plain_same c former (turned same former) (omega arith) (turned_same former (omega arith)))
    (by_test (c + 0 == former + 1) _ _ c (λ e. up_differs c (turned one_more former))
    (by_test (c + 1 == former + 0) _ _ c (λ e. down_differs c (turned one_less former))
    (by_test (c + 0 == former + 2) _ _ c (λ e. up_differs c (turned two_more former))
    (by_test (c + 2 == former + 0) _ _ c (λ e. down_differs c (turned two_less former))
    (plain_binary c)))))

number_anew : (former kept : Option ℕ) (c jc1 jc2 jc3 : ℕ) → c ≤ 15232
    → let w = word_value (word_said former c) in
    jc1 ≡ w / 256 → jc2 ≡ w % 256 → jc3 ≡ crc8_of (w / 256 ∷ w % 256 ∷ []) → jc2 / 2 % 2 ≡ jc2 % 2
    → hears kept jc1 jc2 jc3 ≡ Accepted c true
number_anew former kept c jc1 jc2 jc3 hc e f g even =
    let w = word_value (word_said former c) in
    let right : jc3 ≡ crc8_of (jc1 ∷ jc2 ∷ []) = g ∙ ap (λ a. crc8_of (a ∷ w % 256 ∷ [])) (sym e) ∙ ap (λ b. crc8_of (jc1 ∷ b ∷ [])) (sym f) in
    let is : jc1 * 256 + jc2 ≡ w = whole_word w jc1 jc2 e f in
    let same : w / 2 % 2 ≡ w % 2 = even_word w jc2 f even in
    let cm : w / 4 ≡ c = plain_said former c hc same in
    hears_right kept jc1 jc2 jc3 right
    ∙ ap (hears_word kept) is
    ∙ equal_word kept w same
    ∙ ap (λ n. in_range n true) cm
    ∙ cond-true (nat_le c 15232) (Accepted c true) DamagedNumber (le-leb c 15232 hc)
  where
    whole_word : (w a b : ℕ) → a ≡ w / 256 → b ≡ w % 256 → a * 256 + b ≡ w
    whole_word w a b e f = omega arith

    even_word : (w b : ℕ) → b ≡ w % 256 → b / 2 % 2 ≡ b % 2 → w / 2 % 2 ≡ w % 2
    even_word w b e f = omega arith

-- With equal indicators it is heard so whatever the former numbers are.
pub heard_anew : (m : ℕ) (former kept : Option ℕ) (c d : ℕ) (bytes : List ℕ) → c ≤ 15232 → d < m → Says former c d bytes → HasEqualIndicators bytes
    → hears_message kept m bytes ≡ Pair c d true
unfolding hears_message
heard_anew m former kept c d bytes hc hd e even =
    let s = said_bytes former c d bytes e in
    ap (λ o. heard_as o (hears kept (slice_index bytes 0) (slice_index bytes 1) (slice_index bytes 2))) (rest_back m d _ _ _ hd s.jc4 s.jc5 s.jc6)
    ∙ ap (λ x. with_cnd x d) (number_anew former kept c _ _ _ hc s.jc1 s.jc2 s.jc3 even)

-- The first message has equal indicators.
pub first_says_anew : (c d : ℕ) (bytes : List ℕ) → Says None c d bytes → HasEqualIndicators bytes
first_says_anew c d bytes e =
    let s = said_bytes None c d bytes e in
    let jc2 : slice_index bytes 1 ≡ (4 * c + 2 * 1 + 1) % 256 = s.jc2 in
    binary_equal c (slice_index bytes 1) jc2
  where
    binary_equal : (c b : ℕ) → b ≡ (4 * c + 2 * 1 + 1) % 256 → b / 2 % 2 ≡ b % 2
    binary_equal c b e = omega arith
