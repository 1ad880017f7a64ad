-- Lists of words, one by one.
use Rattle.std.proofs.Common.{◌≡◌, ◌≢◌, ◌⊎◌, inl, inr, ◌<◌, ◌≤◌, ◌+◌, ◌-◌, ◌∙◌, ℕ, zero, suc, List, [], ◌∷◌, ◌++◌, Some, length, take, drop, get_or, slice_get, refl, sym, ap, subst, arith}
use Rattle.std.specs.Prelude.{map, string_bytes, String}
use Rattle.std.specs.declared.alloc.Global.{Global}
use Rattle.std.proofs.Math.Seq.{take-length}
use Rattle.std.proofs.lemmas.Option.{same_Some, slice_get_read, slice_get_within}
use Rattle.otn_base.specs.declared.line_kind.LineKind.{LineKind}
use Rattle.line_view.specs.declared.shown.Shown.{Shown}
use Rattle.otn_view.specs.Words.{AreShown, IsAllAlong, texts, word_of}

-- the first word, and those behind it
pub first_word : (words : List (String Global)) (first : String Global) (word : List ℕ) → 1 ≤ length words → first ≡ get_or words 0 first → string_bytes first ≡ word
    → texts words ≡ word ∷ texts (take (length words - 1) (drop 1 words))
first_word [] first word some is same = absurd (omega (arith, some))
first_word (x ∷ xs) first word some is same =
    ap (λ w. string_bytes w ∷ texts xs) (sym is) ∙ ap (λ w. w ∷ texts xs) same ∙ ap (λ ws. word ∷ texts ws) (sym (take-length xs))
    ∙ ap (λ n. word ∷ texts (take n xs)) (let e : length xs ≡ suc (length xs) - 1 = omega arith in e)

-- where there is none, no word is the first
pub no_first_word : (words : List (String Global)) (word : List ℕ) (rest : List (List ℕ)) → length words < 1 → texts words ≡ word ∷ rest → ⊥
no_first_word [] word rest none e = cc
no_first_word (x ∷ xs) word rest none e = omega (arith, none)

-- nor is another word
pub other_first_word : (words : List (String Global)) (first : String Global) (word : List ℕ) (rest : List (List ℕ)) → 1 ≤ length words → first ≡ get_or words 0 first → string_bytes first ≢ word
    → texts words ≡ word ∷ rest → ⊥
other_first_word [] first word rest some is other e = omega (arith, some)
other_first_word (x ∷ xs) first word rest some is other e = let same : string_bytes x ≡ word = cc in other (ap string_bytes is ∙ same)

pub known_item : {A : Type 0} (xs : List A) (i : ℕ) (item : A) → i < length xs → item ≡ get_or xs i item → slice_get xs i ≡ Some item
known_item xs i item less is = slice_get_read xs (length xs) i item refl less is

take_on : {A : Type 0} (xs : List A) (i : ℕ) (x : A) → slice_get xs i ≡ Some x → take (i + 1) xs ≡ take i xs ++ x ∷ []
take_on [] i x known = absurd (let less = slice_get_within [] i x known in omega arith)
take_on (y ∷ xs) zero x known = ap (λ z. z ∷ []) (same_Some y x known)
take_on (y ∷ xs) (suc i) x known = ap (λ n. take n (y ∷ xs)) (let e : suc i + 1 ≡ suc (i + 1) = omega arith in e) ∙ ap (λ t. y ∷ t) (take_on xs i x known)

maps : {A B : Type 0} (f : A → B) (xs ys : List A) → map f (xs ++ ys) ≡ map f xs ++ map f ys
maps f [] ys = refl
maps f (x ∷ xs) ys = ap (λ t. f x ∷ t) (maps f xs ys)

-- the last word, and those in front of it
pub last_word : (words : List (String Global)) (last : String Global) (word : List ℕ) → 1 ≤ length words → last ≡ get_or words (length words - 1) last → string_bytes last ≡ word
    → texts words ≡ texts (take (length words - 1) words) ++ word ∷ []
last_word words last word some is same =
    let known = known_item words (length words - 1) last (omega (arith, some)) is in
    let all : length words ≡ (length words - 1) + 1 = omega (arith, some) in
    ap texts (sym (take-length words) ∙ ap (λ n. take n words) all ∙ take_on words (length words - 1) last known) ∙ maps string_bytes (take (length words - 1) words) (last ∷ [])
    ∙ ap (λ w. texts (take (length words - 1) words) ++ w ∷ []) same

last_or : {A : Type 0} (xs : List A) (x y : A) (i : ℕ) → slice_get (xs ++ x ∷ []) i ≡ Some y → (slice_get xs i ≡ Some y) ⊎ (x ≡ y)
last_or [] x y zero e = inr (same_Some x y e)
last_or [] x y (suc i) e = absurd (let less = slice_get_within [] i y e in omega arith)
last_or (z ∷ zs) x y zero e = inl e
last_or (z ∷ zs) x y (suc i) e = last_or zs x y i e

-- no word says no tributary
pub shown_none : (kind : LineKind) (shown : List Shown) → shown ≡ [] → AreShown kind [] shown
shown_none kind shown none = record {
  words_are = sym (ap (map word_of) none);
  each = λ i x at. absurd (let less = slice_get_within shown i x at in let size : length shown ≡ 0 = ap length none in omega (arith, less, size));
}

-- one word more says one more
pub shown_more : (kind : LineKind) (words : List (String Global)) (i : ℕ) (w : String Global) (shown : List Shown) (one : Shown) → slice_get words i ≡ Some w → string_bytes w ≡ word_of one
    → IsAllAlong kind one → AreShown kind (texts (take i words)) shown → AreShown kind (texts (take (i + 1) words)) (shown ++ one ∷ [])
shown_more kind words i w shown one known said on h = record {
  words_are =
      ap texts (take_on words i w known) ∙ maps string_bytes (take i words) (w ∷ []) ∙ ap (λ t. t ++ string_bytes w ∷ []) h.words_are
      ∙ ap (λ t. map word_of shown ++ t ∷ []) said ∙ sym (maps word_of shown (one ∷ []));
  each = λ k x at. elim (last_or shown one x k at) [
    | inl t ↦ h.each k x t
    | inr t ↦ subst (IsAllAlong kind) t on
  ];
}

-- all of them
pub shown_all : (kind : LineKind) (words : List (String Global)) (i : ℕ) (shown : List Shown) → length words ≤ i → i ≤ length words → AreShown kind (texts (take i words)) shown → AreShown kind (texts words) shown
shown_all kind words i shown most least h = subst (λ ws. AreShown kind (texts ws) shown) (ap (λ n. take n words) (let e : i ≡ length words = omega (arith, most, least) in e) ∙ take-length words) h
