-- Words that ask for no view.
use Rattle.std.proofs.Common.{◌≡◌, ◌≢◌, ◌<◌, ◌∙◌, ℕ, Bool, true, false, nat_eq, if◌then◌else◌, List, [], ◌∷◌, ◌++◌, Option, Some, None, codes, length, get_or, slice_get, refl, sym, ap, subst, arith, append_assoc}
use Rattle.std.specs.Prelude.{map, option_map, string_bytes, String}
use Rattle.std.specs.Fmt.{decimal}
use Rattle.std.specs.declared.alloc.Global.{Global}
use Rattle.std.proofs.lemmas.Option.{same_Some, slice_get-map}
use Rattle.number_lists.proofs.NumberLists.{no_mark}
use Rattle.otn_base.specs.declared.line_kind.LineKind.{LineKind}
use Rattle.line_view.specs.ViewText.{slots_text}
use Rattle.line_view.specs.declared.shown.Shown.{Shown}
use Rattle.otn_view.specs.Words.{AreShown, IsAllAlong, IsGiven, kind_by, texts, word_of}
use Rattle.otn_view.proofs.SlotTexts.{most_slots}

-- ---- the word of a tributary

-- its port has no colon
pub no_colon : (kind : LineKind) (one : Shown) → IsAllAlong kind one → (i : ℕ) → i < length (decimal one.port) → get_or (decimal one.port) i 0 ≢ 58
no_colon kind one h = no_mark one.port 58 (omega (arith, h.on_line.high, most_slots kind)) (λ r. let high = r.1 in let bad : ⊥ = omega arith in bad)

-- what a word is cut into
pub cut_word : (word : List ℕ) (one : Shown) → word ≡ word_of one → word ≡ decimal one.port ++ 58 ∷ slots_text one.slots.list
cut_word word one e = e ∙ append_assoc (decimal one.port) (codes ":") (slots_text one.slots.list)

-- whether a word has one
abbrev has_colon : List ℕ → Bool
has_colon [] = false
has_colon (c ∷ cs) = if nat_eq c 58 then true else has_colon cs

either : (b c : Bool) → c ≡ true → (if b then true else c) ≡ true
either true c e = refl
either false c e = e

colon_in : (front behind : List ℕ) → has_colon (front ++ 58 ∷ behind) ≡ true
colon_in [] behind = refl
colon_in (c ∷ front) behind = either (nat_eq c 58) (has_colon (front ++ 58 ∷ behind)) (colon_in front behind)

has_word : (one : Shown) → has_colon (word_of one) ≡ true
has_word one = ap has_colon (cut_word (word_of one) one refl) ∙ colon_in (decimal one.port) (slots_text one.slots.list)

-- a word without one is that of no tributary
no_first : (word : List ℕ) (all : List Shown) (rest : List (List ℕ)) → has_colon word ≡ false → map word_of all ≡ word ∷ rest → ⊥
no_first word [] rest none e = cc
no_first word (one ∷ all) rest none e =
    let same : word_of one ≡ word = cc in
    let bad : true ≡ false = sym (has_word one) ∙ ap has_colon same ∙ none in
    cc

-- the word at which the list of tributaries ends
pub no_tributary : (kind : LineKind) (words : List (String Global)) (i : ℕ) (w : String Global) → slice_get words i ≡ Some w
    → ((one : Shown) → IsAllAlong kind one → string_bytes w ≡ word_of one → ⊥) → (all : List Shown) → AreShown kind (texts words) all → ⊥
no_tributary kind words i w known none all h = by_item (slice_get all i) refl
  where
    same : Some (string_bytes w) ≡ option_map word_of (slice_get all i)
    same = sym (ap (option_map string_bytes) known) ∙ sym (slice_get-map string_bytes words i) ∙ ap (λ ws. slice_get ws i) h.words_are ∙ slice_get-map word_of all i

    by_item : (o : Option Shown) → slice_get all i ≡ o → ⊥
    by_item None e = let bad : Some (string_bytes w) ≡ None = same ∙ ap (option_map word_of) e in cc
    by_item (Some one) e = none one (h.each i one e) (same_Some (string_bytes w) (word_of one) (same ∙ ap (option_map word_of) e))

-- ---- the form of the line

-- a word that is in front, or is not, in two ways of reading
record SameFront (is other : Bool) (rest behind : List (List ℕ)) : Type 0 where
  pub is_same : is ≡ other
  pub rest_is : rest ≡ behind

same_front : (word : List ℕ) (words rest behind : List (List ℕ)) (is other : Bool) → words ≡ (if is then word ∷ [] else []) ++ rest
    → (is ≡ false → (r : List (List ℕ)) → words ≡ word ∷ r → ⊥) → words ≡ (if other then word ∷ [] else []) ++ behind → ((r : List (List ℕ)) → behind ≡ word ∷ r → ⊥)
    → SameFront is other rest behind
same_front word words rest behind true true e free f none = record { is_same = refl; rest_is = (let both : word ∷ rest ≡ word ∷ behind = sym e ∙ f in cc) }
same_front word words rest behind true false e free f none = absurd (none rest (sym f ∙ e))
same_front word words rest behind false true e free f none = absurd (free refl behind f)
same_front word words rest behind false false e free f none = record { is_same = refl; rest_is = sym e ∙ f }

not_other : (scrambled : Bool) (all : List Shown) (some r : List (List ℕ)) → some ≡ map word_of all → (if scrambled then codes "scrambled" ∷ [] else []) ++ some ≡ codes "otu3" ∷ r → ⊥
not_other true all some r is e = let same : codes "scrambled" ≡ codes "otu3" = cc in let long = ap length same in let bad : ⊥ = omega arith in bad
not_other false all some r is e = no_first (codes "otu3") all r refl (sym is ∙ e)

-- words that ask for no line of a form, by what they are in front and behind it
pub not_given : (words rest behind : List (List ℕ)) (otu3 scrambled : Bool) → words ≡ (if otu3 then codes "otu3" ∷ [] else []) ++ rest
    → (otu3 ≡ false → (r : List (List ℕ)) → words ≡ codes "otu3" ∷ r → ⊥) → rest ≡ (if scrambled then codes "scrambled" ∷ [] else []) ++ behind
    → (scrambled ≡ false → (r : List (List ℕ)) → rest ≡ codes "scrambled" ∷ r → ⊥) → ((all : List Shown) → AreShown (kind_by otu3) behind all → ⊥)
    → (kind : LineKind) (masked : Bool) (shown : List Shown) → IsGiven words kind masked shown → ⊥
not_given words rest behind otu3 scrambled e free f other none kind masked shown h = none shown
    (subst (λ ws. AreShown (kind_by otu3) ws shown) (sym second.rest_is) (subst (λ k. AreShown k h.some shown) (h.kind_is ∙ ap kind_by (sym first.is_same)) h.shown_are))
  where
    first : SameFront otu3 h.otu3 rest ((if masked then codes "scrambled" ∷ [] else []) ++ h.some)
    first = same_front (codes "otu3") words rest ((if masked then codes "scrambled" ∷ [] else []) ++ h.some) otu3 h.otu3 e free h.words_are
        (λ r g. not_other masked shown h.some r h.shown_are.words_are g)

    second : SameFront scrambled masked behind h.some
    second = same_front (codes "scrambled") rest behind h.some scrambled masked f other first.rest_is
        (λ r g. no_first (codes "scrambled") shown r refl (sym h.shown_are.words_are ∙ g))
