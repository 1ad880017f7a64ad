-- The words of a line of a view, as they are read.
use Rattle.std.proofs.Common.{◌≡◌, ◌≢◌, ◌<◌, ◌≤◌, ◌+◌, ◌^◌, ◌/◌, ◌%◌, ◌∙◌, ℕ, zero, suc, Bool, true, false, All, List, [], ◌∷◌, ◌++◌, Option, Some, None, length, take, drop, get_or, refl, sym, ap, arith, append_assoc, length-append}
use Rattle.std.specs.Prelude.{◌&&◌, not, codes, if◌then◌else◌}
use Rattle.std.specs.Fmt.{decimal}
use Rattle.std.specs.Int.{IsInRange}
use Rattle.std.specs.List.{after_first, before_first, position_or_len, prefix_len}
use Rattle.std.specs.Str.{bytes_eq}
use Rattle.std.specs.Str.Parse.{AllDigits, digits_value}
use Rattle.std.proofs.lemmas.Bool.Decides.{nat_tests}
use Rattle.std.proofs.lemmas.Fmt.{decimal_is_IsNumeral, decimal_nonempty}
use Rattle.std.proofs.lemmas.List.{take_at, drop_at}
use Rattle.std.proofs.lemmas.List.Elements.{All-nil, All-cons, All-head, All-tail, All-append, All-from_get_or}
use Rattle.std.proofs.lemmas.Slice.Eq.{bytes_eq-Decides}
use Rattle.std.proofs.lemmas.Str.Parse.{IsNumeralModel, not_in_digits, numerals_by_value, tells_digits}
use Rattle.number_lists.specs.NumberLists.{numbers_text}
use Rattle.view_events.specs.EventText.{hex_digit}
use Rattle.view_events.specs.Steps.Words.{nth_word}
use Rattle.view_events.specs.ViewLines.{IsPair, IsTributaryLine, IsTurnLine, IsViewLine, IsWord, OfEnd, OfMsi, OfOther, OfTributary, OfTurn, TributaryLine, ViewLine, alignment_word, cm_word, cnd_word, ends_word, hex_text, kind_word, line_text, more_words, spelled, state_word}
use Rattle.view_events.specs.declared.said.Alignment.{Alignment}
use Rattle.view_events.specs.declared.said.Alignment.TheVariants.{Whole, Lost, Hunting, Ended}
use Rattle.view_events.specs.declared.said.SinkState.{SinkState}
use Rattle.view_events.specs.declared.said.SinkState.TheVariants.{Waiting, Up, Down}
use Rattle.view_events.specs.declared.said.TurnSaid.{TurnSaid}
use Rattle.view_events.specs.declared.slot_events.TheConstants.{SLOTS}

-- ---- a word at the front of a line

-- a byte of no word
abbrev pub IsPart : (byte : ℕ) → Type 0
IsPart byte = ends_word byte ≡ false

word_end : (w : List ℕ) (x : ℕ) (t : List ℕ) → IsWord w → ends_word x ≡ true → position_or_len ends_word (w ++ x ∷ t) ≡ length w
word_end [] x t word end = ap (λ e. if not e then 1 + prefix_len (λ b. not (ends_word b)) t else 0) end
word_end (b ∷ w) x t word end =
    let rest = word_end w x t (All-tail IsPart b w word) end in
    let more : 1 + length w ≡ length (b ∷ w) = omega arith in
    ap (λ e. if not e then 1 + prefix_len (λ y. not (ends_word y)) (w ++ x ∷ t) else 0) (All-head IsPart b w word) ∙ ap (λ n. 1 + n) rest ∙ more

word_before : (w : List ℕ) (x : ℕ) (t : List ℕ) → IsWord w → ends_word x ≡ true → before_first ends_word (w ++ x ∷ t) ≡ w
word_before w x t word end = ap (λ n. take n (w ++ x ∷ t)) (word_end w x t word end) ∙ take_at w (x ∷ t) (length w) refl

word_after : (w : List ℕ) (x : ℕ) (t : List ℕ) → IsWord w → ends_word x ≡ true → after_first ends_word (w ++ x ∷ t) ≡ t
word_after w x t word end =
    let long : length (w ++ x ∷ []) ≡ length w + 1 = length-append w (x ∷ []) in
    ap (λ n. drop (n + 1) (w ++ x ∷ t)) (word_end w x t word end) ∙ ap (drop (length w + 1)) (sym (append_assoc w (x ∷ []) t))
    ∙ drop_at (w ++ x ∷ []) t (length w + 1) long

-- each is a word
abbrev pub AreWords : List (List ℕ) → Type 0
AreWords [] = Unit {0}
AreWords (w ∷ ws) = IsWord w × AreWords ws

are_all_words : (ws : List (List ℕ)) → All IsWord ws → AreWords ws
are_all_words [] h = tt
are_all_words (w ∷ ws) h = (All-head IsWord w ws h, are_all_words ws (All-tail IsWord w ws h))

-- word n of a line is the one that it was spelled with
word_spelled : (n : ℕ) (w : List ℕ) (ws : List (List ℕ)) → AreWords (w ∷ ws) → n ≤ length ws → nth_word n (spelled w ws) ≡ get_or (w ∷ ws) n []
word_spelled zero w [] words less = word_before w 10 [] words.0 refl
word_spelled zero w (v ∷ ws) words less = word_before w 32 (spelled v ws) words.0 refl
word_spelled (suc n) w [] words less = absurd (omega (arith, less))
word_spelled (suc n) w (v ∷ ws) words less = ap (nth_word n) (word_after w 32 (spelled v ws) words.0 refl) ∙ word_spelled n v ws words.1 (omega (arith, less))

-- ---- words

-- two texts are not one
pub apart : (xs ys : List ℕ) → bytes_eq xs ys ≡ false → xs ≡ ys → ⊥
apart xs ys other e = let same : bytes_eq xs ys ≡ true = (bytes_eq-Decides xs ys).1 e in cc

abbrev is_word : List ℕ → Bool
is_word [] = true
is_word (b ∷ w) = not (ends_word b) && is_word w

both : (p q : Bool) → (not p && q) ≡ true → (p ≡ false) × (q ≡ true)
both true q h = absurd (cc)
both false q h = (refl, h)

-- a text without a blank and a line feed, by computation
word_by : (w : List ℕ) → is_word w ≡ true → IsWord w
word_by [] h = All-nil IsPart
word_by (b ∷ w) h = let parts = both (ends_word b) (is_word w) h in All-cons IsPart b w parts.0 (word_by w parts.1)

no_end : (b : ℕ) → b ≢ 32 → b ≢ 10 → ends_word b ≡ false
no_end b blank feed = grind (arith, nat_tests)

digits_own : IsNumeralModel (AllDigits 10) (digits_value 10)
digits_own = numerals_by_value (AllDigits 10) tells_digits

no_mark : (n mark : ℕ) → n < 2 ^ 64 → (IsInRange 48 57 mark → ⊥) → (i : ℕ) → i < length (decimal n) → get_or (decimal n) i 0 ≢ mark
no_mark n mark few out = not_in_digits digits_own (decimal n) mark (decimal_is_IsNumeral n few).0.1 out

-- a number in decimal is a word
pub decimal_word : (n : ℕ) → n < 2 ^ 64 → IsWord (decimal n)
decimal_word n few = All-from_get_or IsPart (decimal n) 0 (λ i less. no_end (get_or (decimal n) i 0)
    (no_mark n 32 few (λ r. let low = r.0 in let bad : ⊥ = omega arith in bad) i less)
    (no_mark n 10 few (λ r. let low = r.0 in let bad : ⊥ = omega arith in bad) i less))

-- and is no mark
pub decimal_no_mark : (n : ℕ) → n < 2 ^ 64 → decimal n ≡ codes "-" → ⊥
decimal_no_mark n few e = no_mark n 45 few (λ r. let low = r.0 in let bad : ⊥ = omega arith in bad) 0 (decimal_nonempty n few) (ap (λ w. get_or w 0 0) e)

hex_part : (n : ℕ) → ends_word (hex_digit n) ≡ false
hex_part n = grind (arith, nat_tests)

hex_word : (byte : ℕ) → IsWord (hex_text byte)
hex_word byte = All-cons IsPart (hex_digit (byte / 16)) (hex_digit (byte % 16) ∷ []) (hex_part (byte / 16))
    (All-cons IsPart (hex_digit (byte % 16)) [] (hex_part (byte % 16)) (All-nil IsPart))

alignment_is_word : (a : Alignment) → IsWord (alignment_word a)
alignment_is_word Whole = word_by (codes "whole") refl
alignment_is_word Lost = word_by (codes "lost") refl
alignment_is_word Hunting = word_by (codes "none") refl
alignment_is_word Ended = word_by (codes "end") refl

state_is_word : (s : SinkState) → IsWord (state_word s)
state_is_word Waiting = word_by (codes "waiting") refl
state_is_word Up = word_by (codes "up") refl
state_is_word Down = word_by (codes "down") refl

numbers_word : (numbers : List ℕ) → All (λ n. n < SLOTS) numbers → IsWord (numbers_text numbers)
numbers_word [] below = All-nil IsPart
numbers_word (n ∷ []) below = decimal_word n (let few = All-head (λ k. k < SLOTS) n [] below in omega (arith, few))
numbers_word (n ∷ m ∷ numbers) below =
    let few = All-head (λ k. k < SLOTS) n (m ∷ numbers) below in
    All-append IsPart (decimal n) (44 ∷ numbers_text (m ∷ numbers)) (decimal_word n (omega (arith, few)))
    (All-cons IsPart 44 (numbers_text (m ∷ numbers)) refl (numbers_word (m ∷ numbers) (All-tail (λ k. k < SLOTS) n (m ∷ numbers) below)))

cm_is_word : (pair : Option (ℕ × ℕ)) → IsPair pair → IsWord (cm_word pair)
cm_is_word None h = word_by (codes "-") refl
cm_is_word (Some pair) h = decimal_word (pair.0) (let few = h.0 in omega (arith, few))

cnd_is_word : (pair : Option (ℕ × ℕ)) → IsPair pair → IsWord (cnd_word pair)
cnd_is_word None h = word_by (codes "-") refl
cnd_is_word (Some pair) h = decimal_word (pair.1) (let few = h.1 in omega (arith, few))

-- ---- the words of a line

turn_are_words : (frames : ℕ) (said : TurnSaid) → IsTurnLine frames said → AreWords (more_words (OfTurn frames said))
turn_are_words frames said h = (
  decimal_word said.number h.number,
  (
    alignment_is_word said.alignment,
    (
      word_by (codes "frames") refl,
      (
        decimal_word frames h.frames_are,
        (
          word_by (codes "lead-in") refl,
          (
            decimal_word said.lead_in h.lead_in,
            (
              word_by (codes "fas") refl,
              (decimal_word said.fas h.fas, (word_by (codes "sm") refl, (decimal_word said.sm h.sm, (word_by (codes "pm") refl, (decimal_word said.pm h.pm, tt))))),
            ),
          ),
        ),
      ),
    ),
  ),
)

tributary_are_words : (x : TributaryLine) → IsTributaryLine x → AreWords (more_words (OfTributary x))
tributary_are_words x h =
    let port = h.port in (
      h.name,
      (
        word_by (codes "port") refl,
        (
          decimal_word x.port (omega (arith, port)),
          (
            word_by (codes "slots") refl,
            (
              numbers_word x.slots h.slots.below,
              (
                state_is_word x.state,
                (
                  word_by (codes "cm") refl,
                  (
                    cm_is_word x.pair h.pair,
                    (
                      word_by (codes "cnd") refl,
                      (
                        cnd_is_word x.pair h.pair,
                        (word_by (codes "bytes") refl, (decimal_word x.bytes h.bytes, tt)),
                      ),
                    ),
                  ),
                ),
              ),
            ),
          ),
        ),
      ),
    )

-- they are words
pub are_words : (line : ViewLine) → IsViewLine line → AreWords (kind_word line ∷ more_words line)
are_words (OfTurn frames said) h = (word_by (codes "turn") refl, turn_are_words frames said h)
are_words (OfMsi slot byte) h = let few = h.0 in (word_by (codes "msi") refl, (decimal_word slot (omega (arith, few)), (hex_word byte, tt)))
are_words (OfTributary x) h = (word_by (codes "tributary") refl, tributary_are_words x h)
are_words (OfEnd turns rest) h =
    (word_by (codes "end") refl, (word_by (codes "turns") refl, (decimal_word turns h.0, (word_by (codes "rest") refl, (decimal_word rest h.1, tt)))))
are_words (OfOther word words) h = (h.0, are_all_words words h.1)

-- word n of the text of a line
pub line_word : (line : ViewLine) → IsViewLine line → (text : List ℕ) → text ≡ line_text line → (n : ℕ) → n ≤ length (more_words line)
    → nth_word n text ≡ get_or (kind_word line ∷ more_words line) n []
unfolding line_text
line_word line h text is n less = ap (nth_word n) is ∙ word_spelled n (kind_word line) (more_words line) (are_words line h) less
