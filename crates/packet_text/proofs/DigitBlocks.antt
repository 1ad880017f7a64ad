-- Digits that are decoded block by block.
use Rattle.std.proofs.Common.{◌≡◌, ◌<◌, ◌≤◌, ◌+◌, ◌*◌, ◌⊎◌, inl, inr, ℕ, zero, suc, List, [], ◌∷◌, length, slice_index, replicate, min, Some, None, Result, Ok, Err, arith, refl, ap, ◌∙◌}
use Rattle.std.proofs.lemmas.Bool.{cases_lt}
use Rattle.std.proofs.lemmas.Simd.{get_or-replicate}
use Rattle.hex.specs.Hex.{decode_of, decode_pairs, pair_value}
use Rattle.hex.specs.declared.error.FromHexError.{FromHexError}
use Rattle.hex.proofs.Pairs.{cons_byte, decode_pairs-ok_pair, decode_pairs-err_pair}
use Rattle.hex.proofs.HexLemmas.{decode_of-even}
use Rattle.packet_text.specs.PacketText.{decoded}
use Rattle.packet_text.specs.Steps.DigitMarks.{AllSmall, HasLarge, IsPair, IsRefused, HasRefused}

-- the first pairs say these bytes
pub record Read (digits bytes : List ℕ) (pairs : ℕ) : Type 0 where
  pub at : (i : ℕ) → i < pairs → i < length bytes → IsPair (slice_index digits (2 * i)) (slice_index digits (2 * i + 1)) (slice_index bytes i)

pub none_read : (digits bytes : List ℕ) → Read digits bytes 0
none_read digits bytes = record { at = λ i h l. absurd (omega (arith, h)) }

-- a block more is read
further : (digits old new : List ℕ) (from last : ℕ) → length new ≡ length old → last + 16 ≡ length old
    → ((i : ℕ) → min from last ≤ i → i < min from last + 16 → IsPair (slice_index digits (2 * i)) (slice_index digits (2 * i + 1)) (slice_index new i))
    → ((i : ℕ) → i < min from last → slice_index new i ≡ slice_index old i)
    → Read digits old from → Read digits new (from + 16)
further digits old new from last same size here before h = record { at = at_place }
  where
    start : ℕ
    start = min from last

    at_place : (i : ℕ) → i < from + 16 → i < length new → IsPair (slice_index digits (2 * i)) (slice_index digits (2 * i + 1)) (slice_index new i)
    at_place i f l = elim (cases_lt i start) [
      | inl low ↦ rw (before i low) (h.at i (omega arith) (omega arith))
      | inr high ↦ here i high (omega arith)
    ]

-- the first pairs say these bytes where what was seen of their digits is small; where it is not, a pair is refused
pub record Seen (digits bytes lanes : List ℕ) (pairs : ℕ) : Type 0 where
  pub read : AllSmall lanes → Read digits bytes pairs
  pub refused : HasLarge lanes → HasRefused digits (length bytes)

pub none_seen : (digits bytes : List ℕ) → Seen digits bytes (replicate 16 0) 0
none_seen digits bytes = record {
  read = λ all. none_read digits bytes;
  refused = λ has. absurd (let l = has.large in omega (arith, l, get_or-replicate {A = ℕ} 16 has.lane 0 0 has.below));
}

-- a block more is seen
pub more_seen : (digits old new was now : List ℕ) (from last start : ℕ) → length new ≡ length old → last + 16 ≡ length old → start ≡ min from last
    → (AllSmall now → AllSmall was)
    → (AllSmall now → (i : ℕ) → start ≤ i → i < start + 16 → IsPair (slice_index digits (2 * i)) (slice_index digits (2 * i + 1)) (slice_index new i))
    → (HasLarge now → HasLarge was ⊎ HasRefused digits (start + 16))
    → ((i : ℕ) → i < start → slice_index new i ≡ slice_index old i)
    → Seen digits old was from → Seen digits new now (from + 16)
more_seen digits old new was now from last start same size is seen here none before h = record {
  read = λ all. further digits old new from last same size (rw is at (here all)) (rw is at before) (h.read (seen all));
  refused = λ has. by_place (none has);
}
  where
    by_place : HasLarge was ⊎ HasRefused digits (start + 16) → HasRefused digits (length new)
    by_place (inl has) = rw same (h.refused has)
    by_place (inr r) = record { pair = r.pair; below = (let l = r.below in omega (arith, l, size, same, is)); refused = r.refused }

two : (i : ℕ) → 2 * suc i ≡ suc (suc (2 * i))
two i = omega arith

two_one : (i : ℕ) → 2 * suc i + 1 ≡ suc (suc (2 * i + 1))
two_one i = omega arith

-- pairs that say bytes, from any place on
pairs_read : (place : ℕ) (digits bytes : List ℕ) → length digits ≡ 2 * length bytes
    → ((i : ℕ) → i < length bytes → IsPair (slice_index digits (2 * i)) (slice_index digits (2 * i + 1)) (slice_index bytes i))
    → decode_pairs place digits ≡ Ok bytes
unfolding decode_pairs
pairs_read place [] [] size h = refl
pairs_read place (a ∷ digits) [] size h = absurd (omega arith)
pairs_read place [] (x ∷ bytes) size h = absurd (omega arith)
pairs_read place (a ∷ []) (x ∷ bytes) size h = absurd (omega arith)
pairs_read place (a ∷ b ∷ digits) (x ∷ bytes) size h =
    let first : pair_value a b place ≡ Ok x = (h 0 (omega arith)).at place in
    let later = pairs_read (place + 2) digits bytes (omega arith) (λ i l. (let p = h (suc i) (omega arith) in rw (two_one i, two i) at p)) in
    decode_pairs-ok_pair place a b x digits first ∙ ap (cons_byte x) later

-- every pair says its byte
all_read : (digits bytes : List ℕ) (pairs : ℕ) → length digits ≡ 2 * length bytes → length bytes ≤ pairs → Read digits bytes pairs → decoded (decode_of digits) ≡ Some bytes
all_read digits bytes pairs size over h =
    ap decoded (decode_of-even digits (omega (arith, size)) ∙ pairs_read 0 digits bytes size (λ i l. h.at i (omega (arith, l, over)) l))

none_behind : (byte : ℕ) (r : Result (List ℕ) FromHexError) → decoded r ≡ None → decoded (cons_byte byte r) ≡ None
none_behind byte (Ok bytes) h = cc h
none_behind byte (Err e) h = refl

-- a pair that is refused, from any place on
pairs_refused : (place i : ℕ) (digits : List ℕ) → 2 * i + 1 < length digits → IsRefused (slice_index digits (2 * i)) (slice_index digits (2 * i + 1)) → decoded (decode_pairs place digits) ≡ None
pairs_refused place i [] fits h = absurd (omega arith)
pairs_refused place i (a ∷ []) fits h = absurd (omega arith)
pairs_refused place zero (a ∷ b ∷ digits) fits h = let e = h.at place in ap decoded (decode_pairs-err_pair place a b e.0 digits e.1)
pairs_refused place (suc i) (a ∷ b ∷ digits) fits h =
    let later = pairs_refused (place + 2) i digits (omega arith) (rw (two_one i, two i) at h) in
    by_first (pair_value a b place) refl later
  where
    by_first : (r : Result ℕ FromHexError) → pair_value a b place ≡ r → decoded (decode_pairs (place + 2) digits) ≡ None → decoded (decode_pairs place (a ∷ b ∷ digits)) ≡ None
    by_first (Ok v) e later = ap decoded (decode_pairs-ok_pair place a b v digits e) ∙ none_behind v _ later
    by_first (Err x) e later = ap decoded (decode_pairs-err_pair place a b x digits e)

-- one is refused
one_refused : (digits bytes : List ℕ) (pairs : ℕ) → length digits ≡ 2 * length bytes → pairs ≤ length bytes → HasRefused digits pairs → decoded (decode_of digits) ≡ None
one_refused digits bytes pairs size within h =
    let l = h.below in
    ap decoded (decode_of-even digits (omega (arith, size))) ∙ pairs_refused 0 h.pair digits (omega arith) h.refused

-- all pairs were seen, and no lane is large
pub seen_all : (digits bytes lanes : List ℕ) (pairs : ℕ) → length digits ≡ 2 * length bytes → length bytes ≤ pairs → Seen digits bytes lanes pairs → AllSmall lanes → decoded (decode_of digits) ≡ Some bytes
seen_all digits bytes lanes pairs size over h all = all_read digits bytes pairs size over (h.read all)

-- all pairs were seen, and a lane is large
pub seen_none : (digits bytes lanes : List ℕ) (pairs : ℕ) → length digits ≡ 2 * length bytes → Seen digits bytes lanes pairs → HasLarge lanes → decoded (decode_of digits) ≡ None
seen_none digits bytes lanes pairs size h has = one_refused digits bytes (length bytes) size (omega arith) (h.refused has)
