-- Spoiled bytes, piece by piece, and pairs that are used up.
use Rattle.std.proofs.Common.{◌≡◌, ◌≢◌, ◌⊎◌, inl, inr, ◌<◌, ◌≤◌, ◌+◌, ◌-◌, ◌^◌, ℕ, zero, suc, true, false, ◌&&◌, List, [], ◌∷◌, ◌++◌, length, get_or, set, drop, bit_xor, min, take, append-nil, length-drop, Option, Some, None, arith, refl, sym, ap, ◌∙◌, nat_eq, nat_le, nat_lt}
use Rattle.std.proofs.lemmas.Bool.{and_parts, and_from, cases_eq, cases_lt}
use Rattle.std.proofs.lemmas.List.{ext_get_or, get_or-set_same, get_or-set_other, drop-drop}
use Rattle.std.proofs.lemmas.Bool.Decides.{nat_tests}
use Rattle.std.proofs.lemmas.Grind.{common_steps}
use Rattle.std.specs.Option.{option_map}
use Rattle.port_base.proofs.GivenLaws.{raised-twice}
use Rattle.port_base.proofs.Lists.{take_all}
use Rattle.port_base.specs.Bytes.{before, raised}
use Rattle.otn_ports.specs.Spoiling.{mask_at, rises_from, spoiled}

-- what rising pairs say of the first one
pub record First (low listed : ℕ) (rest : List (ℕ × ℕ)) : Type 0 where
  pub from : low ≤ listed
  pub below : listed < 2 ^ 64 - 1
  pub rises : rises_from (suc listed) rest ≡ true

first_rises : (low listed mask : ℕ) (rest : List (ℕ × ℕ)) → rises_from low ((listed, mask) ∷ rest) ≡ true → First low listed rest
first_rises low listed mask rest h =
    let a = and_parts (nat_le low listed) (nat_lt listed (2 ^ 64 - 1) && rises_from (suc listed) rest) h in
    let b = and_parts (nat_lt listed (2 ^ 64 - 1)) (rises_from (suc listed) rest) a.1 in
    let from : low ≤ listed = grind (arith, nat_tests, a.0) in
    let below : listed < 2 ^ 64 - 1 = grind (arith, nat_tests, b.0) in
    record { from = from; below = below; rises = b.1 }

-- pairs that rise from a place on rise from a lower one on
pub rises_lower : (low high : ℕ) (pairs : List (ℕ × ℕ)) → low ≤ high → rises_from high pairs ≡ true → rises_from low pairs ≡ true
rises_lower low high [] le h = refl
rises_lower low high ((listed, mask) ∷ rest) le h =
    let f = first_rises high listed mask rest h in
    let a : nat_le low listed ≡ true = grind (arith, nat_tests, le, f.from) in
    let b : nat_lt listed (2 ^ 64 - 1) ≡ true = grind (arith, nat_tests, f.below) in
    and_from (nat_le low listed) (nat_lt listed (2 ^ 64 - 1) && rises_from (suc listed) rest) a (and_from (nat_lt listed (2 ^ 64 - 1)) (rises_from (suc listed) rest) b f.rises)

-- a pair of another place counts for nothing
other_mask : (listed mask place : ℕ) (rest : List (ℕ × ℕ)) → listed ≢ place → mask_at ((listed, mask) ∷ rest) place ≡ mask_at rest place
other_mask listed mask place rest other = let e : nat_eq listed place ≡ false = grind (arith, nat_tests, other) in rw e refl

own_mask : (listed mask place : ℕ) (rest : List (ℕ × ℕ)) → listed ≡ place → mask_at ((listed, mask) ∷ rest) place ≡ mask
own_mask listed mask place rest same = let e : nat_eq listed place ≡ true = grind (arith, nat_tests, same) in rw e refl

-- below the first place of rising pairs no mask stands
mask_low : (low : ℕ) (pairs : List (ℕ × ℕ)) (place : ℕ) → rises_from low pairs ≡ true → place < low → mask_at pairs place ≡ 0
mask_low low [] place h less = refl
mask_low low ((listed, mask) ∷ rest) place h less =
    let f = first_rises low listed mask rest h in
    let other : listed ≢ place = λ e. (let less' : place < listed = omega (arith, less, f.from) in omega (arith, e, less')) in
    let below : place < suc listed = omega (arith, less, f.from) in
    other_mask listed mask place rest other ∙ mask_low (suc listed) rest place f.rises below

-- nor from 2^64-1 on
mask_high : (low : ℕ) (pairs : List (ℕ × ℕ)) (place : ℕ) → rises_from low pairs ≡ true → 2 ^ 64 - 1 ≤ place → mask_at pairs place ≡ 0
mask_high low [] place h high = refl
mask_high low ((listed, mask) ∷ rest) place h high =
    let f = first_rises low listed mask rest h in
    let other : listed ≢ place = λ e. (let b = f.below in omega (arith, e, b, high)) in
    other_mask listed mask place rest other ∙ mask_high (suc listed) rest place f.rises high

-- where the first pair that is left is none of this place, the place has no mask
pub no_mask : (pairs : List (ℕ × ℕ)) (used place : ℕ) (d : ℕ × ℕ) → used < length pairs → rises_from place (drop used pairs) ≡ true → (get_or pairs used d).0 ≢ place → 0 ≡ mask_at (drop used pairs) place
no_mask [] used place d less h other = absurd (omega (arith, less))
no_mask ((listed, mask) ∷ rest) zero place d less h other =
    let f = first_rises place listed mask rest h in
    let below : place < suc listed = omega (arith, f.from) in
    sym (other_mask listed mask place rest other ∙ mask_low (suc listed) rest place f.rises below)
no_mask (pair ∷ rest) (suc used) place d less h other = let less' : used < length rest = omega (arith, less) in no_mask rest used place d less' h other

-- ---- spoiled lists

plus_zero : (n : ℕ) → n + 0 ≡ n
plus_zero n = omega arith

plus_suc : (n k : ℕ) → suc n + k ≡ n + suc k
plus_suc n k = omega arith

-- the masks from a place on are all that counts
pub spoiled_same : (x y : List (ℕ × ℕ)) (m n : ℕ) (bytes : List ℕ) → ((k : ℕ) → mask_at x (m + k) ≡ mask_at y (n + k)) → spoiled x m bytes ≡ spoiled y n bytes
spoiled_same x y m n [] same = refl
spoiled_same x y m n (byte ∷ bytes) same =
    let here : mask_at x m ≡ mask_at y n = sym (ap (mask_at x) (plus_zero m)) ∙ same 0 ∙ ap (mask_at y) (plus_zero n) in
    let later : (k : ℕ) → mask_at x (suc m + k) ≡ mask_at y (suc n + k) = λ k. ap (mask_at x) (plus_suc m k) ∙ same (suc k) ∙ sym (ap (mask_at y) (plus_suc n k)) in
    rw (here, spoiled_same x y (suc m) (suc n) bytes later) refl

-- the bytes behind others stand from a later place on
pub spoiled_append : (pairs : List (ℕ × ℕ)) (from : ℕ) (a b : List ℕ) → spoiled pairs from (a ++ b) ≡ spoiled pairs from a ++ spoiled pairs (from + length a) b
spoiled_append pairs from [] b = sym (ap (λ f. spoiled pairs f b) (plus_zero from))
spoiled_append pairs from (x ∷ a) b = ap (λ l. bit_xor x (mask_at pairs from) ∷ l) (spoiled_append pairs (suc from) a b ∙ ap (λ f. spoiled pairs (suc from) a ++ spoiled pairs f b) (plus_suc from (length a)))

-- as many bytes as before
pub length-spoiled : (pairs : List (ℕ × ℕ)) (from : ℕ) (bytes : List ℕ) → length (spoiled pairs from bytes) ≡ length bytes
length-spoiled pairs from [] = refl
length-spoiled pairs from (x ∷ bytes) = ap suc (length-spoiled pairs (suc from) bytes)

-- each byte XORed with the mask of its place
pub get_or-spoiled : (pairs : List (ℕ × ℕ)) (from : ℕ) (bytes : List ℕ) (k : ℕ) → k < length bytes → get_or (spoiled pairs from bytes) k 0 ≡ bit_xor (get_or bytes k 0) (mask_at pairs (from + k))
get_or-spoiled pairs from [] k h = absurd (omega (arith, h))
get_or-spoiled pairs from (x ∷ bytes) zero h = ap (λ p. bit_xor x (mask_at pairs p)) (sym (plus_zero from))
get_or-spoiled pairs from (x ∷ bytes) (suc k) h = let h' : k < length bytes = omega (arith, h) in get_or-spoiled pairs (suc from) bytes k h' ∙ ap (λ p. bit_xor (get_or bytes k 0) (mask_at pairs p)) (plus_suc from k)

-- bytes of which each is XORed with the mask of its place are the spoiled ones
pub spoiled_each : (pairs : List (ℕ × ℕ)) (from : ℕ) (old new : List ℕ) → length new ≡ length old → ((k : ℕ) → k < length old → get_or new k 0 ≡ bit_xor (get_or old k 0) (mask_at pairs (from + k))) → new ≡ spoiled pairs from old
spoiled_each pairs from old new e each = ext_get_or 0 new (spoiled pairs from old) (e ∙ sym (length-spoiled pairs from old)) (λ k h. let h' : k < length old = rw (sym e) h in each k h' ∙ sym (get_or-spoiled pairs from old k h'))

-- ---- one byte more is spoiled

-- each byte before it is, and so is it
pub done_more : (old bytes : List ℕ) (i v : ℕ) (f : ℕ → ℕ) → i < length bytes → ((k : ℕ) → k < i → get_or bytes k 0 ≡ bit_xor (get_or old k 0) (f k)) → v ≡ bit_xor (get_or old i 0) (f i)
    → (k : ℕ) → k < i + 1 → get_or (set bytes i v) k 0 ≡ bit_xor (get_or old k 0) (f k)
done_more old bytes i v f within done here k less = by_case (cases_eq k i)
  where
    by_case : (k ≡ i) ⊎ (k ≢ i) → get_or (set bytes i v) k 0 ≡ bit_xor (get_or old k 0) (f k)
    by_case (inl e) = rw (e, here) (get_or-set_same bytes i (bit_xor (get_or old i 0) (f i)) 0 within)
    by_case (inr other) = get_or-set_other bytes i k v 0 other ∙ done k (let o = other in grind (arith, less, o))

-- and each byte behind it is as it was
pub left_more : (old bytes : List ℕ) (i v : ℕ) → ((k : ℕ) → i ≤ k → get_or bytes k 0 ≡ get_or old k 0) → (k : ℕ) → i + 1 ≤ k → get_or (set bytes i v) k 0 ≡ get_or old k 0
left_more old bytes i v left k h =
    let other : k ≢ i = λ e. omega (arith, e, h) in
    let behind : i ≤ k = omega (arith, h) in
    get_or-set_other bytes i k v 0 other ∙ left k behind

-- the place of the next byte, as a number that stops at its end
pub raised-more : (from i : ℕ) → raised (raised from i) 1 ≡ raised from (i + 1)
raised-more from i = raised-twice from i 1

-- from the next place on the pairs that are left have the same masks
pub rest_more : (pairs old new : List (ℕ × ℕ)) (from i : ℕ) → from < 2 ^ 64 → rises_from from pairs ≡ true → rises_from (raised from (i + 1)) new ≡ true
    → ((q : ℕ) → raised from (i + 1) ≤ q → mask_at new q ≡ mask_at old q) → ((k : ℕ) → mask_at old (raised from i + k) ≡ mask_at pairs (from + i + k))
    → (k : ℕ) → mask_at new (raised from (i + 1) + k) ≡ mask_at pairs (from + (i + 1) + k)
rest_more pairs old new from i fits all left same before k = by_case (cases_lt (from + i + 1) (2 ^ 64 - 1))
  where
    by_case : (from + i + 1 < 2 ^ 64 - 1) ⊎ (2 ^ 64 - 1 ≤ from + i + 1) → mask_at new (raised from (i + 1) + k) ≡ mask_at pairs (from + (i + 1) + k)
    by_case (inr high) =
        let a : 2 ^ 64 - 1 ≤ raised from (i + 1) + k = omega (arith, high) in
        let b : 2 ^ 64 - 1 ≤ from + (i + 1) + k = omega (arith, high) in
        mask_high (raised from (i + 1)) new (raised from (i + 1) + k) left a ∙ sym (mask_high from pairs (from + (i + 1) + k) all b)
    by_case (inl low) =
        let le : raised from (i + 1) ≤ raised from (i + 1) + k = omega arith in
        let a : raised from (i + 1) + k ≡ raised from i + (k + 1) = omega (arith, low) in
        let b : from + i + (k + 1) ≡ from + (i + 1) + k = omega arith in
        same (raised from (i + 1) + k) le ∙ ap (mask_at old) a ∙ before (k + 1) ∙ ap (mask_at pairs) b

-- a sum that stops at its end
pub stopped : (n more sum : ℕ) → n < 2 ^ 64 → sum ≡ min (n + more) (2 ^ 64 - 1) → sum ≡ raised n more
stopped n more sum fits e = omega arith

-- the mask that is due to a byte
pub due_mask : (old pairs : List (ℕ × ℕ)) (from i place mask : ℕ) → place ≡ raised from i → mask ≡ mask_at old place → ((k : ℕ) → mask_at old (raised from i + k) ≡ mask_at pairs (from + i + k)) → mask ≡ mask_at pairs (from + i)
due_mask old pairs from i place mask e h rest = h ∙ ap (mask_at old) (e ∙ sym (plus_zero (raised from i))) ∙ rest 0 ∙ ap (mask_at pairs) (plus_zero (from + i))

-- what a source has yet, spoiled, before and after bytes came of it and were spoiled
pub read_spoiled : (old new : Option (List ℕ)) (pairs : List (ℕ × ℕ)) (next used at at' n : ℕ) (further out tail : List ℕ) → length further ≡ n → old ≡ before further new → out ≡ spoiled (drop next pairs) at further → at' ≡ raised at n
    → ((k : ℕ) → mask_at (drop used (drop next pairs)) (raised at (length further) + k) ≡ mask_at (drop next pairs) (at + length further + k))
    → option_map (spoiled (drop next pairs) at) old ≡ before (take n (out ++ tail)) (option_map (spoiled (drop (next + used) pairs) at') new)
read_spoiled old None pairs next used at at' n further out tail size e out_is at_is rest = rw e refl
read_spoiled old (Some left) pairs next used at at' n further out tail size e out_is at_is rest =
    let front : take n (out ++ tail) ≡ out = take_all n out tail (rw out_is (length-spoiled (drop next pairs) at further ∙ size)) in
    let at_size : at' ≡ raised at (length further) = at_is ∙ ap (raised at) (sym size) in
    let same : (k : ℕ) → mask_at (drop next pairs) (at + length further + k) ≡ mask_at (drop (next + used) pairs) (raised at (length further) + k) = λ k. sym (rest k) ∙ ap (λ l. mask_at l (raised at (length further) + k)) (drop-drop used next pairs) in
    let behind : spoiled (drop next pairs) (at + length further) left ≡ spoiled (drop (next + used) pairs) at' left = rw at_size (spoiled_same (drop next pairs) (drop (next + used) pairs) (at + length further) (raised at (length further)) left same) in
    rw (e, front, out_is) (ap Some (spoiled_append (drop next pairs) at further left ∙ ap (λ l. spoiled (drop next pairs) at further ++ l) behind))

-- the pairs that are left, as a slice of all
pub left_pairs : (lent pairs : List (ℕ × ℕ)) (next : ℕ) → lent ≡ pairs → take (length lent - next) (drop next lent) ≡ drop next pairs
left_pairs lent pairs next e =
    let all : take (length pairs - next) (drop next pairs) ≡ drop next pairs = ap (take (length pairs - next)) (sym (append-nil (drop next pairs))) ∙ take_every (length pairs - next) (drop next pairs) [] (length-drop next pairs) in
    rw e all
  where
    take_every : (n : ℕ) (s t : List (ℕ × ℕ)) → length s ≡ n → take n (s ++ t) ≡ s
    take_every n s t e = grind (arith, common_steps, e)
