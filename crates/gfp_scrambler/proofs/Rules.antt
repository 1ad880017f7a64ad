-- The register keeps the bit rules.
use Rattle.std.proofs.Common.{◌≡◌, ℕ, zero, suc, ◌+◌, ◌*◌, ◌-◌, ◌/◌, ◌%◌, ◌^◌, ◌<◌, ◌≤◌, List, [], ◌∷◌, ◌++◌, cond, length, get_or, refl, ap, ◌∙◌, sym, subst, arith, inl, inr, append_assoc, length-append}
use Rattle.std.specs.Prelude.{reverse, bit_xor}
use Rattle.std.specs.Int.{bit_at}
use Rattle.std.proofs.lemmas.Nat.{xor_of_8}
use Rattle.std.proofs.lemmas.Nat.Bits.{bit_at_xor, bit_at-zero}
use Rattle.std.proofs.lemmas.Bool.{cases_lt, lt-ltb, le-ltb}
use Rattle.std.proofs.lemmas.List.{get_or_append_left, get_or_push, get_or_past, append-nil}
use Rattle.gfp_scrambler.specs.BitList.{bit_of, bit_before, AreBytes, IsScrambled, IsDescrambled}
use Rattle.gfp_scrambler.specs.Register.{shifted, last_bits, scrambled, descrambled, HasSent, HasTaken}
use Rattle.gfp_scrambler.proofs.Steps.{last_bits-push}
use Rattle.gfp_scrambler.proofs.History.{key_is, back_in, back_before, bytes_back}

-- ---- bits of lists

bit_place : (xs : List ℕ) (i j t : ℕ) → i ≡ 8 * j + t → t < 8 → bit_of xs i ≡ bit_at (get_or xs j 0) (7 - t)
bit_place xs i j t e h =
    let place : i / 8 ≡ j = omega arith in
    let rest : i % 8 ≡ t = omega arith in
    ap (λ k. bit_at (get_or xs k 0) (7 - i % 8)) place ∙ ap (λ k. bit_at (get_or xs j 0) (7 - k)) rest

bit_front : (xs ys : List ℕ) (i : ℕ) → i < 8 * length xs → bit_of (xs ++ ys) i ≡ bit_of xs i
bit_front xs ys i h = ap (λ b. bit_at b (7 - i % 8)) (get_or_append_left xs ys 0 (i / 8) (omega arith))

before_begins : (xs : List ℕ) (i : ℕ) → i < 43 → bit_before xs i ≡ 0
before_begins xs i h = ap (λ b. cond b 0 (bit_of xs (i - 43))) (lt-ltb i 43 h)

before_later : (xs : List ℕ) (i : ℕ) → 43 ≤ i → bit_before xs i ≡ bit_of xs (i - 43)
before_later xs i h = ap (λ b. cond b 0 (bit_of xs (i - 43))) (le-ltb i 43 h)

before_front : (xs ys : List ℕ) (i : ℕ) → i < 8 * length xs → bit_before (xs ++ ys) i ≡ bit_before xs i
before_front xs ys i h = elim (cases_lt i 43) [
  | inl early ↦ before_begins (xs ++ ys) i early ∙ sym (before_begins xs i early)
  | inr late ↦ before_later (xs ++ ys) i late ∙ bit_front xs ys (i - 43) (omega arith) ∙ sym (before_later xs i late)
]

-- ---- the key's bits

six_back : (a b t : ℕ) → b < 256 → t < 3 → bit_at (a % 8 * 32 + b / 8) (7 - t) ≡ bit_at a (2 - t)
six_back a b zero h lt = omega arith
six_back a b (suc zero) h lt = omega arith
six_back a b (suc (suc zero)) h lt = omega arith
six_back a b (suc (suc (suc t))) h lt = omega arith

five_back : (a b t : ℕ) → t < 5 → bit_at (a % 8 * 32 + b / 8) (4 - t) ≡ bit_at b (7 - t)
five_back a b zero lt = omega arith
five_back a b (suc zero) lt = omega arith
five_back a b (suc (suc zero)) lt = omega arith
five_back a b (suc (suc (suc zero))) lt = omega arith
five_back a b (suc (suc (suc (suc zero)))) lt = omega arith
five_back a b (suc (suc (suc (suc (suc t))))) lt = omega arith

-- the first three bits of the next byte look into the sixth byte back
before_six : (xs : List ℕ) (y t : ℕ) → t < 3 → bit_before (xs ++ y ∷ []) (8 * length xs + t) ≡ bit_at (get_or (reverse xs) 5 0) (2 - t)
before_six xs y t lt = elim (cases_lt (length xs) 6) [
  | inl few ↦ before_begins (xs ++ y ∷ []) (8 * length xs + t) (omega arith) ∙ sym (ap (λ b. bit_at b (2 - t)) (back_before xs 5 (omega arith)) ∙ bit_at-zero (2 - t))
  | inr many ↦
      before_later (xs ++ y ∷ []) (8 * length xs + t) (omega arith)
      ∙ bit_place (xs ++ y ∷ []) (8 * length xs + t - 43) (length xs - 1 - 5) (t + 5) (omega arith) (omega arith)
      ∙ ap (λ b. bit_at b (7 - (t + 5))) (get_or_append_left xs (y ∷ []) 0 (length xs - 1 - 5) (omega arith) ∙ sym (back_in xs 5 (omega arith)))
      ∙ ap (λ k. bit_at (get_or (reverse xs) 5 0) k) (let e : 7 - (t + 5) ≡ 2 - t = omega arith in e)
]

-- the other five look into the fifth
before_five : (xs : List ℕ) (y t : ℕ) → t < 5 → bit_before (xs ++ y ∷ []) (8 * length xs + (t + 3)) ≡ bit_at (get_or (reverse xs) 4 0) (7 - t)
before_five xs y t lt = elim (cases_lt (length xs) 5) [
  | inl few ↦ before_begins (xs ++ y ∷ []) (8 * length xs + (t + 3)) (omega arith) ∙ sym (ap (λ b. bit_at b (7 - t)) (back_before xs 4 (omega arith)) ∙ bit_at-zero (7 - t))
  | inr many ↦
      before_later (xs ++ y ∷ []) (8 * length xs + (t + 3)) (omega arith)
      ∙ bit_place (xs ++ y ∷ []) (8 * length xs + (t + 3) - 43) (length xs - 1 - 4) t (omega arith) (omega arith)
      ∙ ap (λ b. bit_at b (7 - t)) (get_or_append_left xs (y ∷ []) 0 (length xs - 1 - 4) (omega arith) ∙ sym (back_in xs 4 (omega arith)))
]

key_place : (xs : List ℕ) (y t : ℕ) → AreBytes xs → t < 8
    → bit_at (get_or (reverse xs) 5 0 % 8 * 32 + get_or (reverse xs) 4 0 / 8) (7 - t) ≡ bit_before (xs ++ y ∷ []) (8 * length xs + t)
key_place xs y t bytes lt = elim (cases_lt t 3) [
  | inl first ↦ six_back (get_or (reverse xs) 5 0) (get_or (reverse xs) 4 0) t (bytes_back xs bytes 4) first ∙ sym (before_six xs y t first)
  | inr later ↦
      ap (bit_at (get_or (reverse xs) 5 0 % 8 * 32 + get_or (reverse xs) 4 0 / 8)) (let e : 7 - t ≡ 4 - (t - 3) = omega arith in e)
      ∙ five_back (get_or (reverse xs) 5 0) (get_or (reverse xs) 4 0) (t - 3) (omega arith)
      ∙ sym (before_five xs y (t - 3) (omega arith))
      ∙ ap (λ k. bit_before (xs ++ y ∷ []) (8 * length xs + k)) (let e : t - 3 + 3 ≡ t = omega arith in e)
]

key_bit : (xs : List ℕ) (y t : ℕ) → AreBytes xs → t < 8 → bit_at (last_bits 0 xs / 2 ^ 35) (7 - t) ≡ bit_before (xs ++ y ∷ []) (8 * length xs + t)
key_bit xs y t bytes lt = ap (λ n. bit_at n (7 - t)) (key_is xs bytes) ∙ key_place xs y t bytes lt

key_small : (xs : List ℕ) → AreBytes xs → last_bits 0 xs / 2 ^ 35 < 256
key_small xs bytes = let is = key_is xs bytes in omega (arith, bytes_back xs bytes 4)

-- ---- one byte more

-- the next byte's bits, at the byte that is added to the key
next_bit : (xs : List ℕ) (y p v i t : ℕ) → AreBytes xs → t < 8 → i ≡ 8 * length xs + t → v ≡ bit_xor p (last_bits 0 xs / 2 ^ 35)
    → bit_at v (7 - t) ≡ (bit_at p (7 - t) + bit_before (xs ++ y ∷ []) i) % 2
next_bit xs y p v i t bytes lt place is =
    ap (λ n. bit_at n (7 - t)) is
    ∙ bit_at_xor p (last_bits 0 xs / 2 ^ 35) (7 - t)
    ∙ ap (λ b. (bit_at p (7 - t) + b) % 2) (key_bit xs y t bytes lt ∙ ap (bit_before (xs ++ y ∷ [])) (sym place))

bit_end : (xs : List ℕ) (y i n : ℕ) → n ≡ length xs → 8 * n ≤ i → i < 8 * n + 8 → bit_of (xs ++ y ∷ []) i ≡ bit_at y (7 - (i - 8 * n))
bit_end xs y i n e low high =
    bit_place (xs ++ y ∷ []) i n (i - 8 * n) (omega arith) (omega arith) ∙ ap (λ b. bit_at b (7 - (i - 8 * n))) (get_or_push xs y 0 n (sym e))

pushed : (xs : List ℕ) (y : ℕ) → length (xs ++ y ∷ []) ≡ length xs + 1
pushed xs y = length-append xs (y ∷ [])

bytes_pushed : (xs : List ℕ) (y : ℕ) → AreBytes xs → y < 256 → AreBytes (xs ++ y ∷ [])
bytes_pushed xs y bytes small k = elim (cases_lt k (length xs)) [
  | inl h ↦ (let e = get_or_append_left xs (y ∷ []) 0 k h in omega (arith, bytes k))
  | inr h ↦ elim (cases_lt k (length xs + 1)) [
    | inl here ↦ (let e = get_or_push xs y 0 k (let f : length xs ≡ k = omega arith in f) in omega arith)
    | inr past ↦ (let e = get_or_past (xs ++ y ∷ []) k 0 (let f = pushed xs y in omega arith) in omega arith)
  ]
]

sent_next : (plain sent : List ℕ) (p : ℕ) → IsScrambled plain sent → AreBytes sent
    → IsScrambled (plain ++ p ∷ []) (sent ++ bit_xor p (last_bits 0 sent / 2 ^ 35) ∷ [])
sent_next plain sent p rule bytes =
    let v = bit_xor p (last_bits 0 sent / 2 ^ 35) in
    let size = rule.size in
    let longer = pushed plain p in
    record {
      size = pushed sent v ∙ ap (λ n. n + 1) size ∙ sym longer;
      each = λ i below. elim (cases_lt i (8 * length plain)) [
        | inl front ↦
            bit_front sent (v ∷ []) i (omega arith) ∙ rule.each i front
            ∙ sym (ap (λ b. (b + bit_before (sent ++ v ∷ []) i) % 2) (bit_front plain (p ∷ []) i front)
            ∙ ap (λ b. (bit_of plain i + b) % 2) (before_front sent (v ∷ []) i (omega arith)))
        | inr end ↦
            bit_end sent v i (length plain) (sym size) end (omega arith)
            ∙ next_bit sent v p v i (i - 8 * length plain) bytes (omega arith) (omega arith) refl
            ∙ sym (ap (λ b. (b + bit_before (sent ++ v ∷ []) i) % 2) (bit_end plain p i (length plain) refl end (omega arith)))
      ];
    }

plain_next : (got plain : List ℕ) (g : ℕ) → IsDescrambled got plain → AreBytes got
    → IsDescrambled (got ++ g ∷ []) (plain ++ bit_xor g (last_bits 0 got / 2 ^ 35) ∷ [])
plain_next got plain g rule bytes =
    let v = bit_xor g (last_bits 0 got / 2 ^ 35) in
    let size = rule.size in
    let longer = pushed got g in
    record {
      size = pushed plain v ∙ ap (λ n. n + 1) size ∙ sym longer;
      each = λ i below. elim (cases_lt i (8 * length got)) [
        | inl front ↦
            bit_front plain (v ∷ []) i (omega arith) ∙ rule.each i front
            ∙ sym (ap (λ b. (b + bit_before (got ++ g ∷ []) i) % 2) (bit_front got (g ∷ []) i front)
            ∙ ap (λ b. (bit_of got i + b) % 2) (before_front got (g ∷ []) i front))
        | inr end ↦
            bit_end plain v i (length got) (sym size) end (omega arith)
            ∙ next_bit got g g v i (i - 8 * length got) bytes (omega arith) (omega arith) refl
            ∙ sym (ap (λ b. (b + bit_before (got ++ g ∷ []) i) % 2) (bit_end got g i (length got) refl end (omega arith)))
      ];
    }

-- ---- many bytes more

pub older : (x : ℕ) (xs : List ℕ) → AreBytes (x ∷ xs) → AreBytes xs
older x xs bytes k = bytes (suc k)

pub sent_on : (plain sent more : List ℕ) (r : ℕ) → HasSent plain sent r → AreBytes more → HasSent (plain ++ more) (sent ++ scrambled r more) (last_bits r (scrambled r more))
unfolding scrambled last_bits
sent_on plain sent [] r has bytes =
    let P : List ℕ → Type 0 = λ y. HasSent y (sent ++ []) r in
    let Q : List ℕ → Type 0 = λ y. HasSent plain y r in
    subst P (sym (append-nil plain)) (subst Q (sym (append-nil sent)) has)
sent_on plain sent (p ∷ more) r has bytes =
    let v = bit_xor p (r / 2 ^ 35) in
    let same : v ≡ bit_xor p (last_bits 0 sent / 2 ^ 35) = ap (λ x. bit_xor p (x / 2 ^ 35)) has.last in
    let small : v < 256 = (let e = has.last in xor_of_8 p (r / 2 ^ 35) (bytes 0) (let k = key_small sent has.bytes in omega (arith, ap (λ x. x / 2 ^ 35) e))) in
    let S : ℕ → Type 0 = λ y. IsScrambled (plain ++ p ∷ []) (sent ++ y ∷ []) in
    let next : HasSent (plain ++ p ∷ []) (sent ++ v ∷ []) (shifted r v) = record {
      rule = subst S (sym same) (sent_next plain sent p has.rule has.bytes);
      bytes = bytes_pushed sent v has.bytes small;
      last = ap (λ x. shifted x v) has.last ∙ sym (last_bits-push 0 v sent);
    } in
    let rest = sent_on (plain ++ p ∷ []) (sent ++ v ∷ []) more (shifted r v) next (older p more bytes) in
    let P : List ℕ → Type 0 = λ y. HasSent y ((sent ++ v ∷ []) ++ scrambled (shifted r v) more) (last_bits (shifted r v) (scrambled (shifted r v) more)) in
    let Q : List ℕ → Type 0 = λ y. HasSent (plain ++ p ∷ more) y (last_bits (shifted r v) (scrambled (shifted r v) more)) in
    subst Q (append_assoc sent (v ∷ []) (scrambled (shifted r v) more)) (subst P (append_assoc plain (p ∷ []) more) rest)

pub plain_on : (got plain more : List ℕ) (r : ℕ) → HasTaken got plain r → AreBytes more → HasTaken (got ++ more) (plain ++ descrambled r more) (last_bits r more)
unfolding descrambled last_bits
plain_on got plain [] r has bytes =
    let P : List ℕ → Type 0 = λ y. HasTaken y (plain ++ []) r in
    let Q : List ℕ → Type 0 = λ y. HasTaken got y r in
    subst P (sym (append-nil got)) (subst Q (sym (append-nil plain)) has)
plain_on got plain (g ∷ more) r has bytes =
    let v = bit_xor g (r / 2 ^ 35) in
    let same : v ≡ bit_xor g (last_bits 0 got / 2 ^ 35) = ap (λ x. bit_xor g (x / 2 ^ 35)) has.last in
    let S : ℕ → Type 0 = λ y. IsDescrambled (got ++ g ∷ []) (plain ++ y ∷ []) in
    let next : HasTaken (got ++ g ∷ []) (plain ++ v ∷ []) (shifted r g) = record {
      rule = subst S (sym same) (plain_next got plain g has.rule has.bytes);
      bytes = bytes_pushed got g has.bytes (bytes 0);
      last = ap (λ x. shifted x g) has.last ∙ sym (last_bits-push 0 g got);
    } in
    let rest = plain_on (got ++ g ∷ []) (plain ++ v ∷ []) more (shifted r g) next (older g more bytes) in
    let P : List ℕ → Type 0 = λ y. HasTaken y ((plain ++ v ∷ []) ++ descrambled (shifted r g) more) (last_bits (shifted r g) more) in
    let Q : List ℕ → Type 0 = λ y. HasTaken (got ++ g ∷ more) y (last_bits (shifted r g) more) in
    subst Q (append_assoc plain (v ∷ []) (descrambled (shifted r g) more)) (subst P (append_assoc got (g ∷ []) more) rest)

pub none_sent : HasSent [] [] 0
unfolding last_bits
none_sent = record { rule = record { size = refl; each = λ i below. omega arith }; bytes = λ k. omega arith; last = refl }

pub none_taken : HasTaken [] [] 0
unfolding last_bits
none_taken = record { rule = record { size = refl; each = λ i below. omega arith }; bytes = λ k. omega arith; last = refl }
