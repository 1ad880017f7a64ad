-- The eight bits that stand 43 places before the next byte. A history has the latest byte first.
use Rattle.std.proofs.Common.{◌≡◌, ℕ, suc, ◌+◌, ◌*◌, ◌-◌, ◌/◌, ◌%◌, ◌^◌, ◌<◌, ◌≤◌, List, [], ◌∷◌, ◌++◌, length, get_or, refl, ap, ◌∙◌, sym, arith, inl, inr}
use Rattle.std.specs.Prelude.{reverse}
use Rattle.std.proofs.lemmas.List.{reverse-append, append_assoc, append-nil, get_or-reverse, get_or_past, length-reverse}
use Rattle.std.proofs.lemmas.Bool.{cases_lt}
use Rattle.gfp_scrambler.specs.Register.{shifted, last_bits}

-- the register after a history
register_of : List ℕ → ℕ
register_of [] = 0
register_of (x ∷ before) = shifted (register_of before) x

abbrev pub Bytes : List ℕ → Type 0
Bytes history = (k : ℕ) → get_or history k 0 < 256

older : (x : ℕ) (history : List ℕ) → Bytes (x ∷ history) → Bytes history
older x history bytes k = bytes (suc k)

-- the low bits of the latest byte
low_0 : (h : List ℕ) → register_of h % 2 ^ 3 ≡ get_or h 0 0 % 8
unfolding register_of
low_0 [] = refl
low_0 (x ∷ h) = omega arith

-- two bytes further back in each step
low_1 : (h : List ℕ) → Bytes h → register_of h % 2 ^ 11 / 2 ^ 3 ≡ get_or h 1 0 % 8 * 32 + get_or h 0 0 / 8
unfolding register_of
low_1 [] bytes = refl
low_1 (x ∷ h) bytes = omega (arith, low_0 h, bytes 0)

low_2 : (h : List ℕ) → Bytes h → register_of h % 2 ^ 19 / 2 ^ 11 ≡ get_or h 2 0 % 8 * 32 + get_or h 1 0 / 8
unfolding register_of
low_2 [] bytes = refl
low_2 (x ∷ h) bytes = omega (arith, low_1 h (older x h bytes), bytes 0)

low_3 : (h : List ℕ) → Bytes h → register_of h % 2 ^ 27 / 2 ^ 19 ≡ get_or h 3 0 % 8 * 32 + get_or h 2 0 / 8
unfolding register_of
low_3 [] bytes = refl
low_3 (x ∷ h) bytes = omega (arith, low_2 h (older x h bytes), bytes 0)

low_4 : (h : List ℕ) → Bytes h → register_of h % 2 ^ 35 / 2 ^ 27 ≡ get_or h 4 0 % 8 * 32 + get_or h 3 0 / 8
unfolding register_of
low_4 [] bytes = refl
low_4 (x ∷ h) bytes = omega (arith, low_3 h (older x h bytes), bytes 0)

key_of : (h : List ℕ) → Bytes h → register_of h / 2 ^ 35 ≡ get_or h 5 0 % 8 * 32 + get_or h 4 0 / 8
unfolding register_of
key_of [] bytes = refl
key_of (x ∷ h) bytes = omega (arith, low_4 h (older x h bytes), bytes 0)

-- the register after a list is that of its history

history_from : (h xs : List ℕ) → last_bits (register_of h) xs ≡ register_of (reverse xs ++ h)
unfolding register_of last_bits
history_from h [] = refl
history_from h (x ∷ xs) = history_from (x ∷ h) xs ∙ ap register_of (sym (reversed_cons x xs h))
  where
    reversed_cons : (x : ℕ) (xs h : List ℕ) → reverse (x ∷ xs) ++ h ≡ reverse xs ++ (x ∷ h)
    reversed_cons x xs h = ap (λ y. y ++ h) (reverse-append (x ∷ []) xs) ∙ append_assoc (reverse xs) (x ∷ []) h

history_is : (xs : List ℕ) → last_bits 0 xs ≡ register_of (reverse xs)
unfolding register_of
history_is xs = history_from [] xs ∙ ap register_of (append-nil (reverse xs))

-- the byte n places before the last one
pub back_in : (xs : List ℕ) (n : ℕ) → n < length xs → get_or (reverse xs) n 0 ≡ get_or xs (length xs - 1 - n) 0
back_in xs n h = get_or-reverse xs n 0 h

pub back_before : (xs : List ℕ) (n : ℕ) → length xs ≤ n → get_or (reverse xs) n 0 ≡ 0
back_before xs n h = get_or_past (reverse xs) n 0 (let e = length-reverse xs in omega arith)

pub bytes_back : (xs : List ℕ) → ((k : ℕ) → get_or xs k 0 < 256) → Bytes (reverse xs)
bytes_back xs bytes k =
    elim (cases_lt k (length xs)) [ inl h ↦ (let e = back_in xs k h in omega (arith, bytes (length xs - 1 - k))) | inr h ↦ (let e = back_before xs k h in omega arith) ]

-- the register's top eight bits, in the bytes five and six before the next
pub key_is : (xs : List ℕ) → ((k : ℕ) → get_or xs k 0 < 256)
    → last_bits 0 xs / 2 ^ 35 ≡ get_or (reverse xs) 5 0 % 8 * 32 + get_or (reverse xs) 4 0 / 8
key_is xs bytes = ap (λ r. r / 2 ^ 35) (history_is xs) ∙ key_of (reverse xs) (bytes_back xs bytes)
