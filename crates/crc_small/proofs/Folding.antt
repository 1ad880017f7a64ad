-- A byte that is added to those at nine places behind it leaves the register as it was.
use Rattle.std.proofs.Common.{◌≡◌, ℕ, zero, suc, ◌+◌, ◌*◌, ◌^◌, ◌<◌, ◌≤◌, List, [], ◌∷◌, true, length, get_or, take, refl, ap, ◌∙◌, sym, subst, arith}
use Rattle.std.specs.Prelude.{bit_xor, ◌==◌}
use Rattle.std.specs.Int.Bits.{xor_self, xor_zero_l, xor_zero_r, xor_assoc}
use Rattle.std.proofs.lemmas.Nat.{xor_lt, xor_block}
use Rattle.std.proofs.lemmas.Bool.{agree_below_at, eqb-true}
use Rattle.crc_small.specs.Steps.Shifted.{after_byte}
use Rattle.crc_small.specs.Steps.Folding.{after_some, sum_at, places, pending}
use Rattle.crc_small.proofs.Linear.{zeros, zeros_zero, xor_swap}
use Rattle.crc_small.proofs.Inverted.{register_32, register-none, register-more}
use Rattle.crc_small.proofs.Words.{z, z-xor, z-lt, one_byte, both}

-- what a byte does to a register of 32 bits
abbrev pub after : ℕ → ℕ → ℕ
after = after_byte 31 0x104C11DB7

pub after-lt : (c x : ℕ) → c < 2 ^ 32 → x < 2 ^ 8 → after c x < 2 ^ 32
after-lt c x hc hx = subst (λ y. y < 2 ^ 32) (sym (one_byte c x hc hx)) (z-lt (bit_xor c (x * 2 ^ 24)) (xor_lt 32 c (x * 2 ^ 24) hc (omega arith)))

up-xor : (x y : ℕ) → bit_xor x y * 2 ^ 24 ≡ bit_xor (x * 2 ^ 24) (y * 2 ^ 24)
up-xor x y =
    let e : bit_xor x y * 2 ^ 24 ≡ bit_xor x y * 2 ^ 24 + bit_xor 0 0 = omega arith in
    let ex : x * 2 ^ 24 + 0 ≡ x * 2 ^ 24 = omega arith in
    let ey : y * 2 ^ 24 + 0 ≡ y * 2 ^ 24 = omega arith in
    e ∙ sym (xor_block 24 x y 0 0 (omega arith) (omega arith)) ∙ both ex ey

pub after-xor : (c d x y : ℕ) → c < 2 ^ 32 → d < 2 ^ 32 → x < 2 ^ 8 → y < 2 ^ 8 → after (bit_xor c d) (bit_xor x y) ≡ bit_xor (after c x) (after d y)
after-xor c d x y hc hd hx hy =
    let cx = xor_lt 32 c (x * 2 ^ 24) hc (omega arith) in
    let dy = xor_lt 32 d (y * 2 ^ 24) hd (omega arith) in
    one_byte (bit_xor c d) (bit_xor x y) (xor_lt 32 c d hc hd) (xor_lt 8 x y hx hy)
    ∙ ap (λ u. z (bit_xor (bit_xor c d) u)) (up-xor x y)
    ∙ ap z (xor_swap c d (x * 2 ^ 24) (y * 2 ^ 24))
    ∙ z-xor (bit_xor c (x * 2 ^ 24)) (bit_xor d (y * 2 ^ 24)) cx dy
    ∙ sym (both (one_byte c x hc hx) (one_byte d y hd hy))

-- the shifts of n bytes
unfoldable pub zs : ℕ → ℕ → ℕ
zs zero s = s
zs (suc n) s = z (zs n s)

zs-lt : (n s : ℕ) → s < 2 ^ 32 → zs n s < 2 ^ 32
unfolding zs
zs-lt zero s h = h
zs-lt (suc n) s h = z-lt (zs n s) (zs-lt n s h)

pub after_zero : (c : ℕ) → c < 2 ^ 32 → after c 0 ≡ z c
after_zero c h = one_byte c 0 h (omega arith) ∙ ap z (xor_zero_r c)

after_besides : (c d x : ℕ) → c < 2 ^ 32 → d < 2 ^ 32 → x < 2 ^ 8 → after (bit_xor c d) x ≡ bit_xor (after c x) (z d)
after_besides c d x hc hd hx =
    ap (after (bit_xor c d)) (sym (xor_zero_r x)) ∙ after-xor c d x 0 hc hd hx (omega arith) ∙ ap (bit_xor (after c x)) (after_zero d hd)

pub some-lt : (g : ℕ → ℕ) (i n r : ℕ) → ((k : ℕ) → g k < 2 ^ 8) → r < 2 ^ 32 → after_some g i n r < 2 ^ 32
unfolding after_some
some-lt g i zero r hg h = h
some-lt g i (suc n) r hg h = after-lt (after_some g i n r) (g (i + n)) (some-lt g i n r hg h) (hg (i + n))

-- what is in the register besides is shifted
some-xor : (g : ℕ → ℕ) (i n r s : ℕ) → ((k : ℕ) → g k < 2 ^ 8) → r < 2 ^ 32 → s < 2 ^ 32
    → after_some g i n (bit_xor r s) ≡ bit_xor (after_some g i n r) (zs n s)
unfolding after_some zs
some-xor g i zero r s hg hr hs = refl
some-xor g i (suc n) r s hg hr hs =
    ap (λ c. after c (g (i + n))) (some-xor g i n r s hg hr hs)
    ∙ after_besides (after_some g i n r) (zs n s) (g (i + n)) (some-lt g i n r hg hr) (zs-lt n s hs) (hg (i + n))

-- the first byte, and then the others
front : (g : ℕ → ℕ) (i n r : ℕ) → after_some g i (suc n) r ≡ after_some g (suc i) n (after r (g i))
unfolding after_some
front g i zero r = let e : i + 0 ≡ i = omega arith in ap (λ k. after r (g k)) e
front g i (suc n) r =
    let e : i + suc n ≡ suc i + n = omega arith in
    ap (λ c. after c (g (i + suc n))) (front g i n r) ∙ ap (λ k. after (after_some g (suc i) n (after r (g i))) (g k)) e

pub taken_away : (a b c : ℕ) → a ≡ bit_xor b c → b ≡ bit_xor a c
taken_away a b c e = sym (xor_zero_r b) ∙ ap (bit_xor b) (sym (xor_self c)) ∙ sym (xor_assoc b c c) ∙ ap (λ x. bit_xor x c) (sym e)

-- bytes from one place later on: one byte more behind, and the first one taken away
later : (g : ℕ → ℕ) (i n : ℕ) → ((k : ℕ) → g k < 2 ^ 8)
    → after_some g (suc i) n 0 ≡ bit_xor (after (after_some g i n 0) (g (i + n))) (zs n (after 0 (g i)))
unfolding after_some
later g i n hg =
    let s = after 0 (g i) in
    taken_away (after_some g i (suc n) 0) (after_some g (suc i) n 0) (zs n s)
    (front g i n 0 ∙ ap (after_some g (suc i) n) (sym (xor_zero_l s))
    ∙ some-xor g (suc i) n 0 s hg (omega arith) (after-lt 0 (g i) (omega arith) (hg i)))

pub sum_at-lt : (b : ℕ) (f : ℕ → ℕ) (cs : List ℕ) → ((c : ℕ) → f c < 2 ^ b) → 0 < 2 ^ b → sum_at f cs < 2 ^ b
unfolding sum_at
sum_at-lt b f [] h p = p
sum_at-lt b f (c ∷ cs) h p = xor_lt b (f c) (sum_at f cs) (h c) (sum_at-lt b f cs h p)

pub sum_at-same : (f h : ℕ → ℕ) (cs : List ℕ) → ((c : ℕ) → f c ≡ h c) → sum_at f cs ≡ sum_at h cs
unfolding sum_at
sum_at-same f h [] e = refl
sum_at-same f h (c ∷ cs) e = both (e c) (sum_at-same f h cs e)

sum_at-xor : (f h : ℕ → ℕ) (cs : List ℕ) → sum_at (λ c. bit_xor (f c) (h c)) cs ≡ bit_xor (sum_at f cs) (sum_at h cs)
unfolding sum_at
sum_at-xor f h [] = refl
sum_at-xor f h (c ∷ cs) = ap (bit_xor (bit_xor (f c) (h c))) (sum_at-xor f h cs) ∙ xor_swap (f c) (h c) (sum_at f cs) (sum_at h cs)

pub z_none : z 0 ≡ 0
unfolding z
z_none = zeros_zero 32 0x104C11DB7 8

sum_at-after : (f h : ℕ → ℕ) (cs : List ℕ) → ((c : ℕ) → f c < 2 ^ 32) → ((c : ℕ) → h c < 2 ^ 8)
    → sum_at (λ c. after (f c) (h c)) cs ≡ after (sum_at f cs) (sum_at h cs)
unfolding sum_at
sum_at-after f h [] hf hh = sym (after_zero 0 (omega arith) ∙ z_none)
sum_at-after f h (c ∷ cs) hf hh =
    ap (bit_xor (after (f c) (h c))) (sum_at-after f h cs hf hh)
    ∙ sym (after-xor (f c) (sum_at f cs) (h c) (sum_at h cs) (hf c) (sum_at-lt 32 f cs hf (omega arith)) (hh c) (sum_at-lt 8 h cs hh (omega arith)))

folds_up : (x : ℕ) → x < 256 → bit_xor (zs 93 (z (bit_xor 0 (x * 2 ^ 24)))) (sum_at (λ c. zs c (z (bit_xor 0 (x * 2 ^ 24)))) places) ≡ 0
unfolding zs z zeros sum_at
folds_up x h = eqb-true _ _ (agree_below_at (λ x. bit_xor (zs 93 (z (bit_xor 0 (x * 2 ^ 24)))) (sum_at (λ c. zs c (z (bit_xor 0 (x * 2 ^ 24)))) places) == 0) (λ x. true) 256 x refl h)

-- what the shifts of 93 bytes leave is what those of the nine numbers of bytes leave
folds : (x : ℕ) → x < 256 → bit_xor (zs 93 (after 0 x)) (sum_at (λ c. zs c (after 0 x)) places) ≡ 0
folds x h = ap (λ s. bit_xor (zs 93 s) (sum_at (λ c. zs c s) places)) (one_byte 0 x (omega arith) (omega arith)) ∙ folds_up x h

-- the window moves on by a byte
moves_on : (g : ℕ → ℕ) (i : ℕ) → ((k : ℕ) → g k < 2 ^ 8)
    → pending g (suc i) ≡ after (pending g i) (bit_xor (g (i + 93)) (sum_at (λ c. g (i + c)) places))
unfolding pending
moves_on g i hg =
    let s = after 0 (g i) in
    let r = λ (n : ℕ). after_some g i n 0 in
    let here = λ (n : ℕ). g (i + n) in
    let small : (n : ℕ) → r n < 2 ^ 32 = λ n. some-lt g i n 0 hg (omega arith) in
    let bytes : (n : ℕ) → here n < 2 ^ 8 = λ n. hg (i + n) in
    both (later g i 93 hg)
    (sum_at-same (λ c. after_some g (suc i) c 0) (λ c. bit_xor (after (r c) (here c)) (zs c s)) places (λ c. later g i c hg)
    ∙ sum_at-xor (λ c. after (r c) (here c)) (λ c. zs c s) places
    ∙ ap (λ u. bit_xor u (sum_at (λ c. zs c s) places)) (sum_at-after r here places small bytes))
    ∙ xor_swap (after (r 93) (here 93)) (zs 93 s) (after (sum_at r places) (sum_at here places)) (sum_at (λ c. zs c s) places)
    ∙ ap (bit_xor (bit_xor (after (r 93) (here 93)) (after (sum_at r places) (sum_at here places)))) (folds (g i) (let e = hg i in omega arith))
    ∙ xor_zero_r (bit_xor (after (r 93) (here 93)) (after (sum_at r places) (sum_at here places)))
    ∙ sym (after-xor (r 93) (sum_at r places) (here 93) (sum_at here places) (small 93) (sum_at-lt 32 r places small (omega arith)) (bytes 93) (sum_at-lt 8 here places bytes (omega arith)))

-- n bytes of a message, each of which is a new byte of the window with those at the nine places added
pub folded : (g m : ℕ → ℕ) (i n : ℕ) → ((k : ℕ) → g k < 2 ^ 8)
    → ((j : ℕ) → j < n → m j ≡ bit_xor (g (i + j + 93)) (sum_at (λ c. g (i + j + c)) places))
    → after_some m 0 n (pending g i) ≡ pending g (i + n)
unfolding after_some
folded g m i zero hg h = let e : i ≡ i + 0 = omega arith in ap (pending g) e
folded g m i (suc n) hg h =
    let e : suc (i + n) ≡ i + suc n = omega arith in
    ap (λ c. after c (m (0 + n))) (folded g m i n hg (λ j l. h j (omega arith)))
    ∙ (let z : 0 + n ≡ n = omega arith in ap (λ k. after (pending g (i + n)) (m k)) z)
    ∙ ap (after (pending g (i + n))) (h n (omega arith))
    ∙ sym (moves_on g (i + n) hg)
    ∙ ap (pending g) e

-- two registers side by side
pub side_by_side : (m p q : ℕ → ℕ) (n r s : ℕ) → ((k : ℕ) → p k < 2 ^ 8) → ((k : ℕ) → q k < 2 ^ 8) → r < 2 ^ 32 → s < 2 ^ 32
    → ((j : ℕ) → j < n → m j ≡ bit_xor (p j) (q j))
    → after_some m 0 n (bit_xor r s) ≡ bit_xor (after_some p 0 n r) (after_some q 0 n s)
unfolding after_some
side_by_side m p q zero r s hp hq hr hs h = refl
side_by_side m p q (suc n) r s hp hq hr hs h =
    let e : 0 + n ≡ n = omega arith in
    let same : m (0 + n) ≡ bit_xor (p (0 + n)) (q (0 + n)) = ap m e ∙ h n (omega arith) ∙ ap (λ k. bit_xor (p k) (q k)) (sym e) in
    ap (λ c. after c (m (0 + n))) (side_by_side m p q n r s hp hq hr hs (λ j l. h j (omega arith)))
    ∙ ap (after (bit_xor (after_some p 0 n r) (after_some q 0 n s))) same
    ∙ after-xor (after_some p 0 n r) (after_some q 0 n s) (p (0 + n)) (q (0 + n)) (some-lt p 0 n r hp hr) (some-lt q 0 n s hq hs) (hp (0 + n)) (hq (0 + n))

-- ---- the same bytes, named otherwise

pub some_same : (g h : ℕ → ℕ) (i k n r : ℕ) → ((j : ℕ) → j < n → g (i + j) ≡ h (k + j)) → after_some g i n r ≡ after_some h k n r
unfolding after_some
some_same g h i k zero r e = refl
some_same g h i k (suc n) r e = ap (λ c. after c (g (i + n))) (some_same g h i k n r (λ j l. e j (omega arith))) ∙ ap (after (after_some h k n r)) (e n (omega arith))

pub places_same : (f h : ℕ → ℕ) → ((c : ℕ) → c < 78 → f c ≡ h c) → sum_at f places ≡ sum_at h places
unfolding sum_at
places_same f h e =
    both (e 29 (omega arith)) (both (e 0 (omega arith)) (both (e 16 (omega arith)) (both (e 18 (omega arith)) (both (e 50 (omega arith)) (both (e 12 (omega arith))
    (both (e 58 (omega arith)) (both (e 74 (omega arith)) (both (e 77 (omega arith)) refl))))))))

pub pending_same : (g h : ℕ → ℕ) (i k : ℕ) → ((j : ℕ) → j < 93 → g (i + j) ≡ h (k + j)) → pending g i ≡ pending h k
unfolding pending
pending_same g h i k e =
    both (some_same g h i k 93 0 e)
    (places_same (λ c. after_some g i c 0) (λ c. after_some h k c 0) (λ c l. some_same g h i k c 0 (λ j m. e j (omega arith))))

some_zero : (g : ℕ → ℕ) (i n : ℕ) → ((k : ℕ) → g k ≡ 0) → after_some g i n 0 ≡ 0
unfolding after_some
some_zero g i zero e = refl
some_zero g i (suc n) e = ap (λ c. after c (g (i + n))) (some_zero g i n e) ∙ ap (after 0) (e (i + n)) ∙ after_zero 0 (omega arith) ∙ z_none

pub pending_zero : (g : ℕ → ℕ) (i : ℕ) → ((k : ℕ) → g k ≡ 0) → pending g i ≡ 0
unfolding pending sum_at
pending_zero g i e = both (some_zero g i 93 e) (places_same (λ c. after_some g i c 0) (λ c. 0) (λ c l. some_zero g i c e))

pub pending-lt : (g : ℕ → ℕ) (i : ℕ) → ((k : ℕ) → g k < 2 ^ 8) → pending g i < 2 ^ 32
unfolding pending
pending-lt g i h =
    xor_lt 32 (after_some g i 93 0) (sum_at (λ c. after_some g i c 0) places) (some-lt g i 93 0 h (omega arith))
    (sum_at-lt 32 (λ c. after_some g i c 0) places (λ c. some-lt g i c 0 h (omega arith)) (omega arith))

-- zeros are shifts
pub some_zeros : (g : ℕ → ℕ) (n r : ℕ) → r < 2 ^ 32 → ((j : ℕ) → j < n → g j ≡ 0) → after_some g 0 n r ≡ zs n r
unfolding after_some zs
some_zeros g zero r h e = refl
some_zeros g (suc n) r h e =
    let same : 0 + n ≡ n = omega arith in
    ap (λ c. after c (g (0 + n))) (some_zeros g n r h (λ j l. e j (omega arith)))
    ∙ ap (λ k. after (zs n r) (g k)) same
    ∙ ap (after (zs n r)) (e n (omega arith))
    ∙ after_zero (zs n r) (zs-lt n r h)

-- the first n bytes, and then k more
pub some_split : (g : ℕ → ℕ) (n k r : ℕ) → after_some g 0 (n + k) r ≡ after_some (λ j. g (n + j)) 0 k (after_some g 0 n r)
unfolding after_some
some_split g n zero r = let e : n + 0 ≡ n = omega arith in ap (λ m. after_some g 0 m r) e
some_split g n (suc k) r =
    let e : n + suc k ≡ suc (n + k) = omega arith in
    let f : 0 + (n + k) ≡ n + (0 + k) = omega arith in
    ap (λ m. after_some g 0 m r) e
    ∙ ap (λ c. after c (g (0 + (n + k)))) (some_split g n k r)
    ∙ ap (λ m. after (after_some (λ j. g (n + j)) 0 k (after_some g 0 n r)) (g m)) f

-- the register that begins with ones, after the first n bytes
pub register_some : (bytes : List ℕ) (n : ℕ) → n ≤ length bytes → after_some (λ i. get_or bytes i 0) 0 n 0xFFFFFFFF ≡ register_32 (take n bytes)
unfolding after_some
register_some bytes zero h = register-none
register_some bytes (suc n) h =
    let e : n + 1 ≡ suc n = omega arith in
    let z : 0 + n ≡ n = omega arith in
    ap (λ c. after c (get_or bytes (0 + n) 0)) (register_some bytes n (omega arith))
    ∙ ap (λ i. after (register_32 (take n bytes)) (get_or bytes i 0)) z
    ∙ sym (register-more bytes n (omega arith))
    ∙ ap (λ i. register_32 (take i bytes)) e
