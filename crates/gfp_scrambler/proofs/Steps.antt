-- One byte more through the register.
use Rattle.std.proofs.Common.{◌≡◌, ℕ, suc, ◌+◌, ◌/◌, ◌^◌, ◌<◌, List, [], ◌∷◌, ◌++◌, length, take, drop, get_or, refl, ap, ◌∙◌, sym, arith, append_assoc, add-one}
use Rattle.std.specs.Prelude.{bit_xor}
use Rattle.std.proofs.Math.ListN.{set}
use Rattle.std.proofs.Math.Seq.{drop-cons, drop-length, take-length}
use Rattle.std.proofs.lemmas.List.{take_more_set, drop-set-lt, append-nil}
use Rattle.std.specs.Int.Bits.{xor_self, xor_assoc, xor_zero_r}
use Rattle.gfp_scrambler.specs.Register.{shifted, last_bits, scrambled, descrambled}

pub last_bits-append : (r : ℕ) (xs ys : List ℕ) → last_bits r (xs ++ ys) ≡ last_bits (last_bits r xs) ys
unfolding last_bits
last_bits-append r [] ys = refl
last_bits-append r (x ∷ xs) ys = last_bits-append (shifted r x) xs ys

pub last_bits-one : (r x : ℕ) → last_bits r (x ∷ []) ≡ shifted r x
unfolding last_bits
last_bits-one r x = refl

pub last_bits-push : (r x : ℕ) (xs : List ℕ) → last_bits r (xs ++ x ∷ []) ≡ shifted (last_bits r xs) x
last_bits-push r x xs = last_bits-append r xs (x ∷ []) ∙ last_bits-one (last_bits r xs) x

pub scrambled-cons : (r p : ℕ) (plain : List ℕ) → scrambled r (p ∷ plain) ≡ bit_xor p (r / 2 ^ 35) ∷ scrambled (shifted r (bit_xor p (r / 2 ^ 35))) plain
unfolding scrambled
scrambled-cons r p plain = refl

pub descrambled-cons : (r g : ℕ) (got : List ℕ) → descrambled r (g ∷ got) ≡ bit_xor g (r / 2 ^ 35) ∷ descrambled (shifted r g) got
unfolding descrambled
descrambled-cons r g got = refl

-- the part that is done grows by v, and the rest after it stays
grown : (s : List ℕ) (k v : ℕ) (rest : List ℕ) → k < length s → take (k + 1) (set s k v) ++ rest ≡ take k s ++ (v ∷ rest)
grown s k v rest h = ap (λ front. front ++ rest) (take_more_set s k v h) ∙ append_assoc (take k s) (v ∷ []) rest

rest_same : (s : List ℕ) (k v : ℕ) → drop (k + 1) (set s k v) ≡ drop (suc k) s
rest_same s k v = drop-set-lt (k + 1) s k v (omega arith) ∙ ap (λ n. drop n s) (add-one k)

pub sent_more : (s : List ℕ) (k r : ℕ) → k < length s
    → take (k + 1) (set s k (bit_xor (get_or s k 0) (r / 2 ^ 35))) ++ scrambled (shifted r (bit_xor (get_or s k 0) (r / 2 ^ 35))) (drop (k + 1) (set s k (bit_xor (get_or s k 0) (r / 2 ^ 35))))
    ≡ take k s ++ scrambled r (drop k s)
sent_more s k r h =
    let v = bit_xor (get_or s k 0) (r / 2 ^ 35) in
    grown s k v (scrambled (shifted r v) (drop (k + 1) (set s k v))) h
    ∙ ap (λ rest. take k s ++ (v ∷ scrambled (shifted r v) rest)) (rest_same s k v)
    ∙ ap (λ y. take k s ++ y) (sym (ap (scrambled r) (drop-cons s k 0 h) ∙ scrambled-cons r (get_or s k 0) (drop (suc k) s)))

-- the byte that came at place k is put plain there in another list
pub over_more : (got s : List ℕ) (k r : ℕ) → k < length got → k < length s
    → take (k + 1) (set s k (bit_xor (get_or got k 0) (r / 2 ^ 35))) ++ descrambled (shifted r (get_or got k 0)) (drop (k + 1) got)
    ≡ take k s ++ descrambled r (drop k got)
over_more got s k r came h =
    let v = bit_xor (get_or got k 0) (r / 2 ^ 35) in
    let next = shifted r (get_or got k 0) in
    grown s k v (descrambled next (drop (k + 1) got)) h
    ∙ ap (λ n. take k s ++ (v ∷ descrambled next (drop n got))) (add-one k)
    ∙ ap (λ y. take k s ++ y) (sym (ap (descrambled r) (drop-cons got k 0 came) ∙ descrambled-cons r (get_or got k 0) (drop (suc k) got)))

pub plain_more : (s : List ℕ) (k r : ℕ) → k < length s
    → take (k + 1) (set s k (bit_xor (get_or s k 0) (r / 2 ^ 35))) ++ descrambled (shifted r (get_or s k 0)) (drop (k + 1) (set s k (bit_xor (get_or s k 0) (r / 2 ^ 35))))
    ≡ take k s ++ descrambled r (drop k s)
plain_more s k r h =
    let v = bit_xor (get_or s k 0) (r / 2 ^ 35) in
    grown s k v (descrambled (shifted r (get_or s k 0)) (drop (k + 1) (set s k v))) h
    ∙ ap (λ rest. take k s ++ (v ∷ descrambled (shifted r (get_or s k 0)) rest)) (rest_same s k v)
    ∙ ap (λ y. take k s ++ y) (sym (ap (descrambled r) (drop-cons s k 0 h) ∙ descrambled-cons r (get_or s k 0) (drop (suc k) s)))

pub last_more : (s : List ℕ) (k r v : ℕ) → k < length s → last_bits r (take (k + 1) (set s k v)) ≡ shifted (last_bits r (take k s)) v
last_more s k r v h = ap (last_bits r) (take_more_set s k v h) ∙ last_bits-push r v (take k s)

-- at the end all is done
all_done : (s rest : List ℕ) (k : ℕ) → k ≡ length s → rest ≡ [] → take k s ++ rest ≡ s
all_done s rest k e none = ap (λ n. take n s ++ rest) e ∙ ap (λ front. front ++ rest) (take-length s) ∙ ap (λ y. s ++ y) none ∙ append-nil s

nothing_left : (s : List ℕ) (k : ℕ) → k ≡ length s → drop k s ≡ []
nothing_left s k e = ap (λ n. drop n s) e ∙ drop-length s

pub scrambled-none : (r : ℕ) → scrambled r [] ≡ []
unfolding scrambled
scrambled-none r = refl

pub descrambled-none : (r : ℕ) → descrambled r [] ≡ []
unfolding descrambled
descrambled-none r = refl

pub last_bits-none : (r : ℕ) → last_bits r [] ≡ r
unfolding last_bits
last_bits-none r = refl

pub sent_all : (s : List ℕ) (k r : ℕ) → k ≡ length s → take k s ++ scrambled r (drop k s) ≡ s
sent_all s k r e = all_done s (scrambled r (drop k s)) k e (ap (scrambled r) (nothing_left s k e) ∙ scrambled-none r)

pub plain_all : (s : List ℕ) (k r : ℕ) → k ≡ length s → take k s ++ descrambled r (drop k s) ≡ s
plain_all s k r e = all_done s (descrambled r (drop k s)) k e (ap (descrambled r) (nothing_left s k e) ∙ descrambled-none r)

-- as many plain bytes as came: they are all
pub over_all : (got s : List ℕ) (k r : ℕ) → k ≡ length got → length s ≡ length got → take k s ++ descrambled r (drop k got) ≡ s
over_all got s k r e same =
    all_done s (descrambled r (drop k got)) k (e ∙ sym same) (ap (descrambled r) (nothing_left got k e) ∙ descrambled-none r)

pub last_all : (s : List ℕ) (k r : ℕ) → k ≡ length s → last_bits r (drop k s) ≡ r
last_all s k r e = ap (last_bits r) (nothing_left s k e) ∙ last_bits-none r

-- the rest that came begins with the next byte
pub came_next : (got : List ℕ) (k r : ℕ) → k < length got → last_bits (shifted r (get_or got k 0)) (drop (k + 1) got) ≡ last_bits r (drop k got)
unfolding last_bits
came_next got k r h =
    ap (λ n. last_bits (shifted r (get_or got k 0)) (drop n got)) (add-one k) ∙ sym (ap (last_bits r) (drop-cons got k 0 h))

pub last_rest : (s : List ℕ) (k r v : ℕ) → k < length s → last_bits (shifted r (get_or s k 0)) (drop (k + 1) (set s k v)) ≡ last_bits r (drop k s)
unfolding last_bits
last_rest s k r v h = ap (last_bits (shifted r (get_or s k 0))) (rest_same s k v) ∙ sym (ap (last_bits r) (drop-cons s k 0 h))

-- descrambling undoes scrambling
pub undone : (r : ℕ) (plain : List ℕ) → descrambled r (scrambled r plain) ≡ plain
unfolding scrambled descrambled
undone r [] = refl
undone r (p ∷ plain) =
    let key = r / 2 ^ 35 in
    let back : bit_xor (bit_xor p key) key ≡ p = xor_assoc p key key ∙ ap (bit_xor p) (xor_self key) ∙ xor_zero_r p in
    let rest = undone (shifted r (bit_xor p key)) plain in
    ap (λ x. x ∷ descrambled (shifted r (bit_xor p key)) (scrambled (shifted r (bit_xor p key)) plain)) back ∙ ap (λ y. p ∷ y) rest
