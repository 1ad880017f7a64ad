-- Vectors of sixteen bytes, and windows of six.
use Rattle.std.proofs.Common.{◌≡◌, ℕ, zero, suc, ◌+◌, ◌-◌, ◌^◌, ◌<◌, ◌≤◌, ◌⊎◌, inl, inr, List, [], ◌∷◌, ◌++◌, length, get_or, refl, ap, ◌∙◌, sym, subst, arith}
use Rattle.std.specs.Prelude.{bit_xor, replicate}
use Rattle.std.specs.List.{range_with_len}
use Rattle.std.specs.Simd.Lanes.{zip2, pick_l}
use Rattle.std.specs.Int.Bits.{xor_zero_r, xor_zero_l, xor_assoc}
use Rattle.std.proofs.lemmas.Nat.{xor_lt}
use Rattle.std.proofs.lemmas.Bool.{cases_lt}
use Rattle.std.proofs.lemmas.List.{ext_get_or, get_or_past, get_or-append-add, append_assoc, length-append, get_or-append_right}
use Rattle.std.proofs.Math.ListN.{get_or-append}
use Rattle.crc_small.specs.declared.long_message.Window.{Window}
use Rattle.crc_small.specs.Steps.Folding.{after_some, sum_at, places, pending}
use Rattle.crc_small.specs.Steps.Window.{IsVector, IsWindow, all_bytes, window_byte}
use Rattle.crc_small.proofs.Words.{both}
use Rattle.crc_small.proofs.Folding.{folded, side_by_side, places_same, pending_same, pending-lt, pending_zero, sum_at-lt, some_split, taken_away}

-- a vector, lane by lane
abbrev pub sixteen : (ℕ → ℕ) → List ℕ
sixteen f = f 0 ∷ f 1 ∷ f 2 ∷ f 3 ∷ f 4 ∷ f 5 ∷ f 6 ∷ f 7 ∷ f 8 ∷ f 9 ∷ f 10 ∷ f 11 ∷ f 12 ∷ f 13 ∷ f 14 ∷ f 15 ∷ []

get_sixteen : (f : ℕ → ℕ) (i : ℕ) → i < 16 → get_or (sixteen f) i 0 ≡ f i
get_sixteen f zero h = refl
get_sixteen f (suc zero) h = refl
get_sixteen f (suc (suc zero)) h = refl
get_sixteen f (suc (suc (suc zero))) h = refl
get_sixteen f (suc (suc (suc (suc zero)))) h = refl
get_sixteen f (suc (suc (suc (suc (suc zero))))) h = refl
get_sixteen f (suc (suc (suc (suc (suc (suc zero)))))) h = refl
get_sixteen f (suc (suc (suc (suc (suc (suc (suc zero))))))) h = refl
get_sixteen f (suc (suc (suc (suc (suc (suc (suc (suc zero)))))))) h = refl
get_sixteen f (suc (suc (suc (suc (suc (suc (suc (suc (suc zero))))))))) h = refl
get_sixteen f (suc (suc (suc (suc (suc (suc (suc (suc (suc (suc zero)))))))))) h = refl
get_sixteen f (suc (suc (suc (suc (suc (suc (suc (suc (suc (suc (suc zero))))))))))) h = refl
get_sixteen f (suc (suc (suc (suc (suc (suc (suc (suc (suc (suc (suc (suc zero)))))))))))) h = refl
get_sixteen f (suc (suc (suc (suc (suc (suc (suc (suc (suc (suc (suc (suc (suc zero))))))))))))) h = refl
get_sixteen f (suc (suc (suc (suc (suc (suc (suc (suc (suc (suc (suc (suc (suc (suc zero)))))))))))))) h = refl
get_sixteen f (suc (suc (suc (suc (suc (suc (suc (suc (suc (suc (suc (suc (suc (suc (suc zero))))))))))))))) h = refl
get_sixteen f (suc (suc (suc (suc (suc (suc (suc (suc (suc (suc (suc (suc (suc (suc (suc (suc i)))))))))))))))) h = absurd (omega arith)

by_lanes : (xs : List ℕ) → length xs ≡ 16 → xs ≡ sixteen (λ i. get_or xs i 0)
by_lanes xs h = ext_get_or 0 xs (sixteen (λ i. get_or xs i 0)) h (λ i l. sym (get_sixteen (λ i. get_or xs i 0) i (omega arith)))

-- bytes up to the end are bytes beyond it
pub is_vector : (xs : List ℕ) → length xs ≡ 16 → ((i : ℕ) → i < 16 → get_or xs i 0 < 2 ^ 8) → IsVector xs
is_vector xs h small = record { long = h; bytes = λ i. case i (cases_lt i 16) }
  where
    case : (i : ℕ) → (i < 16) ⊎ (16 ≤ i) → get_or xs i 0 < 2 ^ 8
    case i (inl l) = small i l
    case i (inr l) = subst (λ y. y < 2 ^ 8) (sym (get_or_past xs i 0 (omega arith))) (omega arith)

-- what a window makes of the next sixteen bytes
abbrev pub fold_of : (m w1 w2 w3 w4 w5 w6 : List ℕ) → List ℕ
fold_of m w1 w2 w3 w4 w5 w6 =
    let x = zip2 bit_xor in
    x (x (x (x (x (x m w4) (pick_l 0 (x w6 w5 ++ x w5 w4) (range_with_len 3 16))) (pick_l 0 (x w5 w3 ++ x w4 w2) (range_with_len 5 16))) (pick_l 0 (w6 ++ w5) (range_with_len 15 16))) (pick_l 0 (x w3 w2 ++ x w2 w1) (range_with_len 13 16))) w1

flat : (m a b c d e f g h k : ℕ) → let x = bit_xor in
    x (x (x (x (x (x m a) (x b c)) (x d e)) f) (x g h)) k ≡ x m (x a (x b (x c (x d (x e (x f (x g (x h (x k 0)))))))))
flat m a b c d e f g h k =
    let x = bit_xor in
    let p = x (x m a) (x b c) in
    let r = x g (x h (x k 0)) in
    let end : x (x g h) k ≡ r = xor_assoc g h k ∙ ap (λ y. x g (x h y)) (sym (xor_zero_r k)) in
    xor_assoc (x (x p (x d e)) f) (x g h) k
    ∙ ap (x (x (x p (x d e)) f)) end
    ∙ xor_assoc (x p (x d e)) f r
    ∙ xor_assoc p (x d e) (x f r)
    ∙ ap (x p) (xor_assoc d e (x f r))
    ∙ xor_assoc (x m a) (x b c) (x d (x e (x f r)))
    ∙ ap (x (x m a)) (xor_assoc b c (x d (x e (x f r))))
    ∙ xor_assoc m a (x b (x c (x d (x e (x f r)))))

-- lane by lane it is the byte, and the bytes at the nine places before it
record IsFolded (m w1 w2 w3 w4 w5 w6 : List ℕ) : Type 0 where
  long : length (fold_of m w1 w2 w3 w4 w5 w6) ≡ 16
  each : (j : ℕ) → j < 16 → get_or (fold_of m w1 w2 w3 w4 w5 w6) j 0 ≡ bit_xor (get_or m j 0) (sum_at (λ c. get_or (w6 ++ (w5 ++ (w4 ++ (w3 ++ (w2 ++ w1))))) (3 + (j + c)) 0) places)

folded_lanes : (m f1 f2 f3 f4 f5 f6 : ℕ → ℕ) → IsFolded (sixteen m) (sixteen f1) (sixteen f2) (sixteen f3) (sixteen f4) (sixteen f5) (sixteen f6)
unfolding sum_at
folded_lanes m f1 f2 f3 f4 f5 f6 =
    let all = sixteen f6 ++ (sixteen f5 ++ (sixteen f4 ++ (sixteen f3 ++ (sixteen f2 ++ sixteen f1)))) in
    let x = bit_xor in
    let b = λ (j c : ℕ). get_or all (3 + (j + c)) 0 in
    let lane = λ (j : ℕ). x (x (x (x (x (x (m j) (b j 29)) (x (b j 0) (b j 16))) (x (b j 18) (b j 50))) (b j 12)) (x (b j 58) (b j 74))) (b j 77) in
    let same : fold_of (sixteen m) (sixteen f1) (sixteen f2) (sixteen f3) (sixteen f4) (sixteen f5) (sixteen f6) ≡ sixteen lane = refl in
    record {
      long = refl;
      each = λ j h.
          ap (λ xs. get_or xs j 0) same
          ∙ get_sixteen lane j h
          ∙ flat (m j) (b j 29) (b j 0) (b j 16) (b j 18) (b j 50) (b j 12) (b j 58) (b j 74) (b j 77)
          ∙ ap (λ y. x y (sum_at (b j) places)) (sym (get_sixteen m j h));
    }

folded_window : (m w1 w2 w3 w4 w5 w6 : List ℕ) → IsVector m → IsVector w1 → IsVector w2 → IsVector w3 → IsVector w4 → IsVector w5 → IsVector w6 → IsFolded m w1 w2 w3 w4 w5 w6
folded_window m w1 w2 w3 w4 w5 w6 hm h1 h2 h3 h4 h5 h6 =
    let l = λ (xs : List ℕ) (i : ℕ). get_or xs i 0 in
    subst (λ y. IsFolded y w1 w2 w3 w4 w5 w6) (sym (by_lanes m hm.long))
    (subst (λ y. IsFolded (sixteen (l m)) y w2 w3 w4 w5 w6) (sym (by_lanes w1 h1.long))
    (subst (λ y. IsFolded (sixteen (l m)) (sixteen (l w1)) y w3 w4 w5 w6) (sym (by_lanes w2 h2.long))
    (subst (λ y. IsFolded (sixteen (l m)) (sixteen (l w1)) (sixteen (l w2)) y w4 w5 w6) (sym (by_lanes w3 h3.long))
    (subst (λ y. IsFolded (sixteen (l m)) (sixteen (l w1)) (sixteen (l w2)) (sixteen (l w3)) y w5 w6) (sym (by_lanes w4 h4.long))
    (subst (λ y. IsFolded (sixteen (l m)) (sixteen (l w1)) (sixteen (l w2)) (sixteen (l w3)) (sixteen (l w4)) y w6) (sym (by_lanes w5 h5.long))
    (subst (λ y. IsFolded (sixteen (l m)) (sixteen (l w1)) (sixteen (l w2)) (sixteen (l w3)) (sixteen (l w4)) (sixteen (l w5)) y) (sym (by_lanes w6 h6.long))
    (folded_lanes (l m) (l w1) (l w2) (l w3) (l w4) (l w5) (l w6))))))))

append_small : (xs ys : List ℕ) → ((k : ℕ) → get_or xs k 0 < 2 ^ 8) → ((k : ℕ) → get_or ys k 0 < 2 ^ 8) → (k : ℕ) → get_or (xs ++ ys) k 0 < 2 ^ 8
append_small [] ys hx hy k = hy k
append_small (x ∷ xs) ys hx hy zero = hx 0
append_small (x ∷ xs) ys hx hy (suc k) = append_small xs ys (λ i. hx (suc i)) hy k

all_small : (w : Window) → IsWindow w → (k : ℕ) → get_or (all_bytes w) k 0 < 2 ^ 8
all_small w h =
    append_small w.v6 (w.v5 ++ (w.v4 ++ (w.v3 ++ (w.v2 ++ w.v1)))) h.sixth.bytes
    (append_small w.v5 (w.v4 ++ (w.v3 ++ (w.v2 ++ w.v1))) h.fifth.bytes
    (append_small w.v4 (w.v3 ++ (w.v2 ++ w.v1)) h.fourth.bytes
    (append_small w.v3 (w.v2 ++ w.v1) h.third.bytes
    (append_small w.v2 w.v1 h.second.bytes h.first.bytes))))

pub window_small : (w : Window) → IsWindow w → (k : ℕ) → window_byte w k < 2 ^ 8
window_small w h k = all_small w h (3 + k)

-- what the nine places add
pub added_small : (w : Window) → IsWindow w → (j : ℕ) → sum_at (λ c. window_byte w (j + c)) places < 2 ^ 8
added_small w h j = sum_at-lt 8 (λ c. window_byte w (j + c)) places (λ c. window_small w h (j + c)) (omega arith)

pub fold_vector : (w : Window) (m : List ℕ) → IsWindow w → IsVector m → IsVector (fold_of m w.v1 w.v2 w.v3 w.v4 w.v5 w.v6)
fold_vector w m h hm =
    let is = folded_window m w.v1 w.v2 w.v3 w.v4 w.v5 w.v6 hm h.first h.second h.third h.fourth h.fifth h.sixth in
    is_vector (fold_of m w.v1 w.v2 w.v3 w.v4 w.v5 w.v6) is.long (λ i l.
    subst (λ y. y < 2 ^ 8) (sym (is.each i l)) (xor_lt 8 (get_or m i 0) (sum_at (λ c. window_byte w (i + c)) places) (hm.bytes i) (added_small w h i)))

pub fold_lane : (w : Window) (m : List ℕ) → IsWindow w → IsVector m → (j : ℕ) → j < 16
    → get_or (fold_of m w.v1 w.v2 w.v3 w.v4 w.v5 w.v6) j 0 ≡ bit_xor (get_or m j 0) (sum_at (λ c. window_byte w (j + c)) places)
fold_lane w m h hm = (folded_window m w.v1 w.v2 w.v3 w.v4 w.v5 w.v6 hm h.first h.second h.third h.fourth h.fifth h.sixth).each

-- ---- the window sixteen bytes on

abbrev pub pushed : Window → List ℕ → Window
pushed w one = record { v1 = one; v2 = w.v1; v3 = w.v2; v4 = w.v3; v5 = w.v4; v6 = w.v5 }

pub pushed_window : (w : Window) (one : List ℕ) → IsWindow w → IsVector one → IsWindow (pushed w one)
pushed_window w one h ho = record { first = ho; second = h.first; third = h.second; fourth = h.third; fifth = h.fourth; sixth = h.fifth }

-- both windows together
abbrev stream : Window → List ℕ → ℕ → ℕ
stream w one k = get_or (w.v6 ++ all_bytes (pushed w one)) (3 + k) 0

together : (w : Window) (one : List ℕ) → w.v6 ++ all_bytes (pushed w one) ≡ all_bytes w ++ one
together w one =
    let r2 = w.v2 ++ w.v1 in
    let r3 = w.v3 ++ r2 in
    let r4 = w.v4 ++ r3 in
    let r5 = w.v5 ++ r4 in
    sym (append_assoc w.v6 r5 one
    ∙ ap (λ y. w.v6 ++ y) (append_assoc w.v5 r4 one
    ∙ ap (λ y. w.v5 ++ y) (append_assoc w.v4 r3 one
    ∙ ap (λ y. w.v4 ++ y) (append_assoc w.v3 r2 one
    ∙ ap (λ y. w.v3 ++ y) (append_assoc w.v2 w.v1 one)))))

all_long : (w : Window) → IsWindow w → length (all_bytes w) ≡ 96
all_long w h =
    let r2 = w.v2 ++ w.v1 in
    let r3 = w.v3 ++ r2 in
    let r4 = w.v4 ++ r3 in
    let r5 = w.v5 ++ r4 in
    let e6 = length-append w.v6 r5 in
    let e5 = length-append w.v5 r4 in
    let e4 = length-append w.v4 r3 in
    let e3 = length-append w.v3 r2 in
    let e2 = length-append w.v2 w.v1 in
    let l1 = h.first.long in
    let l2 = h.second.long in
    let l3 = h.third.long in
    let l4 = h.fourth.long in
    let l5 = h.fifth.long in
    let l6 = h.sixth.long in
    omega arith

stream_before : (w : Window) (one : List ℕ) → IsWindow w → (k : ℕ) → k < 93 → stream w one k ≡ window_byte w k
stream_before w one h k l =
    let long = all_long w h in
    ap (λ xs. get_or xs (3 + k) 0) (together w one) ∙ get_or-append (all_bytes w) one 0 (3 + k) (omega arith)

stream_new : (w : Window) (one : List ℕ) → IsWindow w → (j : ℕ) → stream w one (j + 93) ≡ get_or one j 0
stream_new w one h j =
    let e : 3 + (j + 93) - 96 ≡ j = omega arith in
    ap (λ xs. get_or xs (3 + (j + 93)) 0) (together w one)
    ∙ get_or-append_right (all_bytes w) one 96 (3 + (j + 93)) 0 (all_long w h) (omega arith)
    ∙ ap (λ i. get_or one i 0) e

stream_later : (w : Window) (one : List ℕ) → IsWindow w → (k : ℕ) → stream w one (16 + k) ≡ window_byte (pushed w one) k
stream_later w one h k =
    let e : 3 + (16 + k) - 16 ≡ 3 + k = omega arith in
    get_or-append_right w.v6 (all_bytes (pushed w one)) 16 (3 + (16 + k)) 0 h.sixth.long (omega arith)
    ∙ ap (λ i. get_or (all_bytes (pushed w one)) i 0) e

-- sixteen bytes, each of which is a new byte of the window and those at the nine places
pub window_on : (w : Window) (one : List ℕ) (m : ℕ → ℕ) → IsWindow w → IsVector one
    → ((j : ℕ) → j < 16 → m j ≡ bit_xor (get_or one j 0) (sum_at (λ c. window_byte w (j + c)) places))
    → after_some m 0 16 (pending (window_byte w) 0) ≡ pending (window_byte (pushed w one)) 0
window_on w one m h ho e =
    let g = stream w one in
    let small : (k : ℕ) → g k < 2 ^ 8 = λ k. append_small w.v6 (all_bytes (pushed w one)) h.sixth.bytes (all_small (pushed w one) (pushed_window w one h ho)) (3 + k) in
    let start : pending (window_byte w) 0 ≡ pending g 0 = pending_same (window_byte w) g 0 0 (λ j l.
    let z : 0 + j ≡ j = omega arith in ap (window_byte w) z ∙ sym (stream_before w one h j l) ∙ ap g (sym z)) in
    let each : (j : ℕ) → j < 16 → m j ≡ bit_xor (g (0 + j + 93)) (sum_at (λ c. g (0 + j + c)) places) = λ j l.
    let z : 0 + j ≡ j = omega arith in
    e j l
    ∙ both (sym (ap (λ i. g (i + 93)) z ∙ stream_new w one h j))
    (places_same (λ c. window_byte w (j + c)) (λ c. g (0 + j + c)) (λ c few. sym (ap (λ i. g (i + c)) z ∙ stream_before w one h (j + c) (omega arith)))) in
    ap (after_some m 0 16) start
    ∙ folded g m 0 16 small each
    ∙ pending_same g (window_byte (pushed w one)) (0 + 16) 0 (λ j l.
    let a : 0 + 16 + j ≡ 16 + j = omega arith in
    let z : 0 + j ≡ j = omega arith in
    ap g a ∙ stream_later w one h j ∙ ap (window_byte (pushed w one)) (sym z))

-- what the nine places add, where this was added to the bytes of a message
pub message_byte : (w : Window) (one next : List ℕ) (b : ℕ → ℕ) (n : ℕ) → ((j : ℕ) → j < 16 → get_or next j 0 ≡ b (n + j))
    → ((j : ℕ) → j < 16 → get_or one j 0 ≡ bit_xor (get_or next j 0) (sum_at (λ c. window_byte w (j + c)) places))
    → (j : ℕ) → j < 16 → b (n + j) ≡ bit_xor (get_or one j 0) (sum_at (λ c. window_byte w (j + c)) places)
message_byte w one next b n read made j l =
    sym (read j l) ∙ taken_away (get_or one j 0) (get_or next j 0) (sum_at (λ c. window_byte w (j + c)) places) (made j l)

-- sixteen bytes of a message are folded
pub fold_step : (w : Window) (one next : List ℕ) (b : ℕ → ℕ) (n r : ℕ) → IsWindow w → IsVector one
    → ((j : ℕ) → j < 16 → get_or next j 0 ≡ b (n + j))
    → ((j : ℕ) → j < 16 → get_or one j 0 ≡ bit_xor (get_or next j 0) (sum_at (λ c. window_byte w (j + c)) places))
    → pending (window_byte w) 0 ≡ after_some b 0 n r
    → pending (window_byte (pushed w one)) 0 ≡ after_some b 0 (n + 16) r
fold_step w one next b n r h ho read made was =
    sym (window_on w one (λ j. b (n + j)) h ho (message_byte w one next b n read made))
    ∙ ap (after_some (λ j. b (n + j)) 0 16) was
    ∙ sym (some_split b n 16 r)

zeros_are : (n i : ℕ) → get_or {A = ℕ} (replicate n 0) i 0 ≡ 0
zeros_are zero i = refl
zeros_are (suc n) zero = refl
zeros_are (suc n) (suc i) = zeros_are n i

zero_vector : IsVector (replicate 16 0)
zero_vector = is_vector (replicate 16 0) refl (λ i l. subst (λ y. y < 2 ^ 8) (sym (zeros_are 16 i)) (omega arith))

pub zeros_pushed : (w : Window) → IsWindow w → IsWindow (pushed w (replicate 16 0))
zeros_pushed w h = pushed_window w (replicate 16 0) h zero_vector

-- the window is added to sixteen bytes of a message, which the register takes in
pub unfold_step : (w : Window) (p next : List ℕ) (b : ℕ → ℕ) (n r s : ℕ) → IsWindow w → IsVector p
    → ((j : ℕ) → j < 16 → get_or next j 0 ≡ b (n + j))
    → ((j : ℕ) → j < 16 → get_or p j 0 ≡ bit_xor (get_or next j 0) (sum_at (λ c. window_byte w (j + c)) places))
    → r < 2 ^ 32 → after_some b 0 n s ≡ bit_xor r (pending (window_byte w) 0)
    → after_some b 0 (n + 16) s ≡ bit_xor (after_some (λ i. get_or p i 0) 0 16 r) (pending (window_byte (pushed w (replicate 16 0))) 0)
unfold_step w p next b n r s h hp read made hr was =
    let q = λ (j : ℕ). sum_at (λ c. window_byte w (j + c)) places in
    some_split b n 16 s
    ∙ ap (after_some (λ j. b (n + j)) 0 16) was
    ∙ side_by_side (λ j. b (n + j)) (λ i. get_or p i 0) q 16 r (pending (window_byte w) 0) hp.bytes (added_small w h) hr (pending-lt (window_byte w) 0 (window_small w h)) (message_byte w p next b n read made)
    ∙ ap (bit_xor (after_some (λ i. get_or p i 0) 0 16 r)) (window_on w (replicate 16 0) q h zero_vector (λ j l. sym (xor_zero_l (q j)) ∙ ap (λ y. bit_xor y (q j)) (sym (zeros_are 16 j))))

-- so many bytes of the window are left, and 0 stands behind them
pub record IsEmptied (n : ℕ) (w : Window) : Type 0 where
  pub empty : (k : ℕ) → 96 ≤ n + k → get_or (all_bytes w) k 0 ≡ 0

pub emptied_none : (w : Window) → IsWindow w → IsEmptied 0 w
emptied_none w h = record { empty = λ k l. let long = all_long w h in get_or_past (all_bytes w) k 0 (omega arith) }

pub emptied_on : (n : ℕ) (w : Window) → IsWindow w → IsEmptied n w → IsEmptied (n + 16) (pushed w (replicate 16 0))
emptied_on n w h was = record { empty = λ k l. case k (omega arith) (cases_lt (16 + k) 96) }
  where
    case : (k : ℕ) → 96 ≤ n + (16 + k) → (16 + k < 96) ⊎ (96 ≤ 16 + k) → get_or (all_bytes (pushed w (replicate 16 0))) k 0 ≡ 0
    case k l (inl few) =
        let e : length w.v6 + k ≡ 16 + k = let s = h.sixth.long in omega arith in
        let long = all_long w h in
        sym (get_or-append-add w.v6 (all_bytes (pushed w (replicate 16 0))) k 0)
        ∙ ap (λ i. get_or (w.v6 ++ all_bytes (pushed w (replicate 16 0))) i 0) e
        ∙ ap (λ xs. get_or xs (16 + k) 0) (together w (replicate 16 0))
        ∙ get_or-append (all_bytes w) (replicate 16 0) 0 (16 + k) (omega arith)
        ∙ was.empty (16 + k) l
    case k l (inr many) =
        let e : length w.v6 + k ≡ 16 + k = let s = h.sixth.long in omega arith in
        sym (get_or-append-add w.v6 (all_bytes (pushed w (replicate 16 0))) k 0)
        ∙ ap (λ i. get_or (w.v6 ++ all_bytes (pushed w (replicate 16 0))) i 0) e
        ∙ ap (λ xs. get_or xs (16 + k) 0) (together w (replicate 16 0))
        ∙ get_or-append_right (all_bytes w) (replicate 16 0) 96 (16 + k) 0 (all_long w h) many
        ∙ zeros_are 16 (16 + k - 96)

pub emptied_all : (w : Window) (r : ℕ) → IsEmptied 96 w → bit_xor r (pending (window_byte w) 0) ≡ r
emptied_all w r is = ap (bit_xor r) (pending_zero (window_byte w) 0 (λ k. is.empty (3 + k) (omega arith))) ∙ xor_zero_r r
