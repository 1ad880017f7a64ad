-- Several bytes more through the register.
use Rattle.std.proofs.Common.{◌≡◌, ℕ, suc, ◌+◌, ◌-◌, ◌/◌, ◌^◌, ◌≤◌, List, [], ◌∷◌, ◌++◌, length, take, drop, refl, ap, ◌∙◌, sym, arith, append_assoc, length-append, length-drop}
use Rattle.std.specs.Prelude.{bit_xor}
use Rattle.std.proofs.lemmas.List.{take_at, drop_at, take_rest, take-append-drop, drop-drop, length-take-le, append-nil}
use Rattle.std.proofs.Math.ListN.{drop_of_length-le}
use borrow.Rule.Slice.PartMut.{put_mid}
use Rattle.gfp_scrambler.specs.Register.{shifted, last_bits, scrambled, descrambled}
use Rattle.gfp_scrambler.proofs.Steps.{last_bits-append}

scrambled-append : (r : ℕ) (xs ys : List ℕ) → scrambled r (xs ++ ys) ≡ scrambled r xs ++ scrambled (last_bits r (scrambled r xs)) ys
unfolding scrambled last_bits
scrambled-append r [] ys = refl
scrambled-append r (x ∷ xs) ys =
    let sent = bit_xor x (r / 2 ^ 35) in ap (λ rest. sent ∷ rest) (scrambled-append (shifted r sent) xs ys)

pub descrambled-append : (r : ℕ) (xs ys : List ℕ) → descrambled r (xs ++ ys) ≡ descrambled r xs ++ descrambled (last_bits r xs) ys
unfolding descrambled last_bits
descrambled-append r [] ys = refl
descrambled-append r (x ∷ xs) ys = ap (λ rest. bit_xor x (r / 2 ^ 35) ∷ rest) (descrambled-append (shifted r x) xs ys)

-- eight bytes of a list in place of those that stand at k
pub record Puts (s : List ℕ) (k : ℕ) (eight s' : List ℕ) : Type 0 where
  pub front : take (k + 8) s' ≡ take k s ++ eight
  pub rest : drop (k + 8) s' ≡ drop (k + 8) s
  pub size : length s' ≡ length s

pub puts : (s : List ℕ) (k : ℕ) (eight s' : List ℕ) → k + 8 ≤ length s → length eight ≡ 8 → s' ≡ take k s ++ (eight ++ drop (k + 8) s) → Puts s k eight s'
puts s k eight s' h size is =
    let front = take k s ++ eight in
    let few : length (take k s) ≡ k = length-take-le k s (omega arith) in
    let long : length front ≡ k + 8 = (let e = length-append (take k s) eight in omega arith) in
    let all : s' ≡ front ++ drop (k + 8) s = is ∙ sym (append_assoc (take k s) eight (drop (k + 8) s)) in
    let total : length (front ++ drop (k + 8) s) ≡ length s = (let e = length-append front (drop (k + 8) s) in let d = length-drop (k + 8) s in omega arith) in
    record {
      front = ap (take (k + 8)) all ∙ take_at front (drop (k + 8) s) (k + 8) long;
      rest = ap (drop (k + 8)) all ∙ drop_at front (drop (k + 8) s) (k + 8) long;
      size = ap length all ∙ total;
    }

-- eight bytes and the rest
eight_first : (s : List ℕ) (k : ℕ) → drop k s ≡ take 8 (drop k s) ++ drop (k + 8) s
eight_first s k = sym (take-append-drop 8 (drop k s)) ∙ ap (λ y. take 8 (drop k s) ++ y) (drop-drop 8 k s)

-- eight bytes are sent
pub sent_eight : (s : List ℕ) (k r last : ℕ) (sent s' : List ℕ) → Puts s k sent s' → sent ≡ scrambled r (take 8 (drop k s)) → last ≡ last_bits r sent
    → take (k + 8) s' ++ scrambled last (drop (k + 8) s') ≡ take k s ++ scrambled r (drop k s)
sent_eight s k r last sent s' put is after =
    let eight = take 8 (drop k s) in
    let rest = drop (k + 8) s in
    let split : scrambled r (drop k s) ≡ sent ++ scrambled last rest =
    ap (scrambled r) (eight_first s k) ∙ scrambled-append r eight rest
    ∙ ap (λ y. y ++ scrambled (last_bits r y) rest) (sym is)
    ∙ ap (λ x. sent ++ scrambled x rest) (sym after) in
    ap (λ y. y ++ scrambled last (drop (k + 8) s')) put.front
    ∙ ap (λ y. (take k s ++ sent) ++ scrambled last y) put.rest
    ∙ append_assoc (take k s) sent (scrambled last rest)
    ∙ ap (λ y. take k s ++ y) (sym split)

-- and the register then holds the last of them
pub last_eight : (s : List ℕ) (k r0 r last : ℕ) (sent s' : List ℕ) → Puts s k sent s' → r ≡ last_bits r0 (take k s) → last ≡ last_bits r sent → last ≡ last_bits r0 (take (k + 8) s')
last_eight s k r0 r last sent s' put was after =
    after ∙ ap (λ x. last_bits x sent) was ∙ sym (last_bits-append r0 (take k s) sent) ∙ ap (last_bits r0) (sym put.front)

-- eight bytes are sent, and eight more
pub sent_sixteen : (s : List ℕ) (k r last : ℕ) (sent next s' s'' : List ℕ) → Puts s k sent s' → Puts s' (k + 8) next s''
    → sent ≡ scrambled r (take 8 (drop k s)) → next ≡ scrambled (last_bits r sent) (take 8 (drop (k + 8) s')) → last ≡ last_bits (last_bits r sent) next
    → take (k + 16) s'' ++ scrambled last (drop (k + 16) s'') ≡ take k s ++ scrambled r (drop k s)
sent_sixteen s k r last sent next s' s'' put more is then after =
    let both : k + 16 ≡ k + 8 + 8 = omega arith in
    ap (λ n. take n s'' ++ scrambled last (drop n s'')) both
    ∙ sent_eight s' (k + 8) (last_bits r sent) last next s'' more then after
    ∙ sent_eight s k r (last_bits r sent) sent s' put is refl

pub last_sixteen : (s : List ℕ) (k r0 r last : ℕ) (sent next s' s'' : List ℕ) → Puts s k sent s' → Puts s' (k + 8) next s''
    → r ≡ last_bits r0 (take k s) → last ≡ last_bits (last_bits r sent) next → last ≡ last_bits r0 (take (k + 16) s'')
last_sixteen s k r0 r last sent next s' s'' put more was after =
    let both : k + 16 ≡ k + 8 + 8 = omega arith in
    last_eight s' (k + 8) r0 (last_bits r sent) last next s'' more (last_eight s k r0 r (last_bits r sent) sent s' put was refl) after
    ∙ ap (λ n. last_bits r0 (take n s'')) (sym both)

-- the eight bytes that came from place k on, and those after them
plain_split : (got : List ℕ) (k r last : ℕ) (plain : List ℕ) → plain ≡ descrambled r (take 8 (drop k got)) → last ≡ last_bits r (take 8 (drop k got))
    → descrambled r (drop k got) ≡ plain ++ descrambled last (drop (k + 8) got)
plain_split got k r last plain is after =
    let eight = take 8 (drop k got) in
    let rest = drop (k + 8) got in
    ap (descrambled r) (eight_first got k) ∙ descrambled-append r eight rest
    ∙ ap (λ y. y ++ descrambled (last_bits r eight) rest) (sym is)
    ∙ ap (λ x. plain ++ descrambled x rest) (sym after)

-- they are put plain where they stand in another list
pub plain_over : (got s : List ℕ) (k r last : ℕ) (plain s' : List ℕ) → Puts s k plain s' → plain ≡ descrambled r (take 8 (drop k got)) → last ≡ last_bits r (take 8 (drop k got))
    → take (k + 8) s' ++ descrambled last (drop (k + 8) got) ≡ take k s ++ descrambled r (drop k got)
plain_over got s k r last plain s' put is after =
    let left = descrambled last (drop (k + 8) got) in
    ap (λ y. y ++ left) put.front
    ∙ append_assoc (take k s) plain left
    ∙ ap (λ y. take k s ++ y) (sym (plain_split got k r last plain is after))

-- eight bytes came
pub plain_eight : (s : List ℕ) (k r last : ℕ) (plain s' : List ℕ) → Puts s k plain s' → plain ≡ descrambled r (take 8 (drop k s)) → last ≡ last_bits r (take 8 (drop k s))
    → take (k + 8) s' ++ descrambled last (drop (k + 8) s') ≡ take k s ++ descrambled r (drop k s)
plain_eight s k r last plain s' put is after =
    ap (λ y. take (k + 8) s' ++ descrambled last y) put.rest ∙ plain_over s s k r last plain s' put is after

pub came_on : (got : List ℕ) (k r last : ℕ) → last ≡ last_bits r (take 8 (drop k got)) → last_bits last (drop (k + 8) got) ≡ last_bits r (drop k got)
came_on got k r last after =
    ap (λ x. last_bits x (drop (k + 8) got)) after
    ∙ sym (last_bits-append r (take 8 (drop k got)) (drop (k + 8) got)) ∙ ap (last_bits r) (sym (eight_first got k))

pub rest_came : (s : List ℕ) (k r last : ℕ) (plain s' : List ℕ) → Puts s k plain s' → last ≡ last_bits r (take 8 (drop k s)) → last_bits last (drop (k + 8) s') ≡ last_bits r (drop k s)
rest_came s k r last plain s' put after = ap (last_bits last) put.rest ∙ came_on s k r last after

-- the end of a list, put in its place
pub end_put : (s : List ℕ) (k : ℕ) (ys : List ℕ) → k ≤ length s → length ys ≡ length s - k → put_mid k (length s - k) s ys ≡ take k s ++ ys
end_put s k ys h size =
    let none : drop (length s - k) (drop k s) ≡ [] = drop_of_length-le (drop k s) (let e = length-drop k s in omega arith) in
    ap (λ y. take k s ++ (ys ++ y)) none ∙ ap (λ y. take k s ++ y) (append-nil ys)

pub length-scrambled : (r : ℕ) (plain : List ℕ) → length (scrambled r plain) ≡ length plain
unfolding scrambled
length-scrambled r [] = refl
length-scrambled r (p ∷ plain) = ap suc (length-scrambled (shifted r (bit_xor p (r / 2 ^ 35))) plain)

pub length-descrambled : (r : ℕ) (got : List ℕ) → length (descrambled r got) ≡ length got
unfolding descrambled
length-descrambled r [] = refl
length-descrambled r (g ∷ got) = ap suc (length-descrambled (shifted r g) got)

end_size : (s : List ℕ) (k : ℕ) → length (take (length s - k) (drop k s)) ≡ length s - k
end_size s k = ap length (take_rest s k) ∙ length-drop k s

pub sent_end : (s : List ℕ) (k r : ℕ) (ys : List ℕ) → k ≤ length s → ys ≡ scrambled r (take (length s - k) (drop k s)) → put_mid k (length s - k) s ys ≡ take k s ++ scrambled r (drop k s)
sent_end s k r ys h is =
    end_put s k ys h (ap length is ∙ length-scrambled r (take (length s - k) (drop k s)) ∙ end_size s k)
    ∙ ap (λ y. take k s ++ y) (is ∙ ap (scrambled r) (take_rest s k))

pub last_end : (s : List ℕ) (k r0 r last : ℕ) (ys : List ℕ) → k ≤ length s → ys ≡ scrambled r (take (length s - k) (drop k s)) → r ≡ last_bits r0 (take k s) → last ≡ last_bits r ys
    → last ≡ last_bits r0 (put_mid k (length s - k) s ys)
last_end s k r0 r last ys h is was after =
    after ∙ ap (λ x. last_bits x ys) was ∙ sym (last_bits-append r0 (take k s) ys)
    ∙ ap (last_bits r0) (sym (end_put s k ys h (ap length is ∙ length-scrambled r (take (length s - k) (drop k s)) ∙ end_size s k)))

pub plain_end : (s : List ℕ) (k r : ℕ) (ys : List ℕ) → k ≤ length s → ys ≡ descrambled r (take (length s - k) (drop k s)) → put_mid k (length s - k) s ys ≡ take k s ++ descrambled r (drop k s)
plain_end s k r ys h is =
    end_put s k ys h (ap length is ∙ length-descrambled r (take (length s - k) (drop k s)) ∙ end_size s k)
    ∙ ap (λ y. take k s ++ y) (is ∙ ap (descrambled r) (take_rest s k))
