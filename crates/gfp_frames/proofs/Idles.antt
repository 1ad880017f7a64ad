-- Idle frames one after another.
use Rattle.std.proofs.Common.{◌≡◌, ℕ, zero, suc, ◌+◌, ◌-◌, ◌*◌, ◌/◌, ◌%◌, ◌<◌, ◌≤◌, List, [], ◌∷◌, ◌++◌, length, get_or, ◌⊎◌, inl, inr, take, drop, refl, ap, ◌∙◌, sym, arith, append_assoc, length-append, length-drop}
use Rattle.std.specs.Prelude.{replicate, min}
use Rattle.std.proofs.Math.Seq.{take-length}
use Rattle.std.proofs.lemmas.List.{append-nil, take_at, take-take, take-append-drop, drop-drop, length-take-le, ext_get_or, get_or-take, get_or-append_right}
use Rattle.std.proofs.lemmas.Bool.{cases_lt}
use Rattle.std.proofs.Math.ListN.{get_or-append}
use Rattle.std.proofs.lemmas.Slice.{take-put_mid}
use borrow.Rule.Slice.PartMut.{put_mid}
use Rattle.gfp_scrambler.specs.Register.{last_bits, scrambled}
use Rattle.gfp_frames.specs.CoreHeader.{core_header}
use Rattle.gfp_frames.specs.GfpText.{Frame, Idle, areas_of, text_of}
use Rattle.gfp_frames.specs.Maker.{MakerState, HasMade, idles_begun, idle_bytes}
use Rattle.gfp_frames.proofs.Lists.{all_dropped}
use Rattle.gfp_frames.proofs.Texts.{text-push, areas-push, header_size}
use Rattle.crc_small.specs.LongDivision.{crc16_of, check_of, remainder_from, bits_of, low_bits}

pub idle_frame : core_header 0 ≡ 0xB6 ∷ 0xAB ∷ 0x31 ∷ 0xE0 ∷ []
unfolding core_header crc16_of check_of remainder_from bits_of low_bits
idle_frame = refl

-- one more idle frame, at the end
pub idle-push : (n : ℕ) → idle_bytes (suc n) ≡ idle_bytes n ++ core_header 0
idle-push zero = append-nil (core_header 0)
idle-push (suc n) = ap (λ y. core_header 0 ++ y) (idle-push n) ∙ sym (append_assoc (core_header 0) (idle_bytes n) (core_header 0))

pub idle_more : (n m : ℕ) → n % 4 ≡ 0 → m ≡ n + 4 → idle_bytes (n / 4) ++ core_header 0 ≡ idle_bytes (m / 4)
idle_more n m h e = sym (idle-push (n / 4)) ∙ ap idle_bytes (let f : suc (n / 4) ≡ m / 4 = omega arith in f)

pub idle_size : (n : ℕ) → length (idle_bytes n) ≡ 4 * n
idle_size zero = refl
idle_size (suc n) = length-append (core_header 0) (idle_bytes n) ∙ (let h = header_size 0 in let r = idle_size n in omega arith)

-- some and some more
pub idles_join : (n m : ℕ) → idle_bytes n ++ idle_bytes m ≡ idle_bytes (n + m)
idles_join zero m = ap idle_bytes (let e : m ≡ 0 + m = omega arith in e)
idles_join (suc n) m =
    append_assoc (core_header 0) (idle_bytes n) (idle_bytes m) ∙ ap (λ y. core_header 0 ++ y) (idles_join n m) ∙ ap idle_bytes (let e : suc (n + m) ≡ suc n + m = omega arith in e)

pub sixteen_idles : idle_bytes 16 ≡ 0xB6 ∷ 0xAB ∷ 0x31 ∷ 0xE0 ∷ 0xB6 ∷ 0xAB ∷ 0x31 ∷ 0xE0 ∷ 0xB6 ∷ 0xAB ∷ 0x31 ∷ 0xE0 ∷ 0xB6 ∷ 0xAB ∷ 0x31 ∷ 0xE0 ∷ 0xB6 ∷ 0xAB ∷ 0x31 ∷ 0xE0 ∷ 0xB6 ∷ 0xAB ∷ 0x31 ∷ 0xE0 ∷ 0xB6 ∷ 0xAB ∷ 0x31 ∷ 0xE0 ∷ 0xB6 ∷ 0xAB ∷ 0x31 ∷ 0xE0 ∷ 0xB6 ∷ 0xAB ∷ 0x31 ∷ 0xE0 ∷ 0xB6 ∷ 0xAB ∷ 0x31 ∷ 0xE0 ∷ 0xB6 ∷ 0xAB ∷ 0x31 ∷ 0xE0 ∷ 0xB6 ∷ 0xAB ∷ 0x31 ∷ 0xE0 ∷ 0xB6 ∷ 0xAB ∷ 0x31 ∷ 0xE0 ∷ 0xB6 ∷ 0xAB ∷ 0x31 ∷ 0xE0 ∷ 0xB6 ∷ 0xAB ∷ 0x31 ∷ 0xE0 ∷ 0xB6 ∷ 0xAB ∷ 0x31 ∷ 0xE0 ∷ []
unfolding core_header crc16_of check_of remainder_from bits_of low_bits
sixteen_idles = refl

-- ---- a maker

one_idle : (frames : List Frame) → text_of (frames ++ Idle ∷ []) ≡ text_of frames ++ core_header 0
unfolding scrambled
one_idle frames = text-push frames Idle ∙ ap (λ y. text_of frames ++ y) (append-nil (core_header 0))

first_of_idles : (frames : List Frame) (n : ℕ) → frames ++ replicate (suc n) Idle ≡ (frames ++ Idle ∷ []) ++ replicate n Idle
first_of_idles frames n = sym (append_assoc frames (Idle ∷ []) (replicate n Idle))

text_idle : (n : ℕ) (frames : List Frame) → text_of (frames ++ replicate n Idle) ≡ text_of frames ++ idle_bytes n
text_idle zero frames = ap text_of (append-nil frames) ∙ sym (append-nil (text_of frames))
text_idle (suc n) frames =
    ap text_of (first_of_idles frames n) ∙ text_idle n (frames ++ Idle ∷ [])
    ∙ ap (λ y. y ++ idle_bytes n) (one_idle frames)
    ∙ append_assoc (text_of frames) (core_header 0) (idle_bytes n)

areas_idle : (n : ℕ) (frames : List Frame) → areas_of (frames ++ replicate n Idle) ≡ areas_of frames
areas_idle zero frames = ap areas_of (append-nil frames)
areas_idle (suc n) frames =
    ap areas_of (first_of_idles frames n) ∙ areas_idle n (frames ++ Idle ∷ []) ∙ areas-push frames Idle ∙ append-nil (areas_of frames)

-- some bytes of the frame in hand
pub some_given : (frames : List Frame) (emitted bytes : List ℕ) (old new : MakerState) → HasMade frames emitted old → bytes ++ new.hand ≡ old.hand → new.register ≡ old.register
    → HasMade frames (emitted ++ bytes) new
some_given frames emitted bytes old new made e same = record {
  text = append_assoc emitted bytes new.hand ∙ ap (λ y. emitted ++ y) e ∙ made.text;
  last = same ∙ made.last;
}

-- the frame in hand, and then idle frames
pub idles_given : (frames : List Frame) (emitted bytes : List ℕ) (old new : MakerState) (n : ℕ) → HasMade frames emitted old → bytes ++ new.hand ≡ old.hand ++ idle_bytes n → new.register ≡ old.register
    → HasMade (frames ++ replicate n Idle) (emitted ++ bytes) new
idles_given frames emitted bytes old new n made e same = record {
  text =
      append_assoc emitted bytes new.hand ∙ ap (λ y. emitted ++ y) e ∙ sym (append_assoc emitted old.hand (idle_bytes n))
      ∙ ap (λ y. y ++ idle_bytes n) made.text ∙ sym (text_idle n frames);
  last = same ∙ made.last ∙ ap (λ a. last_bits 0 (scrambled 0 a)) (sym (areas_idle n frames));
}

-- one more idle frame, put in its place
pub idle_put : (s : List ℕ) (at k : ℕ) (four : List ℕ) → at + 4 ≤ length s → k ≡ 4 → four ≡ 0xB6 ∷ 0xAB ∷ 0x31 ∷ 0xE0 ∷ [] → at % 4 ≡ 0 → take at s ≡ idle_bytes (at / 4)
    → (at + 4 ≤ length (put_mid at k s four)) × (take (at + 4) (put_mid at k s four) ≡ idle_bytes ((at + 4) / 4))
idle_put s at k four h size is whole before =
    let few : length four ≡ 4 = ap length is in
    let front : length (take at s) ≡ at = length-take-le at s (omega arith) in
    let long = length-append (take at s) (four ++ drop k (drop at s)) in
    let long_too = length-append four (drop k (drop at s)) in (
      omega arith,
      take-put_mid at k s four (at + 4) (omega arith) (omega arith)
          ∙ ap (λ y. y ++ four) before ∙ ap (λ y. idle_bytes (at / 4) ++ y) (is ∙ sym idle_frame)
          ∙ idle_more at (at + 4) whole refl,
    )

-- sixteen of them
pub idles_put : (s : List ℕ) (at k : ℕ) (sixteen : List ℕ) → at + 64 ≤ length s → k ≡ 64 → sixteen ≡ idle_bytes 16
    → at % 4 ≡ 0 → take at s ≡ idle_bytes (at / 4) → (at + 64 ≤ length (put_mid at k s sixteen)) × (take (at + 64) (put_mid at k s sixteen) ≡ idle_bytes ((at + 64) / 4))
idles_put s at k sixteen h size is whole before =
    let few : length sixteen ≡ 64 = ap length is ∙ idle_size 16 in
    let front : length (take at s) ≡ at = length-take-le at s (omega arith) in
    let long = length-append (take at s) (sixteen ++ drop k (drop at s)) in
    let long_too = length-append sixteen (drop k (drop at s)) in (
      omega arith,
      take-put_mid at k s sixteen (at + 64) (omega arith) (omega arith)
          ∙ ap (λ y. y ++ sixteen) before ∙ ap (λ y. idle_bytes (at / 4) ++ y) is
          ∙ idles_join (at / 4) 16 ∙ ap idle_bytes (let e : at / 4 + 16 ≡ (at + 64) / 4 = omega arith in e),
    )

-- the front of what is left of a frame, and the rest of it
pub front_given : (items new rest hand : List ℕ) (emitted count k : ℕ) → k ≡ count → emitted + count ≤ length items → drop emitted items ≡ hand → new ≡ take k (drop emitted items) ++ rest
    → take count new ++ drop (emitted + count) items ≡ hand
front_given items new rest hand emitted count k same within is e =
    let part = take count (drop emitted items) in
    let size : length part ≡ count = length-take-le count (drop emitted items) (let d = length-drop emitted items in omega arith) in
    ap (λ y. take count y ++ drop (emitted + count) items) (e ∙ ap (λ n. take n (drop emitted items) ++ rest) same)
    ∙ ap (λ y. y ++ drop (emitted + count) items) (take_at part rest count size)
    ∙ ap (λ y. part ++ y) (sym (drop-drop count emitted items))
    ∙ take-append-drop count (drop emitted items)
    ∙ is

-- ---- parts of a slice

pub none_of_length : {X : Type 0} (xs : List X) → length xs ≡ 0 → xs ≡ []
none_of_length [] e = refl
none_of_length (x ∷ xs) e = absurd (omega arith)

-- the end of a list, put in its place
pub end_put : (s : List ℕ) (k : ℕ) (ys : List ℕ) → put_mid k (length s - k) s ys ≡ take k s ++ ys
end_put s k ys =
    let none : drop (length s - k) (drop k s) ≡ [] = all_dropped (drop k s) (length s - k) (let e = length-drop k s in omega arith) in
    ap (λ y. take k s ++ (ys ++ y)) none ∙ ap (λ y. take k s ++ y) (append-nil ys)

-- whole idle frames, and the front of one more
pub idle_end : (whole_frames others ys hand : List ℕ) (n whole count : ℕ) → whole ≡ n / 4 * 4 → whole < n → length whole_frames ≡ whole → whole_frames ≡ idle_bytes (whole / 4)
    → length ys ≡ n - whole → count ≡ n - whole → take count ys ++ hand ≡ core_header 0
    → put_mid whole (length (whole_frames ++ others) - whole) (whole_frames ++ others) ys ++ hand ≡ idle_bytes ((n + 3) / 4)
idle_end whole_frames others ys hand n whole count is part size idles rest all last =
    let same : take count ys ≡ ys = ap (λ k. take k ys) (all ∙ sym rest) ∙ take-length ys in
    ap (λ y. y ++ hand) (end_put (whole_frames ++ others) whole ys ∙ ap (λ y. y ++ ys) (take_at whole_frames others whole size))
    ∙ append_assoc whole_frames ys hand
    ∙ ap (λ y. whole_frames ++ (y ++ hand)) (sym same)
    ∙ ap (λ y. whole_frames ++ y) last
    ∙ ap (λ y. y ++ core_header 0) idles
    ∙ sym (idle-push (whole / 4))
    ∙ ap idle_bytes (let e : suc (whole / 4) ≡ (n + 3) / 4 = omega arith in e)

-- the frame in hand to its end, and idle frames after it
pub filled : (frames : List Frame) (emitted : List ℕ) (old mid new : MakerState) (into rest : List ℕ) (n count m : ℕ) → HasMade frames emitted old
    → count ≡ min (length old.hand) n → count < n → length into ≡ n → take count into ++ mid.hand ≡ old.hand → mid.register ≡ old.register
    → m ≡ n - count → rest ++ new.hand ≡ idle_bytes ((m + 3) / 4) → new.register ≡ mid.register
    → HasMade (frames ++ replicate (idles_begun old.hand n) Idle) (emitted ++ put_mid count (length into - count) into rest) new
filled frames emitted old mid new into rest n count m made is short size front same left idles same_too =
    let given_all : count ≡ length old.hand = omega arith in
    let read : length (take count into) ≡ count = length-take-le count into (omega arith) in
    let none : mid.hand ≡ [] = none_of_length mid.hand (let e = length-append (take count into) mid.hand in let f = ap length front in omega arith) in
    let hand : take count into ≡ old.hand = sym (append-nil (take count into)) ∙ ap (λ y. take count into ++ y) (sym none) ∙ front in
    let bytes : put_mid count (length into - count) into rest ++ new.hand ≡ old.hand ++ idle_bytes (idles_begun old.hand n) =
    ap (λ y. y ++ new.hand) (end_put into count rest ∙ ap (λ y. y ++ rest) hand)
    ∙ append_assoc old.hand rest new.hand
    ∙ ap (λ y. old.hand ++ y) idles
    ∙ ap (λ k. old.hand ++ idle_bytes ((k + 3) / 4)) (left ∙ ap (λ k. n - k) given_all) in
    idles_given frames emitted (put_mid count (length into - count) into rest) old new (idles_begun old.hand n) made bytes (same_too ∙ same)

-- the front of some idle frames, in whole frames
idles_front : (n m : ℕ) → m ≤ n → take (4 * m) (idle_bytes n) ≡ idle_bytes m
idles_front n m h =
    let e : m + (n - m) ≡ n = omega arith in
    ap (λ k. take (4 * m) (idle_bytes k)) (sym e)
    ∙ ap (take (4 * m)) (sym (idles_join m (n - m)))
    ∙ take_at (idle_bytes m) (idle_bytes (n - m)) (4 * m) (idle_size m)

-- a list whose front of `count` stands once more at `at`
front_again : (old new : List ℕ) (at count : ℕ) → count ≤ at → at + count ≤ length old → length new ≡ length old
    → ((k d : ℕ) → at ≤ k → k < at + count → get_or new k d ≡ get_or old (k - at) d) → ((k d : ℕ) → k < at → get_or new k d ≡ get_or old k d)
    → take (at + count) new ≡ take at old ++ take count old
front_again old new at count few h same copied below =
    let a : length (take (at + count) new) ≡ at + count = length-take-le (at + count) new (omega arith) in
    let b : length (take at old) ≡ at = length-take-le at old (omega arith) in
    let c : length (take count old) ≡ count = length-take-le count old (omega arith) in
    let d = length-append (take at old) (take count old) in
    ext_get_or 0 (take (at + count) new) (take at old ++ take count old) (omega arith) (λ i l. case i (omega arith) (cases_lt i at))
  where
    case : (i : ℕ) → i < at + count → (i < at) ⊎ (at ≤ i) → get_or (take (at + count) new) i 0 ≡ get_or (take at old ++ take count old) i 0
    case i l (inl low) =
        let b : length (take at old) ≡ at = length-take-le at old (omega arith) in
        get_or-take (at + count) new i 0 l ∙ below i 0 low ∙ sym (get_or-take at old i 0 low) ∙ sym (get_or-append (take at old) (take count old) 0 i (omega arith))
    case i l (inr high) =
        let b : length (take at old) ≡ at = length-take-le at old (omega arith) in
        get_or-take (at + count) new i 0 l ∙ copied i 0 high l ∙ sym (get_or-take count old (i - at) 0 (omega arith)) ∙ sym (get_or-append_right (take at old) (take count old) at i 0 b high)

-- the front of some idle frames once more, behind them
pub idles_again : (s new : List ℕ) (at count : ℕ) → count ≤ at → at + count ≤ length s → at % 4 ≡ 0 → count % 4 ≡ 0 → take at s ≡ idle_bytes (at / 4) → length new ≡ length s
    → ((k d : ℕ) → at ≤ k → k < at + count → get_or new k d ≡ get_or s (k - at) d) → ((k d : ℕ) → k < at → get_or new k d ≡ get_or s k d)
    → take (at + count) new ≡ idle_bytes ((at + count) / 4)
idles_again s new at count few h whole frames before same copied below =
    let part : take count s ≡ idle_bytes (count / 4) =
    sym (take-take count at s few)
    ∙ ap (take count) before
    ∙ ap (λ k. take k (idle_bytes (at / 4))) (let e : count ≡ 4 * (count / 4) = omega arith in e)
    ∙ idles_front (at / 4) (count / 4) (omega arith) in
    front_again s new at count few h same copied below
    ∙ ap (λ y. y ++ take count s) before ∙ ap (λ y. idle_bytes (at / 4) ++ y) part
    ∙ idles_join (at / 4) (count / 4) ∙ ap idle_bytes (let e : at / 4 + count / 4 ≡ (at + count) / 4 = omega arith in e)
