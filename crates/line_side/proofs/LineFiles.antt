-- The file of a line: it is the only one for what is put into its frames, and it is read as it was written.
use Rattle.std.proofs.Common.{◌≡◌, ◌<◌, ◌+◌, ◌*◌, ◌/◌, ◌%◌, ℕ, true, false, List, [], ◌∷◌, ◌++◌, length, drop, get_or, arith, refl, sym, ap, ◌∙◌, subst}
use Rattle.std.proofs.Common.{◌≤◌, Some, suc, zero, take, append-nil, append_assoc}
use Rattle.std.specs.Prelude.{bit_xor, if◌then◌else◌, slice_get, reverse, option_map}
use Rattle.std.proofs.lemmas.List.{reverse-append}
use Rattle.std.proofs.Math.Seq.{take-suc}
use Rattle.frame_overhead.specs.Parity.{parity_of}
use Rattle.std.specs.Int.Bits.{xor_assoc, xor_self, xor_zero_r}
use Rattle.std.proofs.lemmas.List.{ext_get_or, get_or-drop, get_or-take, length-take}
use Rattle.std.proofs.Common.{length-drop}
use Rattle.std.proofs.lemmas.List.FromFn.{get_or-map-range_with_len}
use Rattle.frame_geometry.specs.Places.{place_of}
use Rattle.frame_overhead.specs.Runs.{IsPlace}
use Rattle.frame_overhead.specs.TwoBefore.{second, parity_due, or_zero}
use Rattle.otu_overhead.specs.Mask.{mask, mask_byte}
use Rattle.line_side.specs.LineForm.{masked_from}
use Rattle.line_side.specs.LineFile.{frame_at}
use Rattle.line_side.specs.LineOutput.{FramePut, IsLineFrame, AreLineFrames}
use Rattle.line_side.specs.Laws.{OneLineFile, FrameByFrame, ParityTwoOn, MaskedTwice, FramesThroughMask}
use Rattle.line_side.proofs.Masks.{frame_through, index_masked, index_mask}

-- a frame is fixed by what is put into it
one_frame : (n bip : ℕ) (put : FramePut) (some other : List ℕ) → IsLineFrame n bip put some → IsLineFrame n bip put other → some ≡ other
one_frame n bip put some other h k = ext_get_or 0 some other (h.size ∙ sym k.size) (λ i inside.
    let size = h.size in
    let place : IsPlace 4080 (i / 4080 + 1) (i % 4080 + 1) = record { row_low = omega arith; row_high = omega arith; col_low = omega arith; col_high = omega arith } in
    let here : place_of 4080 (i / 4080 + 1) (i % 4080 + 1) ≡ i = omega arith in
    let P : ℕ → Type 0 = λ p. get_or some p 0 ≡ get_or other p 0 in
    subst P here (h.byte (i / 4080 + 1) (i % 4080 + 1) place ∙ sym (k.byte (i / 4080 + 1) (i % 4080 + 1) place)))

pub one_file : OneLineFile
one_file n before [] [] [] h k = refl
one_file n before (put ∷ puts) (a ∷ some) (b ∷ others) h k =
    let same = one_frame n (or_zero (parity_due 4080 before)) put a b h.0 k.0 in
    let P : List ℕ → Type 0 = λ f. AreLineFrames n (before ++ f ∷ []) puts others in
    ap (λ f. f ∷ some) same ∙ ap (λ fs. b ∷ fs) (one_file n (before ++ b ∷ []) puts some others (let Q : List ℕ → Type 0 = λ f. AreLineFrames n (before ++ f ∷ []) puts some in subst Q same h.1) k.1)
one_file n before [] (a ∷ some) others h k = absurd h
one_file n before [] [] (b ∷ others) h k = absurd k
one_file n before (put ∷ puts) [] others h k = absurd h
one_file n before (put ∷ puts) (a ∷ some) [] h k = absurd k

masked_twice : (place : ℕ) (bytes : List ℕ) → masked_from place (masked_from place bytes) ≡ bytes
unfolding masked_from
masked_twice place [] = refl
masked_twice place (byte ∷ bytes) =
    let m = mask_byte (place % 16320) in
    ap (λ b. b ∷ masked_from (place + 1) (masked_from (place + 1) bytes)) (xor_assoc byte m m ∙ ap (bit_xor byte) (xor_self m) ∙ xor_zero_r byte)
    ∙ ap (λ bs. byte ∷ bs) (masked_twice (place + 1) bytes)

pub twice : MaskedTwice
twice true bytes = masked_twice 0 bytes
twice false bytes = refl

-- a byte of the file's frame
file_byte : (file : List ℕ) (f place : ℕ) → place < 16320 → get_or (frame_at file f) place 0 ≡ get_or file (16320 * f + place) 0
unfolding frame_at
file_byte file f place h = get_or-take 16320 (drop (16320 * f) file) place 0 h ∙ get_or-drop (16320 * f) file place 0

frame_long : (file : List ℕ) (f place : ℕ) → place < 16320 → 16320 * f + place < length file → place < length (frame_at file f)
unfolding frame_at
frame_long file f place h k = omega (arith, length-take 16320 (drop (16320 * f) file), length-drop (16320 * f) file)

no_mask : (place : ℕ) → place < 16320 → get_or (mask false) place 0 ≡ 0
unfolding mask
no_mask place h = get_or-map-range_with_len (λ place. if false then mask_byte place else 0) 0 16320 place place 0 h (omega arith)

pub through : FramesThroughMask
through false file f place h k = file_byte file f place h ∙ sym (ap (bit_xor (get_or file (16320 * f + place) 0)) (no_mask place h) ∙ xor_zero_r (get_or file (16320 * f + place) 0))
through true file f place h k =
    let p : (0 + place) % 16320 ≡ place = omega arith in
    ap (λ l. get_or l place 0) (frame_through true file f)
    ∙ index_masked 0 place (frame_at file f) (frame_long file f place h k)
    ∙ ap (λ q. bit_xor (get_or (frame_at file f) place 0) (mask_byte q)) p
    ∙ ap (λ b. bit_xor b (mask_byte place)) (file_byte file f place h)
    ∙ ap (bit_xor (get_or file (16320 * f + place) 0)) (sym (index_mask place h))

-- frame i of a line
frame_from : (n : ℕ) (before : List (List ℕ)) (puts : List FramePut) (frames : List (List ℕ)) (i : ℕ) (put : FramePut) (frame : List ℕ) → AreLineFrames n before puts frames
    → slice_get puts i ≡ Some put → slice_get frames i ≡ Some frame → IsLineFrame n (or_zero (parity_due 4080 (before ++ take i frames))) put frame
frame_from n before [] frames i put frame h e f = absurd (cc)
frame_from n before (p ∷ puts) [] i put frame h e f = absurd h
frame_from n before (p ∷ puts) (x ∷ frames) zero put frame h e f =
    let P : FramePut → Type 0 = λ p. IsLineFrame n (or_zero (parity_due 4080 before)) p x in
    let Q : List ℕ → Type 0 = λ x. IsLineFrame n (or_zero (parity_due 4080 before)) put x in
    let R : List (List ℕ) → Type 0 = λ b. IsLineFrame n (or_zero (parity_due 4080 b)) put frame in
    subst R (sym (append-nil before)) (subst Q (let s : x ≡ frame = cc in s) (subst P (let s : p ≡ put = cc in s) h.0))
frame_from n before (p ∷ puts) (x ∷ frames) (suc i) put frame h e f =
    let R : List (List ℕ) → Type 0 = λ b. IsLineFrame n (or_zero (parity_due 4080 b)) put frame in
    subst R (append_assoc before (x ∷ []) (take i frames)) (frame_from n (before ++ x ∷ []) puts frames i put frame h.1 e f)

pub frame_of : FrameByFrame
frame_of n puts frames i put frame h e f = frame_from n [] puts frames i put frame h e f

get_or_of : (frames : List (List ℕ)) (i : ℕ) (frame : List ℕ) → slice_get frames i ≡ Some frame → get_or frames i [] ≡ frame
get_or_of [] i frame e = absurd (cc)
get_or_of (x ∷ frames) zero frame e = cc
get_or_of (x ∷ frames) (suc i) frame e = get_or_of frames i frame e

-- the last but one of frames
last_but_one : (frames : List (List ℕ)) (i : ℕ) (frame : List ℕ) → slice_get frames i ≡ Some frame → i + 2 ≤ length frames → second (reverse (take (i + 2) frames)) ≡ Some frame
last_but_one frames i frame e h =
    let next = get_or frames (suc i) [] in
    let here : get_or frames i [] ≡ frame = get_or_of frames i frame e in
    let parts : take (i + 2) frames ≡ (take i frames ++ frame ∷ []) ++ next ∷ []
    = ap (λ k. take k frames) (let z : i + 2 ≡ suc (suc i) = omega arith in z)
    ∙ take-suc frames (suc i) [] (omega arith)
    ∙ ap (λ l. l ++ next ∷ []) (take-suc frames i [] (omega arith) ∙ ap (λ f. take i frames ++ f ∷ []) here) in
    ap (λ l. second (reverse l)) parts
    ∙ ap second (reverse-append (take i frames ++ frame ∷ []) (next ∷ []))
    ∙ ap (λ l. second (next ∷ l)) (reverse-append (take i frames) (frame ∷ []))

pub two_on : ParityTwoOn
two_on frames i frame e h = ap (option_map (parity_of 4080)) (last_but_one frames i frame e h)
