-- The text of a stream that goes on by one frame.
use Rattle.std.proofs.Common.{◌≡◌, ℕ, suc, ◌+◌, ◌^◌, ◌/◌, ◌≤◌, List, [], ◌∷◌, ◌++◌, length, take, drop, refl, ap, ◌∙◌, sym, arith, append_assoc, length-append, length-drop, Bool, true, false, cond}
use Rattle.std.specs.Prelude.{bit_xor}
use Rattle.std.proofs.Math.Seq.{take-length, take-append_seam, drop-append_seam}
use Rattle.std.proofs.lemmas.List.{append-nil, take-append-le, drop-append-le}
use Rattle.std.proofs.lemmas.Grind.{flat_map-append}
use Rattle.gfp_scrambler.specs.Register.{shifted, last_bits, scrambled}
use Rattle.gfp_frames.specs.CoreHeader.{core_header}
use Rattle.gfp_frames.specs.Area.{client_area, fcs_bytes}
use Rattle.gfp_frames.specs.GfpText.{Frame, Idle, area_of, areas_of, laid_out, text_of}
use Rattle.gfp_frames.specs.Maker.{MakerState, HasMade, begun, in_hand, fresh, made_frame}

pub length-scrambled : (r : ℕ) (plain : List ℕ) → length (scrambled r plain) ≡ length plain
unfolding scrambled
length-scrambled r [] = refl
length-scrambled r (p ∷ plain) = ap suc (length-scrambled (shifted r (bit_xor p (r / 2 ^ 35))) plain)

pub scrambled-append : (r : ℕ) (xs ys : List ℕ) → scrambled r (xs ++ ys) ≡ scrambled r xs ++ scrambled (last_bits r (scrambled r xs)) ys
unfolding scrambled last_bits
scrambled-append r [] ys = refl
scrambled-append r (x ∷ xs) ys =
    let sent = bit_xor x (r / 2 ^ 35) in ap (λ rest. sent ∷ rest) (scrambled-append (shifted r sent) xs ys)

pub last_bits-append : (r : ℕ) (xs ys : List ℕ) → last_bits r (xs ++ ys) ≡ last_bits (last_bits r xs) ys
unfolding last_bits
last_bits-append r [] ys = refl
last_bits-append r (x ∷ xs) ys = last_bits-append (shifted r x) xs ys

-- a last frame takes its area from what is left over
laid_out-push : (sent rest : List ℕ) (frames : List Frame) (frame : Frame) → length sent ≡ length (areas_of frames) → length rest ≡ length (area_of frame)
    → laid_out (sent ++ rest) (frames ++ frame ∷ []) ≡ laid_out sent frames ++ (core_header (length (area_of frame)) ++ rest)
unfolding laid_out
laid_out-push [] rest [] frame e all =
    append-nil (core_header (length (area_of frame)) ++ take (length (area_of frame)) rest)
    ∙ ap (λ y. core_header (length (area_of frame)) ++ y) (ap (λ n. take n rest) (sym all) ∙ take-length rest)
laid_out-push (x ∷ sent) rest [] frame e all = absurd (omega (arith, e))
laid_out-push sent rest (g ∷ frames) frame e all =
    let m = length (area_of g) in
    let total : length (areas_of (g ∷ frames)) ≡ m + length (areas_of frames) = length-append (area_of g) (areas_of frames) in
    let within : m ≤ length sent = omega arith in
    let left : length (drop m sent) ≡ length (areas_of frames) = (let d = length-drop m sent in omega arith) in
    let front : take m (sent ++ rest) ≡ take m sent = take-append-le m sent rest within in
    let back : drop m (sent ++ rest) ≡ drop m sent ++ rest = drop-append-le m sent rest within in
    ap (λ y. core_header m ++ y ++ laid_out (drop m (sent ++ rest)) (frames ++ frame ∷ [])) front
    ∙ ap (λ y. core_header m ++ take m sent ++ laid_out y (frames ++ frame ∷ [])) back
    ∙ ap (λ y. core_header m ++ take m sent ++ y) (laid_out-push (drop m sent) rest frames frame left all)
    ∙ sym (append_assoc (core_header m ++ take m sent) (laid_out (drop m sent) frames) (core_header (length (area_of frame)) ++ rest))

pub areas-push : (frames : List Frame) (frame : Frame) → areas_of (frames ++ frame ∷ []) ≡ areas_of frames ++ area_of frame
areas-push frames frame = flat_map-append area_of frames (frame ∷ []) ∙ ap (λ y. areas_of frames ++ y) (append-nil (area_of frame))

pub text-push : (frames : List Frame) (frame : Frame)
    → text_of (frames ++ frame ∷ []) ≡ text_of frames ++ (core_header (length (area_of frame)) ++ scrambled (last_bits 0 (scrambled 0 (areas_of frames))) (area_of frame))
unfolding text_of
text-push frames frame =
    let rest = scrambled (last_bits 0 (scrambled 0 (areas_of frames))) (area_of frame) in
    ap (λ areas. laid_out (scrambled 0 areas) (frames ++ frame ∷ [])) (areas-push frames frame)
    ∙ ap (λ sent. laid_out sent (frames ++ frame ∷ [])) (scrambled-append 0 (areas_of frames) (area_of frame))
    ∙ laid_out-push (scrambled 0 (areas_of frames)) rest frames frame (length-scrambled 0 (areas_of frames)) (length-scrambled (last_bits 0 (scrambled 0 (areas_of frames))) (area_of frame))

last-push : (frames : List Frame) (frame : Frame)
    → last_bits 0 (scrambled 0 (areas_of (frames ++ frame ∷ []))) ≡ last_bits (last_bits 0 (scrambled 0 (areas_of frames))) (scrambled (last_bits 0 (scrambled 0 (areas_of frames))) (area_of frame))
last-push frames frame =
    ap (λ areas. last_bits 0 (scrambled 0 areas)) (areas-push frames frame)
    ∙ ap (last_bits 0) (scrambled-append 0 (areas_of frames) (area_of frame))
    ∙ last_bits-append 0 (scrambled 0 (areas_of frames)) (scrambled (last_bits 0 (scrambled 0 (areas_of frames))) (area_of frame))

-- a maker with nothing in hand that begins a frame
pub frame_made : (frames : List Frame) (frame : Frame) (emitted : List ℕ) (old new : MakerState) → HasMade frames emitted old → old.hand ≡ [] → new ≡ made_frame (area_of frame) old.register
    → HasMade (frames ++ frame ∷ []) emitted new
frame_made frames frame emitted old new made none is =
    let all : emitted ≡ text_of frames = sym (append-nil emitted) ∙ ap (λ y. emitted ++ y) (sym none) ∙ made.text in
    let r = last_bits 0 (scrambled 0 (areas_of frames)) in
    let same : made_frame (area_of frame) old.register ≡ made_frame (area_of frame) r = ap (made_frame (area_of frame)) made.last in
    let now : new ≡ made_frame (area_of frame) r = is ∙ same in
    record {
      text = ap (λ m. emitted ++ m.hand) now ∙ ap (λ g. g ++ (core_header (length (area_of frame)) ++ scrambled r (area_of frame))) all ∙ sym (text-push frames frame);
      last = ap (λ m. m.register) now ∙ sym (last-push frames frame);
    }

pub fresh_made : (maker : MakerState) → maker ≡ fresh → HasMade (Idle ∷ []) [] maker
unfolding text_of laid_out scrambled last_bits core_header
fresh_made maker is = record {
  text = ap (λ m. m.hand) is ∙ sym (append-nil (core_header 0) ∙ append-nil (core_header 0));
  last = ap (λ m. m.register) is;
}

-- the next byte of what is in hand
given_on : (emitted : List ℕ) (byte : ℕ) (rest hand : List ℕ) → byte ∷ rest ≡ hand → (emitted ++ byte ∷ []) ++ rest ≡ emitted ++ hand
given_on emitted byte rest hand e = append_assoc emitted (byte ∷ []) rest ∙ ap (λ y. emitted ++ y) e

none_scrambled : (r : ℕ) → made_frame [] r ≡ record { hand = core_header 0; register = r }
unfolding scrambled last_bits core_header
none_scrambled r = refl

pub idle_made : (frames : List Frame) (emitted : List ℕ) (old new : MakerState) → HasMade frames emitted old → old.hand ≡ [] → new ≡ record old { hand = core_header 0 } → HasMade (frames ++ Idle ∷ []) emitted new
idle_made frames emitted old new made none is = frame_made frames Idle emitted old new made none (is ∙ sym (none_scrambled old.register))

byte_given_at : (hand : List ℕ) (frames : List Frame) (emitted : List ℕ) (byte : ℕ) (old new : MakerState) → old.hand ≡ hand → HasMade frames emitted old → byte ∷ new.hand ≡ in_hand hand
    → new.register ≡ old.register → HasMade (frames ++ begun hand) (emitted ++ byte ∷ []) new
byte_given_at [] frames emitted byte old new none made next same =
    let idle : MakerState = record { hand = core_header 0; register = old.register } in
    let now : HasMade (frames ++ Idle ∷ []) emitted idle = frame_made frames Idle emitted old idle made none (sym (none_scrambled old.register)) in
    record {
      text = given_on emitted byte new.hand (core_header 0) next ∙ now.text;
      last = same ∙ now.last;
    }
byte_given_at (x ∷ hand) frames emitted byte old new some made next same =
    let none : frames ++ [] ≡ frames = append-nil frames in
    record {
      text = given_on emitted byte new.hand (x ∷ hand) next ∙ ap (λ y. emitted ++ y) (sym some) ∙ made.text ∙ ap text_of (sym none);
      last = same ∙ made.last ∙ ap (λ f. last_bits 0 (scrambled 0 (areas_of f))) (sym none);
    }

pub byte_given : (frames : List Frame) (emitted : List ℕ) (byte : ℕ) (old new : MakerState) → HasMade frames emitted old → byte ∷ new.hand ≡ in_hand old.hand → new.register ≡ old.register
    → HasMade (frames ++ begun old.hand) (emitted ++ byte ∷ []) new
byte_given frames emitted byte old new made next same = byte_given_at old.hand frames emitted byte old new refl made next same

-- ---- sizes

pub header_size : (pli : ℕ) → length (core_header pli) ≡ 4
unfolding core_header
header_size pli = refl

pub header_some : (pli : ℕ) → core_header pli ≡ [] → ⊥
header_some pli e = let none = ap length e in let four = header_size pli in omega arith

pub area_size_of : (packet : List ℕ) (fcs : Bool) → length (client_area packet fcs) ≡ length packet + cond fcs 8 4
unfolding client_area
area_size_of packet true = omega (arith, length-append packet (fcs_bytes true packet))
area_size_of packet false = omega (arith, length-append packet [])

-- a frame is its header and its scrambled area
pub laid_frame : (header area before after : List ℕ) (n r : ℕ) → n ≡ length area → header ≡ core_header n → before ≡ header ++ area → after ≡ take 4 before ++ scrambled r (drop 4 before)
    → (after ≡ core_header (length area) ++ scrambled r area) × (drop 4 before ≡ area)
laid_frame header area before after n r size is all sent =
    let h : header ≡ core_header (length area) = is ∙ ap core_header size in
    let four : length header ≡ 4 = ap length h ∙ header_size (length area) in
    let front : take 4 before ≡ header = ap (take 4) all ∙ ap (λ k. take k (header ++ area)) (sym four) ∙ take-append_seam header area in
    let back : drop 4 before ≡ area = ap (drop 4) all ∙ ap (λ k. drop k (header ++ area)) (sym four) ∙ drop-append_seam header area in
    (sent ∙ ap (λ y. y ++ scrambled r (drop 4 before)) (front ∙ h) ∙ ap (λ y. core_header (length area) ++ scrambled r y) back, back)

pub made_is : (area after : List ℕ) (r last : ℕ) → after ≡ core_header (length area) ++ scrambled r area → last ≡ last_bits r (scrambled r area)
    → record { hand = after; register = last } ≡ made_frame area r
made_is area after r last e f =
    let state : List ℕ → ℕ → MakerState = λ h s. record { hand = h; register = s } in
    ap (λ h. state h last) e ∙ ap (state (core_header (length area) ++ scrambled r area)) f

pub in_hand-some : (hand : List ℕ) → in_hand hand ≡ [] → ⊥
in_hand-some [] e = header_some 0 e
in_hand-some (x ∷ hand) e = let none = ap length e in omega arith

pub in_hand-none : (hand : List ℕ) → hand ≡ [] → in_hand hand ≡ core_header 0
in_hand-none hand e = ap in_hand e

pub in_hand-same : (hand : List ℕ) → (hand ≡ [] → ⊥) → in_hand hand ≡ hand
in_hand-same [] some = absurd (some refl)
in_hand-same (x ∷ hand) some = refl
