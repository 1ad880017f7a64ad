-- Of any first bytes of a stream exactly the areas are found, and the packets delivered, whose frames are whole in
-- them.
use Rattle.std.proofs.Common.{◌≡◌, ℕ, zero, suc, ◌+◌, ◌-◌, ◌*◌, ◌/◌, ◌%◌, ◌^◌, ◌<◌, ◌≤◌, ◌⊎◌, List, [], ◌∷◌, ◌++◌, Bool, true, false, cond, Some, None, length, take, drop, get_or, refl, ap, ◌∙◌, sym, arith, inl, inr, append_assoc, length-append, length-drop, length-take}
use Rattle.std.specs.Prelude.{All, map, bit_xor, nat_lt, replicate, ◌==◌, ◌&&◌, option_to_list}
use Rattle.std.specs.Int.Bits.{xor_self, xor_assoc, xor_zero_r}
use Rattle.std.proofs.Math.Seq.{take-append_seam, drop-append_seam, take-append-add}
use Rattle.std.proofs.lemmas.List.{get_or-append-add, append-nil}
use Rattle.std.proofs.lemmas.List.Elements.{All-append, All-replicate}
use Rattle.std.proofs.lemmas.Bool.{cases_lt, lt-ltb, le-ltb, eq-eqb}
use Rattle.crc_small.specs.LongDivision.{crc16_of, crc32_of, check_of, remainder_from, bits_of, bring_down}
use Rattle.crc_small.proofs.Linear.{bring_down-lt, first_bit, other_bits}
use Rattle.crc_small.proofs.Register.{bits_of-bits}
use Rattle.gfp_scrambler.specs.Register.{last_bits, scrambled}
use Rattle.gfp_scrambler.proofs.Steps.{undone}
use Rattle.gfp_frames.specs.CoreHeader.{two_bytes, number_of_two, number_of_four, area_size, pattern, core_header, header_in, right_pli, first_of, turned_pli, near_pli}
use Rattle.gfp_frames.specs.Area.{type_bytes, fcs_bytes, client_area, is_client, packet_size, packet_of, last_four, fcs_is_right, packet_in}
use Rattle.gfp_frames.specs.GfpText.{Frame, Idle, Client, WithArea, area_of, areas_of, laid_out, text_of, gfp_text, stream_frames}
use Rattle.gfp_frames.specs.Delineation.{whole_area, from_hunt, from_presync, from_sync, sync_areas}
use Rattle.gfp_frames.specs.Delivered.{plain_areas, packets_in, areas_in, delivered}
use Rattle.gfp_frames.specs.Within.{frame_size, packets_of, areas_with, packets_within, areas_within, CanCarry, CanCarryAll}
use Rattle.gfp_frames.proofs.Lists.{all_dropped}
use Rattle.gfp_frames.proofs.Texts.{length-scrambled, scrambled-append, header_size, area_size_of}
use Rattle.gfp_frames.proofs.Delineating.{nothing_after, nothing_in_sync, hunt_goes, presync_goes, sync_goes}
use Rattle.gfp_frames.proofs.Reading.{hunt_short, presync_short, sync_short, area_short, area_whole, plain_areas-none, plain_areas-cons, delivered_is, packets-append}

-- ---- a header as it was made is right

remainder-lt : (n g r : ℕ) (bits : List ℕ) → g / 2 ^ n ≡ 1 → r < 2 ^ n → All (λ b. b < 2) bits → remainder_from n g r bits < 2 ^ n
unfolding remainder_from
remainder-lt n g r [] top small all = small
remainder-lt n g r (b ∷ bits) top small all = remainder-lt n g (bring_down n g r b) bits top (bring_down-lt n g r b top small (first_bit b bits all)) (other_bits b bits all)

crc16-lt : (bytes : List ℕ) → crc16_of bytes < 2 ^ 16
unfolding crc16_of check_of
crc16-lt bytes = remainder-lt 16 0x11021 0 (bits_of bytes ++ replicate 16 0) refl (omega arith)
    (All-append (λ b. b < 2) (bits_of bytes) (replicate 16 0) (bits_of-bits bytes) (All-replicate (λ b. b < 2) 16 0 (omega arith)))

pub number_is : (n : ℕ) → number_of_four (n / 2 ^ 24) (n / 2 ^ 16 % 2 ^ 8) (n / 2 ^ 8 % 2 ^ 8) (n % 2 ^ 8) ≡ n
number_is n = omega arith

header_made : (pli : ℕ) → header_in (core_header pli) ≡ pli * 2 ^ 16 + crc16_of (two_bytes pli)
unfolding core_header
header_made pli =
    let plain = pli * 2 ^ 16 + crc16_of (two_bytes pli) in
    ap (λ n. bit_xor n pattern) (number_is (bit_xor plain pattern)) ∙ xor_assoc plain pattern pattern ∙ ap (bit_xor plain) (xor_self pattern) ∙ xor_zero_r plain

made_right : (pli : ℕ) → right_pli (header_in (core_header pli)) ≡ Some pli
unfolding right_pli
made_right pli =
    let check = crc16_of (two_bytes pli) in
    let small : check < 2 ^ 16 = crc16-lt (two_bytes pli) in
    let header : header_in (core_header pli) ≡ pli * 2 ^ 16 + check = header_made pli in
    let size : header_in (core_header pli) / 2 ^ 16 ≡ pli = omega arith in
    let rest : header_in (core_header pli) % 2 ^ 16 ≡ check = omega arith in
    let right : crc16_of (two_bytes (header_in (core_header pli) / 2 ^ 16)) ≡ header_in (core_header pli) % 2 ^ 16 = ap (λ n. crc16_of (two_bytes n)) size ∙ sym rest in
    ap (λ b. cond b (Some (header_in (core_header pli) / 2 ^ 16)) None) (eq-eqb (crc16_of (two_bytes (header_in (core_header pli) / 2 ^ 16))) (header_in (core_header pli) % 2 ^ 16) right)
    ∙ ap Some size

made_near : (pli : ℕ) → near_pli (header_in (core_header pli)) ≡ Some pli
unfolding near_pli
made_near pli = ap (λ o. first_of o (turned_pli 32 (header_in (core_header pli)))) (made_right pli)

-- ---- a client's area as it was made passes the checks

front_same : (packet : List ℕ) (fcs : Bool) → packet_size (client_area packet fcs) ≡ length packet
unfolding client_area
front_same packet true = omega (arith, length-append packet (fcs_bytes true packet))
front_same packet false = omega (arith, length-append packet [])

pub check_is : (n : ℕ) → (n == number_of_two (n / 2 ^ 8) (n % 2 ^ 8)) ≡ true
check_is n = eq-eqb n (number_of_two (n / 2 ^ 8) (n % 2 ^ 8)) (omega arith)

client_made : (packet : List ℕ) (fcs : Bool) → is_client (client_area packet fcs) ≡ true
unfolding client_area
client_made packet true = check_is (crc16_of (type_bytes true))
client_made packet false = check_is (crc16_of (type_bytes false))

packet_made : (packet : List ℕ) (fcs : Bool) → packet_of (client_area packet fcs) ≡ packet
unfolding client_area
packet_made packet true = ap (λ n. take n (packet ++ fcs_bytes true packet)) (front_same packet true) ∙ take-append_seam packet (fcs_bytes true packet)
packet_made packet false = ap (λ n. take n (packet ++ [])) (front_same packet false) ∙ take-append_seam packet []

-- the bytes of the FCS, by their places in the area
fcs_place : (front packet : List ℕ) (a b c d k : ℕ) → length front ≡ 4 → k < 4 → get_or (front ++ (packet ++ (a ∷ b ∷ c ∷ d ∷ []))) (length (front ++ (packet ++ (a ∷ b ∷ c ∷ d ∷ []))) - (4 - k)) 0 ≡ get_or (a ∷ b ∷ c ∷ d ∷ []) k 0
fcs_place front packet a b c d k four lt =
    let whole = front ++ (packet ++ (a ∷ b ∷ c ∷ d ∷ [])) in
    let l1 = length-append front (packet ++ (a ∷ b ∷ c ∷ d ∷ [])) in
    let l2 = length-append packet (a ∷ b ∷ c ∷ d ∷ []) in
    let place : length whole - (4 - k) ≡ length front + (length packet + k) = omega arith in
    ap (λ i. get_or whole i 0) place
    ∙ get_or-append-add front (packet ++ (a ∷ b ∷ c ∷ d ∷ [])) (length packet + k) 0
    ∙ get_or-append-add packet (a ∷ b ∷ c ∷ d ∷ []) k 0

last_made : (packet : List ℕ) → last_four (client_area packet true) ≡ crc32_of packet
unfolding client_area
last_made packet =
    let n = crc32_of packet in
    let front = type_bytes true ++ two_bytes (crc16_of (type_bytes true)) in
    let place = fcs_place front packet (n / 2 ^ 24) (n / 2 ^ 16 % 2 ^ 8) (n / 2 ^ 8 % 2 ^ 8) (n % 2 ^ 8) in
    let a = place 0 refl (omega arith) in
    let b = place 1 refl (omega arith) in
    let c = place 2 refl (omega arith) in
    let d = place 3 refl (omega arith) in
    ap (λ x. number_of_four x (get_or (client_area packet true) (length (client_area packet true) - 3) 0) (get_or (client_area packet true) (length (client_area packet true) - 2) 0) (get_or (client_area packet true) (length (client_area packet true) - 1) 0)) a
    ∙ ap (λ x. number_of_four (n / 2 ^ 24) x (get_or (client_area packet true) (length (client_area packet true) - 2) 0) (get_or (client_area packet true) (length (client_area packet true) - 1) 0)) b
    ∙ ap (λ x. number_of_four (n / 2 ^ 24) (n / 2 ^ 16 % 2 ^ 8) x (get_or (client_area packet true) (length (client_area packet true) - 1) 0)) c
    ∙ ap (number_of_four (n / 2 ^ 24) (n / 2 ^ 16 % 2 ^ 8) (n / 2 ^ 8 % 2 ^ 8)) d
    ∙ number_is n

fcs_of_true : (packet : List ℕ) → fcs_is_right (client_area packet true) ≡ (crc32_of (packet_of (client_area packet true)) == last_four (client_area packet true))
unfolding client_area
fcs_of_true packet = refl

fcs_of_false : (packet : List ℕ) → fcs_is_right (client_area packet false) ≡ true
unfolding client_area
fcs_of_false packet = refl

fcs_made : (packet : List ℕ) (fcs : Bool) → fcs_is_right (client_area packet fcs) ≡ true
fcs_made packet true = fcs_of_true packet
    ∙ eq-eqb (crc32_of (packet_of (client_area packet true))) (last_four (client_area packet true)) (ap crc32_of (packet_made packet true) ∙ sym (last_made packet))
fcs_made packet false = fcs_of_false packet

all_three : (a b c : Bool) → a ≡ true → b ≡ true → c ≡ true → (a && b && c) ≡ true
all_three a b c ea eb ec = ap (λ x. x && b && c) ea ∙ ap (λ x. true && x && c) eb ∙ ec

pub packet_arrives : (packet : List ℕ) (fcs : Bool) → 1 ≤ length packet → packet_in (client_area packet fcs) ≡ Some packet
unfolding packet_in
packet_arrives packet fcs some =
    let area = client_area packet fcs in
    let size : nat_lt 0 (packet_size area) ≡ true = lt-ltb 0 (packet_size area) (let e = front_same packet fcs in omega arith) in
    ap (λ b. cond b (Some (packet_of area)) None) (all_three (is_client area) (nat_lt 0 (packet_size area)) (fcs_is_right area) (client_made packet fcs) size (fcs_made packet fcs))
    ∙ ap Some (packet_made packet fcs)

-- ---- frames at the front of a list

-- a frame's area is none, or at least four bytes and at most what a PLI can say
record Sized (k : ℕ) : Type 0 where
  none_or_some : (k ≡ 0) ⊎ (4 ≤ k)

sized : (frame : Frame) → CanCarry frame → Sized (length (area_of frame))
sized Idle can = record { none_or_some = inl refl }
sized (Client packet fcs) can = record { none_or_some = inr (let e = area_size_of packet fcs in by_fcs fcs e) }
  where
    by_fcs : (b : Bool) → length (client_area packet fcs) ≡ length packet + cond b 8 4 → 4 ≤ length (client_area packet fcs)
    by_fcs true e = omega arith
    by_fcs false e = omega arith
sized (WithArea area) can = record { none_or_some = inr can.0 }

-- the area of a frame, if it has one
part : ℕ → List ℕ → List (List ℕ)
part zero area = []
part (suc k) area = area ∷ []

sent_within : ℕ → List ℕ → List Frame → List (List ℕ)
sent_within n sent [] = []
sent_within n sent (frame ∷ frames) =
    cond (nat_lt n (frame_size frame)) []
    (part (length (area_of frame)) (take (length (area_of frame)) sent) ++ sent_within (n - frame_size frame) (drop (length (area_of frame)) sent) frames)

no_size : (k : ℕ) → Sized k → k < 4 → k ≡ 0
no_size k s h = elim s.none_or_some [ inl e ↦ e | inr big ↦ absurd (omega arith) ]

size_is : (k : ℕ) → Sized k → area_size k ≡ k
size_is k s = elim s.none_or_some [
  | inl e ↦ ap area_size e ∙ sym e
  | inr big ↦ ap (λ b. cond b 0 k) (le-ltb k 4 big)
]

-- a whole area, and more
area_read : (k : ℕ) (area more : List ℕ) → Sized k → length area ≡ k → whole_area k (area ++ more) ++ from_sync (drop (area_size k) (area ++ more)) ≡ part k area ++ from_sync more
unfolding part
area_read zero area more s e =
    ap (λ y. from_sync (y ++ more)) (let none : area ≡ [] = empty area e in none)
  where
    empty : (xs : List ℕ) → length xs ≡ 0 → xs ≡ []
    empty [] e = refl
    empty (x ∷ xs) e = absurd (omega arith)
area_read (suc k) area more s e =
    let big : 4 ≤ suc k = elim s.none_or_some [ inl none ↦ absurd (omega arith) | inr big ↦ big ] in
    ap (λ y. y ++ from_sync (drop (area_size (suc k)) (area ++ more))) (area_whole (suc k) area more e big)
    ∙ ap (λ n. area ∷ from_sync (drop n (area ++ more))) (size_is (suc k) s ∙ sym e)
    ∙ ap (λ y. area ∷ from_sync y) (drop-append_seam area more)

-- an area that is not whole
area_cut : (k : ℕ) (bytes : List ℕ) → Sized k → length bytes < k → whole_area k bytes ++ from_sync (drop (area_size k) bytes) ≡ []
area_cut k bytes s short =
    ap (λ y. y ++ from_sync (drop (area_size k) bytes)) (area_short k bytes short)
    ∙ ap from_sync (ap (λ n. drop n bytes) (size_is k s) ∙ all_dropped bytes k (omega arith)) ∙ nothing_in_sync 0

-- ---- the frames of a text

take_header : (header body : List ℕ) (n : ℕ) → length header ≡ 4 → 4 ≤ n → take n (header ++ body) ≡ header ++ take (n - 4) body
take_header header body n four h = ap (λ k. take k (header ++ body)) (let e : n ≡ length header + (n - 4) = omega arith in e) ∙ take-append-add header body (n - 4)

take-short : (n : ℕ) (bytes : List ℕ) → length (take n bytes) ≤ n
take-short n bytes = let e = length-take n bytes in omega arith

laid_out-cons : (sent : List ℕ) (frame : Frame) (frames : List Frame)
    → laid_out sent (frame ∷ frames) ≡ core_header (length (area_of frame)) ++ (take (length (area_of frame)) sent ++ laid_out (drop (length (area_of frame)) sent) frames)
unfolding laid_out
laid_out-cons sent frame frames =
    append_assoc (core_header (length (area_of frame))) (take (length (area_of frame)) sent) (laid_out (drop (length (area_of frame)) sent) frames)

laid_out-none : (sent : List ℕ) → laid_out sent [] ≡ []
unfolding laid_out
laid_out-none sent = refl

take-none : (n : ℕ) → take n (let none : List ℕ = [] in none) ≡ []
take-none zero = refl
take-none (suc n) = refl

within-none : (n : ℕ) (sent : List ℕ) → sent_within n sent [] ≡ []
unfolding sent_within
within-none n sent = refl

within-cut : (n : ℕ) (sent : List ℕ) (frame : Frame) (frames : List Frame) → n < frame_size frame → sent_within n sent (frame ∷ frames) ≡ []
unfolding sent_within
within-cut n sent frame frames h =
    ap (λ b. cond b [] (part (length (area_of frame)) (take (length (area_of frame)) sent) ++ sent_within (n - frame_size frame) (drop (length (area_of frame)) sent) frames))
    (lt-ltb n (frame_size frame) h)

within-whole : (n : ℕ) (sent : List ℕ) (frame : Frame) (frames : List Frame) → frame_size frame ≤ n
    → sent_within n sent (frame ∷ frames) ≡ part (length (area_of frame)) (take (length (area_of frame)) sent) ++ sent_within (n - frame_size frame) (drop (length (area_of frame)) sent) frames
unfolding sent_within
within-whole n sent frame frames h =
    ap (λ b. cond b [] (part (length (area_of frame)) (take (length (area_of frame)) sent) ++ sent_within (n - frame_size frame) (drop (length (area_of frame)) sent) frames))
    (le-ltb n (frame_size frame) h)

-- what stands after a header in sync
after_read : (frame : Frame) (frames : List Frame) (sent rest : List ℕ) (n : ℕ) → Sized (length (area_of frame)) → length (area_of frame) ≤ length sent → 4 ≤ n
    → ((m : ℕ) → from_sync (take m rest) ≡ sent_within m (drop (length (area_of frame)) sent) frames)
    → whole_area (length (area_of frame)) (take (n - 4) (take (length (area_of frame)) sent ++ rest)) ++ from_sync (drop (area_size (length (area_of frame))) (take (n - 4) (take (length (area_of frame)) sent ++ rest)))
    ≡ sent_within n sent (frame ∷ frames)
after_read frame frames sent rest n s enough four others =
    let k = length (area_of frame) in
    let area = take k sent in
    let size : length area ≡ k = (let e = length-take k sent in omega arith) in
    elim (cases_lt (n - 4) k) [
      | inl cut ↦
          area_cut k (take (n - 4) (area ++ rest)) s (let e = take-short (n - 4) (area ++ rest) in omega arith)
          ∙ sym (within-cut n sent frame frames (omega arith))
      | inr whole ↦
          let all : take (n - 4) (area ++ rest) ≡ area ++ take (n - 4 - k) rest =
          ap (λ i. take i (area ++ rest)) (let e : n - 4 ≡ length area + (n - 4 - k) = omega arith in e) ∙ take-append-add area rest (n - 4 - k) in
          ap (λ y. whole_area k y ++ from_sync (drop (area_size k) y)) all
          ∙ area_read k area (take (n - 4 - k) rest) s size
          ∙ ap (λ y. part k area ++ y) (others (n - 4 - k) ∙ ap (λ i. sent_within i (drop k sent) frames) (let e : n - 4 - k ≡ n - (4 + k) = omega arith in e))
          ∙ sym (within-whole n sent frame frames (omega arith))
    ]

sync_reads : (frames : List Frame) (sent : List ℕ) (n : ℕ) → CanCarryAll frames → length sent ≡ length (areas_of frames) → from_sync (take n (laid_out sent frames)) ≡ sent_within n sent frames
sync_reads [] sent n can size = ap (λ y. from_sync (take n y)) (laid_out-none sent) ∙ ap from_sync (take-none n) ∙ nothing_in_sync 0 ∙ sym (within-none n sent)
sync_reads (frame ∷ frames) sent n can size =
    let k = length (area_of frame) in
    let rest = laid_out (drop k sent) frames in
    let body = take k sent ++ rest in
    let header = core_header k in
    let total : length (areas_of (frame ∷ frames)) ≡ k + length (areas_of frames) = length-append (area_of frame) (areas_of frames) in
    let left : length (drop k sent) ≡ length (areas_of frames) = (let e = length-drop k sent in omega arith) in
    elim (cases_lt n 4) [
      | inl short ↦ sync_short (take n (laid_out sent (frame ∷ frames))) (let e = take-short n (laid_out sent (frame ∷ frames)) in omega arith) ∙ sym (within-cut n sent frame frames (omega arith))
      | inr four ↦
          ap (λ y. from_sync (take n y)) (laid_out-cons sent frame frames)
          ∙ ap from_sync (take_header header body n (header_size k) four)
          ∙ sync_goes header (take (n - 4) body) k (header_size k) (made_near k)
          ∙ after_read frame frames sent rest n (sized frame can.0) (omega arith) four (λ m. sync_reads frames (drop k sent) m can.1 left)
    ]

presync_reads : (frames : List Frame) (sent : List ℕ) (n : ℕ) → CanCarryAll frames → length sent ≡ length (areas_of frames) → from_presync (take n (laid_out sent frames)) ≡ sent_within n sent frames
presync_reads [] sent n can size = ap (λ y. from_presync (take n y)) (laid_out-none sent) ∙ ap from_presync (take-none n) ∙ nothing_after 0 ∙ sym (within-none n sent)
presync_reads (frame ∷ frames) sent n can size =
    let k = length (area_of frame) in
    let rest = laid_out (drop k sent) frames in
    let body = take k sent ++ rest in
    let header = core_header k in
    let total : length (areas_of (frame ∷ frames)) ≡ k + length (areas_of frames) = length-append (area_of frame) (areas_of frames) in
    let left : length (drop k sent) ≡ length (areas_of frames) = (let e = length-drop k sent in omega arith) in
    elim (cases_lt n 4) [
      | inl short ↦ presync_short (take n (laid_out sent (frame ∷ frames))) (let e = take-short n (laid_out sent (frame ∷ frames)) in omega arith) ∙ sym (within-cut n sent frame frames (omega arith))
      | inr four ↦
          ap (λ y. from_presync (take n y)) (laid_out-cons sent frame frames)
          ∙ ap from_presync (take_header header body n (header_size k) four)
          ∙ presync_goes header (take (n - 4) body) k (header_size k) (made_right k)
          ∙ after_read frame frames sent rest n (sized frame can.0) (omega arith) four (λ m. sync_reads frames (drop k sent) m can.1 left)
    ]

-- ---- descrambled again

pub within-end : (n : ℕ) → areas_within n [] ≡ []
unfolding areas_within
within-end n = refl

pub areas-cut : (n : ℕ) (frame : Frame) (frames : List Frame) → n < frame_size frame → areas_within n (frame ∷ frames) ≡ []
unfolding areas_within
areas-cut n frame frames h = ap (λ b. cond b [] (areas_with frame ++ areas_within (n - frame_size frame) frames)) (lt-ltb n (frame_size frame) h)

pub areas-whole : (n : ℕ) (frame : Frame) (frames : List Frame) → frame_size frame ≤ n → areas_within n (frame ∷ frames) ≡ areas_with frame ++ areas_within (n - frame_size frame) frames
unfolding areas_within
areas-whole n frame frames h = ap (λ b. cond b [] (areas_with frame ++ areas_within (n - frame_size frame) frames)) (le-ltb n (frame_size frame) h)

part-some : (k : ℕ) (area : List ℕ) → 0 < k → part k area ≡ area ∷ []
unfolding part
part-some zero area h = absurd (omega arith)
part-some (suc k) area h = refl

-- an area, and those after it
area_back : (area : List ℕ) (r : ℕ) (areas : List (List ℕ)) → 0 < length area
    → plain_areas r (part (length area) (scrambled r area) ++ areas) ≡ area ∷ plain_areas (last_bits r (scrambled r area)) areas
area_back area r areas some =
    let sent = scrambled r area in
    ap (λ y. plain_areas r (y ++ areas)) (part-some (length area) sent some)
    ∙ plain_areas-cons r sent areas
    ∙ ap (λ y. y ∷ plain_areas (last_bits r sent) areas) (undone r area)

-- one frame's area, and those after it
one_read : (frame : Frame) (r : ℕ) (areas : List (List ℕ)) → CanCarry frame
    → plain_areas r (part (length (area_of frame)) (scrambled r (area_of frame)) ++ areas) ≡ areas_with frame ++ plain_areas (last_bits r (scrambled r (area_of frame))) areas
unfolding part scrambled last_bits
one_read Idle r areas can = refl
one_read (Client packet fcs) r areas can = area_back (client_area packet fcs) r areas (let e = area_size_of packet fcs in omega (arith, can.0))
one_read (WithArea area) r areas can = area_back area r areas (let four = can.0 in omega arith)

areas_read : (frames : List Frame) (r n : ℕ) → CanCarryAll frames → plain_areas r (sent_within n (scrambled r (areas_of frames)) frames) ≡ areas_within n frames
areas_read [] r n can = ap (λ y. plain_areas r y) (within-none n (scrambled r [])) ∙ plain_areas-none r ∙ sym (within-end n)
areas_read (frame ∷ frames) r n can =
    let area = area_of frame in
    let k = length area in
    let sent = scrambled r area in
    let last = last_bits r sent in
    let others = scrambled last (areas_of frames) in
    let all : scrambled r (areas_of (frame ∷ frames)) ≡ sent ++ others = scrambled-append r area (areas_of frames) in
    let size : k ≡ length sent = sym (length-scrambled r area) in
    let front : take k (sent ++ others) ≡ sent = ap (λ i. take i (sent ++ others)) size ∙ take-append_seam sent others in
    let back : drop k (sent ++ others) ≡ others = ap (λ i. drop i (sent ++ others)) size ∙ drop-append_seam sent others in
    ap (λ y. plain_areas r (sent_within n y (frame ∷ frames))) all
    ∙ elim (cases_lt n (frame_size frame)) [
      | inl cut ↦
          ap (λ y. plain_areas r y) (within-cut n (sent ++ others) frame frames cut) ∙ plain_areas-none r ∙ sym (areas-cut n frame frames cut)
      | inr whole ↦
          ap (λ y. plain_areas r y) (within-whole n (sent ++ others) frame frames whole)
          ∙ ap (λ y. plain_areas r (part k y ++ sent_within (n - frame_size frame) (drop k (sent ++ others)) frames)) front
          ∙ ap (λ y. plain_areas r (part k sent ++ sent_within (n - frame_size frame) y frames)) back
          ∙ one_read frame r (sent_within (n - frame_size frame) others frames) can.0
          ∙ ap (λ y. areas_with frame ++ y) (areas_read frames last (n - frame_size frame) can.1)
          ∙ sym (areas-whole n frame frames whole)
    ]

-- ---- the packets in them

packets-none : (n : ℕ) → packets_within n [] ≡ []
unfolding packets_within
packets-none n = refl

packets-cut : (n : ℕ) (frame : Frame) (frames : List Frame) → n < frame_size frame → packets_within n (frame ∷ frames) ≡ []
unfolding packets_within
packets-cut n frame frames h = ap (λ b. cond b [] (packets_of frame ++ packets_within (n - frame_size frame) frames)) (lt-ltb n (frame_size frame) h)

packets-whole : (n : ℕ) (frame : Frame) (frames : List Frame) → frame_size frame ≤ n → packets_within n (frame ∷ frames) ≡ packets_of frame ++ packets_within (n - frame_size frame) frames
unfolding packets_within
packets-whole n frame frames h = ap (λ b. cond b [] (packets_of frame ++ packets_within (n - frame_size frame) frames)) (le-ltb n (frame_size frame) h)

one_packet : (frame : Frame) → CanCarry frame → packets_in (areas_with frame) ≡ packets_of frame
one_packet Idle can = refl
one_packet (Client packet fcs) can = ap (λ y. option_to_list y ++ []) (packet_arrives packet fcs can.0)
one_packet (WithArea area) can = append-nil (option_to_list (packet_in area))

packets_read : (frames : List Frame) (n : ℕ) → CanCarryAll frames → packets_in (areas_within n frames) ≡ packets_within n frames
packets_read [] n can = ap packets_in (within-end n) ∙ sym (packets-none n)
packets_read (frame ∷ frames) n can = elim (cases_lt n (frame_size frame)) [
  | inl cut ↦ ap packets_in (areas-cut n frame frames cut) ∙ sym (packets-cut n frame frames cut)
  | inr whole ↦
      ap packets_in (areas-whole n frame frames whole)
      ∙ packets-append (areas_with frame) (areas_within (n - frame_size frame) frames)
      ∙ ap (λ y. y ++ packets_in (areas_within (n - frame_size frame) frames)) (one_packet frame can.0)
      ∙ ap (λ y. packets_of frame ++ y) (packets_read frames (n - frame_size frame) can.1)
      ∙ sym (packets-whole n frame frames whole)
]

-- ---- the whole stream

text_is : (frames : List Frame) → text_of (Idle ∷ frames) ≡ core_header 0 ++ laid_out (scrambled 0 (areas_of frames)) frames
unfolding text_of
text_is frames = laid_out-cons (scrambled 0 (areas_of frames)) Idle frames

areas_are : (bytes : List ℕ) → areas_in bytes ≡ plain_areas 0 (from_hunt bytes)
unfolding sync_areas
areas_are bytes = refl

pub areas_found : (frames : List Frame) (n : ℕ) → CanCarryAll frames → areas_in (take n (text_of (Idle ∷ frames))) ≡ areas_within n (Idle ∷ frames)
areas_found frames n can =
    let sent = scrambled 0 (areas_of frames) in
    let text = core_header 0 ++ laid_out sent frames in
    ap (λ y. areas_in (take n y)) (text_is frames) ∙ areas_are (take n text)
    ∙ elim (cases_lt n 4) [
      | inl short ↦
          ap (plain_areas 0) (hunt_short (take n text) (let e = take-short n text in omega arith)) ∙ plain_areas-none 0
          ∙ sym (areas-cut n Idle frames (omega arith))
      | inr four ↦
          ap (λ y. plain_areas 0 (from_hunt y)) (take_header (core_header 0) (laid_out sent frames) n (header_size 0) four)
          ∙ ap (plain_areas 0) (hunt_goes (core_header 0) (take (n - 4) (laid_out sent frames)) 0 (header_size 0) (made_right 0) ∙ presync_reads frames sent (n - 4) can (length-scrambled 0 (areas_of frames)))
          ∙ areas_read frames 0 (n - 4) can
          ∙ sym (areas-whole n Idle frames four)
    ]

pub frames_arrive : (frames : List Frame) (n : ℕ) → CanCarryAll frames → delivered (take n (text_of (Idle ∷ frames))) ≡ packets_within n (Idle ∷ frames)
frames_arrive frames n can =
    delivered_is (take n (text_of (Idle ∷ frames))) ∙ ap packets_in (areas_found frames n can) ∙ packets_read (Idle ∷ frames) n (tt, can)

pub stream_arrives : (packets : List (List ℕ)) (fcs : Bool) (n : ℕ) → CanCarryAll (stream_frames packets fcs n) → delivered (gfp_text packets fcs n) ≡ packets_within n (stream_frames packets fcs n)
unfolding gfp_text
stream_arrives packets fcs n can = frames_arrive (map (λ packet. Client packet fcs) packets ++ replicate n Idle) n can.1
