-- The payload areas of channels, as they are made.
use Rattle.std.proofs.Common.{◌≡◌, ℕ, ◌+◌, ◌/◌, ◌%◌, ◌^◌, ◌<◌, ◌≤◌, ◌-◌, List, [], ◌∷◌, ◌++◌, Bool, true, false, cond, Some, None, length, take, get_or, refl, ap, ◌∙◌, sym, arith, length-append}
use Rattle.std.specs.Prelude.{◌==◌, ◌&&◌, nat_lt, nat_le}
use Rattle.std.proofs.Math.Seq.{take-append_seam}
use Rattle.std.proofs.lemmas.List.{get_or-append-add}
use Rattle.std.proofs.lemmas.Bool.{lt-ltb, le-leb, eq-eqb}
use Rattle.crc_small.specs.LongDivision.{crc16_of, crc32_of}
use Rattle.gfp_frames.specs.CoreHeader.{four_bytes, number_of_four}
use Rattle.gfp_frames.specs.Area.{last_four, pti, exi, upi, thec_is_right}
use Rattle.gfp_frames.proofs.Arrives.{check_is, number_is}
use Rattle.gfp_linear.specs.ChannelFrames.{packet_type, loss_type, extension, with_check, packet_area, loss_area}
use Rattle.gfp_linear.specs.ChannelArrivals.{ChannelArrival, PacketOn, LossOn, is_linear, ehec_is_right, cid_of, payload_size, payload_of, fcs_is_right, has_packet, has_loss, arrival_in}

pub packet_area_size : (cid : ℕ) (packet : List ℕ) → length (packet_area cid packet) ≡ length packet + 12
unfolding packet_area
packet_area_size cid packet = omega (arith, length-append packet (four_bytes (crc32_of packet)))

pub loss_area_size : (cid : ℕ) → length (loss_area cid) ≡ 8
unfolding loss_area
loss_area_size cid = refl

pub packet_area_fits : (cid : ℕ) (packet area : List ℕ) → 1 ≤ length packet → length packet ≤ 65523 → area ≡ packet_area cid packet → (4 ≤ length area) × (length area ≤ 65535)
packet_area_fits cid packet area some few is = let e = ap length is in let s = packet_area_size cid packet in (omega arith, omega arith)

pub loss_area_fits : (cid : ℕ) (area : List ℕ) → area ≡ loss_area cid → (4 ≤ length area) × (length area ≤ 65535)
loss_area_fits cid area is = let e = ap length is in let s = loss_area_size cid in (omega arith, omega arith)

-- ---- what arrives with them

five_true : (a b c d e : Bool) → a ≡ true → b ≡ true → c ≡ true → d ≡ true → e ≡ true → (a && b && c && d && e) ≡ true
five_true a b c d e ea eb ec ed ee =
    ap (λ x. x && b && c && d && e) ea ∙ ap (λ x. true && x && c && d && e) eb ∙ ap (λ x. true && true && x && d && e) ec ∙ ap (λ x. true && true && true && x && e) ed
    ∙ ap (λ x. true && true && true && true && x) ee

three_true : (a b c : Bool) → a ≡ true → b ≡ true → c ≡ true → (a && b && c) ≡ true
three_true a b c ea eb ec = ap (λ x. x && b && c) ea ∙ ap (λ x. true && x && c) eb ∙ ap (λ x. true && true && x) ec

packet_exi : (cid : ℕ) (packet : List ℕ) → (exi (packet_area cid packet) == 1) ≡ true
unfolding packet_area
packet_exi cid packet = refl

packet_upi : (cid : ℕ) (packet : List ℕ) → (upi (packet_area cid packet) == 1) ≡ true
unfolding packet_area
packet_upi cid packet = refl

packet_thec : (cid : ℕ) (packet : List ℕ) → thec_is_right (packet_area cid packet) ≡ true
unfolding packet_area
packet_thec cid packet = check_is (crc16_of packet_type)

packet_ehec : (cid : ℕ) (packet : List ℕ) → ehec_is_right (packet_area cid packet) ≡ true
unfolding packet_area
packet_ehec cid packet = check_is (crc16_of (cid ∷ 0 ∷ []))

packet_linear : (cid : ℕ) (packet : List ℕ) → is_linear (packet_area cid packet) ≡ true
packet_linear cid packet =
    let area = packet_area cid packet in
    five_true (nat_le 8 (length area)) (exi area == 1) (upi area == 1) (thec_is_right area) (ehec_is_right area)
    (le-leb 8 (length area) (let e = packet_area_size cid packet in omega arith)) (packet_exi cid packet) (packet_upi cid packet) (packet_thec cid packet) (packet_ehec cid packet)

packet_payload_size : (cid : ℕ) (packet : List ℕ) → payload_size (packet_area cid packet) ≡ length packet
unfolding packet_area
packet_payload_size cid packet = omega (arith, length-append packet (four_bytes (crc32_of packet)))

packet_payload : (cid : ℕ) (packet : List ℕ) → payload_of (packet_area cid packet) ≡ packet
unfolding packet_area
packet_payload cid packet = ap (λ n. take n (packet ++ four_bytes (crc32_of packet))) (packet_payload_size cid packet) ∙ take-append_seam packet (four_bytes (crc32_of packet))

-- the bytes of the FCS, by their places in the area
fcs_place : (front packet : List ℕ) (a b c d k : ℕ) → k < 4 → get_or (front ++ (packet ++ (a ∷ b ∷ c ∷ d ∷ []))) (length (front ++ (packet ++ (a ∷ b ∷ c ∷ d ∷ []))) - (4 - k)) 0 ≡ get_or (a ∷ b ∷ c ∷ d ∷ []) k 0
fcs_place front packet a b c d k lt =
    let whole = front ++ (packet ++ (a ∷ b ∷ c ∷ d ∷ [])) in
    let l1 = length-append front (packet ++ (a ∷ b ∷ c ∷ d ∷ [])) in
    let l2 = length-append packet (a ∷ b ∷ c ∷ d ∷ []) in
    let place : length whole - (4 - k) ≡ length front + (length packet + k) = omega arith in
    ap (λ i. get_or whole i 0) place
    ∙ get_or-append-add front (packet ++ (a ∷ b ∷ c ∷ d ∷ [])) (length packet + k) 0
    ∙ get_or-append-add packet (a ∷ b ∷ c ∷ d ∷ []) k 0

packet_last : (cid : ℕ) (packet : List ℕ) → last_four (packet_area cid packet) ≡ crc32_of packet
unfolding packet_area
packet_last cid packet =
    let n = crc32_of packet in
    let area = packet_area cid packet in
    let front = with_check packet_type ++ extension cid in
    let place = fcs_place front packet (n / 2 ^ 24) (n / 2 ^ 16 % 2 ^ 8) (n / 2 ^ 8 % 2 ^ 8) (n % 2 ^ 8) in
    let a = place 0 (omega arith) in
    let b = place 1 (omega arith) in
    let c = place 2 (omega arith) in
    let d = place 3 (omega arith) in
    ap (λ x. number_of_four x (get_or area (length area - 3) 0) (get_or area (length area - 2) 0) (get_or area (length area - 1) 0)) a
    ∙ ap (λ x. number_of_four (n / 2 ^ 24) x (get_or area (length area - 2) 0) (get_or area (length area - 1) 0)) b
    ∙ ap (λ x. number_of_four (n / 2 ^ 24) (n / 2 ^ 16 % 2 ^ 8) x (get_or area (length area - 1) 0)) c
    ∙ ap (number_of_four (n / 2 ^ 24) (n / 2 ^ 16 % 2 ^ 8) (n / 2 ^ 8 % 2 ^ 8)) d
    ∙ number_is n

packet_fcs_is : (cid : ℕ) (packet : List ℕ) → fcs_is_right (packet_area cid packet) ≡ (crc32_of (payload_of (packet_area cid packet)) == last_four (packet_area cid packet))
unfolding packet_area
packet_fcs_is cid packet = refl

packet_fcs : (cid : ℕ) (packet : List ℕ) → fcs_is_right (packet_area cid packet) ≡ true
packet_fcs cid packet =
    let area = packet_area cid packet in
    packet_fcs_is cid packet ∙ eq-eqb (crc32_of (payload_of area)) (last_four area) (ap crc32_of (packet_payload cid packet) ∙ sym (packet_last cid packet))

packet_pti : (cid : ℕ) (packet : List ℕ) → (pti (packet_area cid packet) == 0) ≡ true
unfolding packet_area
packet_pti cid packet = refl

packet_has : (cid : ℕ) (packet : List ℕ) → 1 ≤ length packet → has_packet (packet_area cid packet) ≡ true
packet_has cid packet some =
    let area = packet_area cid packet in
    three_true (pti area == 0) (nat_lt 0 (payload_size area)) (fcs_is_right area) (packet_pti cid packet)
    (lt-ltb 0 (payload_size area) (let e = packet_payload_size cid packet in omega arith)) (packet_fcs cid packet)

packet_cid : (cid : ℕ) (packet : List ℕ) → cid_of (packet_area cid packet) ≡ cid
unfolding packet_area
packet_cid cid packet = refl

-- a choice that is made
chosen : (area : List ℕ) (linear packet loss : Bool) (first second : ChannelArrival) → linear ≡ true → packet ≡ true → cond linear (cond packet (Some first) (cond loss (Some second) None)) None ≡ Some first
chosen area linear packet loss first second el ep =
    ap (λ b. cond b (cond packet (Some first) (cond loss (Some second) None)) None) el ∙ ap (λ b. cond b (Some first) (cond loss (Some second) None)) ep

pub packet_arrives : (cid : ℕ) (packet : List ℕ) → 1 ≤ length packet → arrival_in (packet_area cid packet) ≡ Some (PacketOn cid packet)
unfolding arrival_in
packet_arrives cid packet some =
    let area = packet_area cid packet in
    chosen area (is_linear area) (has_packet area) (has_loss area) (PacketOn (cid_of area) (payload_of area)) (LossOn (cid_of area)) (packet_linear cid packet) (packet_has cid packet some)
    ∙ ap (λ c. Some (PacketOn c (payload_of area))) (packet_cid cid packet)
    ∙ ap (λ p. Some (PacketOn cid p)) (packet_payload cid packet)

loss_thec : (cid : ℕ) → thec_is_right (loss_area cid) ≡ true
unfolding loss_area
loss_thec cid = check_is (crc16_of loss_type)

loss_ehec : (cid : ℕ) → ehec_is_right (loss_area cid) ≡ true
unfolding loss_area
loss_ehec cid = check_is (crc16_of (cid ∷ 0 ∷ []))

loss_linear : (cid : ℕ) → is_linear (loss_area cid) ≡ true
unfolding loss_area
loss_linear cid = ap (λ b. b && ehec_is_right (loss_area cid)) (loss_thec cid) ∙ loss_ehec cid

loss_has : (cid : ℕ) → (has_packet (loss_area cid) ≡ false) × (has_loss (loss_area cid) ≡ true)
unfolding loss_area
loss_has cid = (refl, refl)

loss_cid : (cid : ℕ) → cid_of (loss_area cid) ≡ cid
unfolding loss_area
loss_cid cid = refl

pub loss_arrives : (cid : ℕ) → arrival_in (loss_area cid) ≡ Some (LossOn cid)
unfolding arrival_in
loss_arrives cid =
    let area = loss_area cid in
    let first = PacketOn (cid_of area) (payload_of area) in
    let second = LossOn (cid_of area) in
    ap (λ b. cond b (cond (has_packet area) (Some first) (cond (has_loss area) (Some second) None)) None) (loss_linear cid)
    ∙ ap (λ b. cond b (Some first) (cond (has_loss area) (Some second) None)) (loss_has cid).0
    ∙ ap (λ b. cond b (Some second) None) (loss_has cid).1
    ∙ ap (λ c. Some (LossOn c)) (loss_cid cid)
