-- What arrives of a stream of channels.
use Rattle.std.proofs.Common.{◌≡◌, ℕ, zero, suc, ◌+◌, ◌-◌, ◌<◌, ◌≤◌, List, [], ◌∷◌, ◌++◌, Bool, true, false, cond, length, take, get_or, map, refl, ap, ◌∙◌, sym, subst, arith, inl, inr, append-nil, add-one}
use Rattle.std.specs.Prelude.{All, option_to_list, ◌==◌}
use Rattle.std.specs.List.{flat_map, filter}
use Rattle.std.proofs.lemmas.List.Elements.{All-head, All-tail, All-cons, All-nil, filter-append}
use Rattle.std.proofs.lemmas.Grind.{flat_map-append}
use Rattle.std.specs.List.Sorted.{IsStrictlyIncreasing}
use Rattle.std.proofs.lemmas.Bool.{cases_lt, lt-ltb, le-ltb, eq-eqb, ne_eqb}
use Rattle.gfp_frames.specs.GfpText.{Idle, text_of}
use Rattle.gfp_frames.specs.Within.{areas_with, areas_within, CanCarry, CanCarryAll}
use Rattle.gfp_frames.proofs.Arrives.{areas_found, areas-cut, areas-whole, within-end}
use Rattle.gfp_linear.specs.ChannelFrames.{packet_area, loss_area, IsCidList}
use Rattle.gfp_linear.specs.Weave.{AreCarried, ChannelText, WovenFrame, IdleFrame, PacketFrame, LossFrame, made_of, weave, woven_size, woven_within, is_frame_of, packet_of, packets_given, no_text}
use Rattle.gfp_linear.specs.ChannelArrivals.{ChannelArrival, PacketOn, LossOn, arrivals_in, channel_arrivals}
use Rattle.gfp_linear.specs.Laws.{arrivals_of, is_on, packet_on, packets_on, woven_arrivals, IsFront, ChannelsArrive, EachChannelArrives, FirstPacketsArrive, OthersMakeNoDifference, ArrivalsStay}
use Rattle.gfp_frames.proofs.Grows.{areas_grow}
use Rattle.gfp_linear.proofs.Arrived.{arrivals_are, arrivals-append, arrived_on}
use Rattle.gfp_linear.proofs.ChannelAreas.{packet_area_fits, loss_area_fits, packet_arrives, loss_arrives}
use Rattle.gfp_linear.proofs.Weaves.{IsCarried, IsAmong, weave_first, weave_carried, weave_among, weave_front, front_on, fronts_of_one}

carries_one : (cids : List ℕ) (frame : WovenFrame) → IsCarried frame → CanCarry (made_of cids frame)
carries_one cids IdleFrame h = tt
carries_one cids (PacketFrame c packet) h = packet_area_fits (get_or cids c 0) packet (packet_area (get_or cids c 0) packet) h.0 h.1 refl
carries_one cids (LossFrame c) h = loss_area_fits (get_or cids c 0) (loss_area (get_or cids c 0)) refl

carries : (cids : List ℕ) (frames : List WovenFrame) → All IsCarried frames → CanCarryAll (map (made_of cids) frames)
carries cids [] h = tt
carries cids (frame ∷ frames) h = (carries_one cids frame (All-head IsCarried frame frames h), carries cids frames (All-tail IsCarried frame frames h))

one_arrives : (cids : List ℕ) (frame : WovenFrame) → IsCarried frame → arrivals_in (areas_with (made_of cids frame)) ≡ arrivals_of cids frame
one_arrives cids IdleFrame h = refl
one_arrives cids (PacketFrame c packet) h = ap (λ o. option_to_list o ++ []) (packet_arrives (get_or cids c 0) packet h.0)
one_arrives cids (LossFrame c) h = ap (λ o. option_to_list o ++ []) (loss_arrives (get_or cids c 0))

woven-end : (cids : List ℕ) (n : ℕ) → woven_within cids n [] ≡ []
unfolding woven_within
woven-end cids n = refl

woven-cut : (cids : List ℕ) (n : ℕ) (frame : WovenFrame) (frames : List WovenFrame) → n < woven_size cids frame → woven_within cids n (frame ∷ frames) ≡ []
unfolding woven_within
woven-cut cids n frame frames h = ap (λ b. cond b [] (frame ∷ woven_within cids (n - woven_size cids frame) frames)) (lt-ltb n (woven_size cids frame) h)

woven-whole : (cids : List ℕ) (n : ℕ) (frame : WovenFrame) (frames : List WovenFrame) → woven_size cids frame ≤ n → woven_within cids n (frame ∷ frames) ≡ frame ∷ woven_within cids (n - woven_size cids frame) frames
unfolding woven_within
woven-whole cids n frame frames h = ap (λ b. cond b [] (frame ∷ woven_within cids (n - woven_size cids frame) frames)) (le-ltb n (woven_size cids frame) h)

all_arrive : (cids : List ℕ) (n : ℕ) (frames : List WovenFrame) → All IsCarried frames → arrivals_in (areas_within n (map (made_of cids) frames)) ≡ flat_map (arrivals_of cids) (woven_within cids n frames)
all_arrive cids n [] h = ap arrivals_in (within-end n) ∙ ap (flat_map (arrivals_of cids)) (sym (woven-end cids n))
all_arrive cids n (frame ∷ frames) h = elim (cases_lt n (woven_size cids frame)) [
  | inl cut ↦ ap arrivals_in (areas-cut n (made_of cids frame) (map (made_of cids) frames) cut) ∙ ap (flat_map (arrivals_of cids)) (sym (woven-cut cids n frame frames cut))
  | inr whole ↦
      let left = n - woven_size cids frame in
      ap arrivals_in (areas-whole n (made_of cids frame) (map (made_of cids) frames) whole)
      ∙ arrivals-append (areas_with (made_of cids frame)) (areas_within left (map (made_of cids) frames))
      ∙ ap (λ y. y ++ arrivals_in (areas_within left (map (made_of cids) frames))) (one_arrives cids frame (All-head IsCarried frame frames h))
      ∙ ap (λ y. arrivals_of cids frame ++ y) (all_arrive cids left frames (All-tail IsCarried frame frames h))
      ∙ ap (flat_map (arrivals_of cids)) (sym (woven-whole cids n frame frames whole))
]

stream_arrives : (cids : List ℕ) (n : ℕ) (frames rest : List WovenFrame) → frames ≡ IdleFrame ∷ rest → All IsCarried frames
    → channel_arrivals (take n (text_of (map (made_of cids) frames))) ≡ flat_map (arrivals_of cids) (woven_within cids n frames)
stream_arrives cids n frames rest e h =
    let all : All IsCarried (IdleFrame ∷ rest) = subst (λ fs. All IsCarried fs) e h in
    ap (λ fs. channel_arrivals (take n (text_of (map (made_of cids) fs)))) e
    ∙ arrivals_are (take n (text_of (Idle ∷ map (made_of cids) rest)))
    ∙ ap arrivals_in (areas_found (map (made_of cids) rest) n (carries cids rest (All-tail IsCarried IdleFrame rest all)))
    ∙ all_arrive cids n (IdleFrame ∷ rest) all
    ∙ ap (λ fs. flat_map (arrivals_of cids) (woven_within cids n fs)) (sym e)

pub channels_arrive : ChannelsArrive
channels_arrive cids texts m n h =
    let first = weave_first texts m in stream_arrives cids n (weave texts m) first.0 first.1 (weave_carried texts m h)

-- ---- on one channel

rises : (cids : List ℕ) (d c : ℕ) → IsStrictlyIncreasing cids → d < c → c < length cids → get_or cids d 0 < get_or cids c 0
rises cids d zero h less there = absurd (omega arith)
rises cids d (suc c) h less there =
    let next : c + 1 < length cids = omega arith in
    let higher : get_or cids c 0 < get_or cids (c + 1) 0 = h c next in
    let same : get_or cids (c + 1) 0 ≡ get_or cids (suc c) 0 = ap (λ i. get_or cids i 0) (add-one c) in
    elim (cases_lt d c) [
      | inl lower ↦ (let before = rises cids d c h lower (omega arith) in omega arith)
      | inr last ↦ (let equal : d ≡ c = omega arith in let e : get_or cids d 0 ≡ get_or cids c 0 = ap (λ i. get_or cids i 0) equal in omega arith)
    ]

-- two channels have one CID only where they are one
same_cid : (cids : List ℕ) (d c : ℕ) → IsCidList cids → d < length cids → c < length cids → (get_or cids d 0 == get_or cids c 0) ≡ (d == c)
same_cid cids d c h there here = elim (cases_lt d c) [
  | inl less ↦ (let e = rises cids d c h.rising less here in ne_eqb (get_or cids d 0) (get_or cids c 0) (λ s. absurd (omega arith)) ∙ sym (ne_eqb d c (λ s. absurd (omega arith))))
  | inr not_less ↦ elim (cases_lt c d) [
    | inl more ↦ (let e = rises cids c d h.rising more there in ne_eqb (get_or cids d 0) (get_or cids c 0) (λ s. absurd (omega arith)) ∙ sym (ne_eqb d c (λ s. absurd (omega arith))))
    | inr same ↦ (let e : d ≡ c = omega arith in eq-eqb (get_or cids d 0) (get_or cids c 0) (ap (λ i. get_or cids i 0) e) ∙ sym (eq-eqb d c e))
  ]
]

kept_one : (cids : List ℕ) (frame : WovenFrame) (arrival : ChannelArrival) (b : Bool) → arrivals_of cids frame ≡ arrival ∷ [] → cond b (arrival ∷ []) [] ≡ flat_map (arrivals_of cids) (cond b (frame ∷ []) [])
kept_one cids frame arrival true e = sym (append-nil (arrivals_of cids frame) ∙ e)
kept_one cids frame arrival false e = refl

one_on : (cids : List ℕ) (c : ℕ) (frame : WovenFrame) → IsCidList cids → c < length cids → IsAmong (length cids) frame
    → filter (is_on (get_or cids c 0)) (arrivals_of cids frame) ≡ flat_map (arrivals_of cids) (filter (is_frame_of c) (frame ∷ []))
one_on cids c IdleFrame h here among = refl
one_on cids c (PacketFrame d packet) h here among =
    ap (λ b. cond b (PacketOn (get_or cids d 0) packet ∷ []) []) (same_cid cids d c h among here) ∙ kept_one cids (PacketFrame d packet) (PacketOn (get_or cids d 0) packet) (d == c) refl
one_on cids c (LossFrame d) h here among =
    ap (λ b. cond b (LossOn (get_or cids d 0) ∷ []) []) (same_cid cids d c h among here) ∙ kept_one cids (LossFrame d) (LossOn (get_or cids d 0)) (d == c) refl

all_on : (cids : List ℕ) (c : ℕ) (frames : List WovenFrame) → IsCidList cids → c < length cids → All (IsAmong (length cids)) frames
    → filter (is_on (get_or cids c 0)) (flat_map (arrivals_of cids) frames) ≡ flat_map (arrivals_of cids) (filter (is_frame_of c) frames)
all_on cids c [] h here among = refl
all_on cids c (frame ∷ frames) h here among =
    let k = get_or cids c 0 in
    filter-append (is_on k) (arrivals_of cids frame) (flat_map (arrivals_of cids) frames)
    ∙ ap (λ y. y ++ filter (is_on k) (flat_map (arrivals_of cids) frames)) (one_on cids c frame h here (All-head (IsAmong (length cids)) frame frames among))
    ∙ ap (λ y. flat_map (arrivals_of cids) (filter (is_frame_of c) (frame ∷ [])) ++ y) (all_on cids c frames h here (All-tail (IsAmong (length cids)) frame frames among))
    ∙ sym (flat_map-append (arrivals_of cids) (filter (is_frame_of c) (frame ∷ [])) (filter (is_frame_of c) frames))
    ∙ ap (flat_map (arrivals_of cids)) (sym (filter-append (is_frame_of c) (frame ∷ []) frames))

-- what lies whole in the first bytes is a front
within_front : (cids : List ℕ) (n : ℕ) (frames : List WovenFrame) → (rest : List WovenFrame) × (frames ≡ woven_within cids n frames ++ rest)
within_front cids n [] = ([], ap (λ y. y ++ []) (sym (woven-end cids n)))
within_front cids n (frame ∷ frames) = elim (cases_lt n (woven_size cids frame)) [
  | inl cut ↦ (frame ∷ frames, ap (λ y. y ++ frame ∷ frames) (sym (woven-cut cids n frame frames cut)))
  | inr whole ↦
      let front = within_front cids (n - woven_size cids frame) frames in
      (front.0, ap (λ y. frame ∷ y) front.1 ∙ ap (λ y. y ++ front.0) (sym (woven-whole cids n frame frames whole)))
]

All-front : (P : WovenFrame → Type 0) (front rest : List WovenFrame) → All P (front ++ rest) → All P front
All-front P [] rest h = All-nil P
All-front P (frame ∷ front) rest h = All-cons P frame front (All-head P frame (front ++ rest) h) (All-front P front rest (All-tail P frame (front ++ rest) h))

within_among : (cids : List ℕ) (texts : List ChannelText) (m n : ℕ) → length texts ≡ length cids → 0 < length texts → All (IsAmong (length cids)) (woven_within cids n (weave texts m))
within_among cids texts m n size some =
    let P : ℕ → Type 0 = λ count. All (IsAmong count) (weave texts m) in
    let Q : List WovenFrame → Type 0 = λ fs. All (IsAmong (length cids)) fs in
    let front = within_front cids n (weave texts m) in
    All-front (IsAmong (length cids)) (woven_within cids n (weave texts m)) front.0 (subst Q front.1 (subst P size (weave_among texts m some)))

pub each_arrives : EachChannelArrives
each_arrives cids texts m n c h size carried here =
    ap (filter (is_on (get_or cids c 0))) (channels_arrive cids texts m n carried)
    ∙ all_on cids c (woven_within cids n (weave texts m)) h here (within_among cids texts m n size (omega arith))

-- ---- its packets

one_packet : (cids : List ℕ) (c : ℕ) (frame : WovenFrame) → IsCidList cids → c < length cids → IsAmong (length cids) frame → packets_on (get_or cids c 0) (arrivals_of cids frame) ≡ packet_of c frame
one_packet cids c IdleFrame h here among = refl
one_packet cids c (PacketFrame d packet) h here among =
    append-nil (cond (get_or cids d 0 == get_or cids c 0) (packet ∷ []) []) ∙ ap (λ b. cond b (packet ∷ []) []) (same_cid cids d c h among here)
one_packet cids c (LossFrame d) h here among = refl

all_packets : (cids : List ℕ) (c : ℕ) (frames : List WovenFrame) → IsCidList cids → c < length cids → All (IsAmong (length cids)) frames → packets_on (get_or cids c 0) (flat_map (arrivals_of cids) frames) ≡ packets_given c frames
all_packets cids c [] h here among = refl
all_packets cids c (frame ∷ frames) h here among =
    let k = get_or cids c 0 in
    flat_map-append (packet_on k) (arrivals_of cids frame) (flat_map (arrivals_of cids) frames)
    ∙ ap (λ y. y ++ packets_on k (flat_map (arrivals_of cids) frames)) (one_packet cids c frame h here (All-head (IsAmong (length cids)) frame frames among))
    ∙ ap (λ y. packet_of c frame ++ y) (all_packets cids c frames h here (All-tail (IsAmong (length cids)) frame frames among))

pub given_within : (cids : List ℕ) (texts : List ChannelText) (m n c : ℕ) → IsFront (packets_given c (woven_within cids n (weave texts m))) (packets_given c (weave texts m))
given_within cids texts m n c =
    let front = within_front cids n (weave texts m) in
    (packets_given c front.0, ap (packets_given c) front.1 ∙ flat_map-append (packet_of c) (woven_within cids n (weave texts m)) front.0)

-- the packets that arrive on a channel are those of its own frames
pub packets_arrive : (cids : List ℕ) (texts : List ChannelText) (m n c : ℕ) → IsCidList cids → length texts ≡ length cids → All AreCarried texts → c < length cids
    → packets_on (get_or cids c 0) (woven_arrivals cids texts m n) ≡ packets_given c (woven_within cids n (weave texts m))
packets_arrive cids texts m n c h size carried here =
    ap (packets_on (get_or cids c 0)) (channels_arrive cids texts m n carried) ∙ all_packets cids c (woven_within cids n (weave texts m)) h here (within_among cids texts m n size (omega arith))

pub first_arrive : FirstPacketsArrive
first_arrive cids texts m n c h size carried here =
    let P : List (List ℕ) → Type 0 = λ ps. IsFront ps (get_or texts c no_text).packets in
    subst P (sym (packets_arrive cids texts m n c h size carried here))
    (front_on (packets_given c (woven_within cids n (weave texts m))) (packets_given c (weave texts m)) (get_or texts c no_text).packets (given_within cids texts m n c) (weave_front texts m c))

pub others_make_none : OthersMakeNoDifference
others_make_none cids texts others m n k l c h size other_size carried other_carried here same =
    let first = first_arrive cids texts m n c h size carried here in
    let second = first_arrive cids others k l c h other_size other_carried here in
    fronts_of_one (packets_on (get_or cids c 0) (woven_arrivals cids texts m n)) (packets_on (get_or cids c 0) (woven_arrivals cids others k l)) first.0 second.0
    (sym first.1 ∙ ap (λ (t : ChannelText). t.packets) same ∙ second.1)

pub stays : ArrivalsStay
stays bytes more =
    let grown = areas_grow bytes more in (arrivals_in grown.0, arrived_on bytes (bytes ++ more) grown.0 grown.1)
