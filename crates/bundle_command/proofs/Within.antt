-- Which frames of the stream lie whole in its first bytes, and which are begun.
use Rattle.std.proofs.Common.{◌≡◌, ◌≢◌, ◌⊎◌, inl, inr, ◌<◌, ◌≤◌, ◌+◌, ◌-◌, ◌*◌, ◌/◌, ◌%◌, ℕ, zero, suc, Bool, true, false, cond, List, [], ◌∷◌, ◌++◌, length, get_or, map, take, drop, refl, sym, ap, subst, ◌∙◌, append-nil, append_assoc, length-append, arith}
use Rattle.std.proofs.lemmas.Bool.{cases_lt, eq-eqb, lt-ltb, le-ltb}
use Rattle.std.proofs.lemmas.Grind.{flat_map-append}
use Rattle.std.proofs.lemmas.List.{take-append-drop, length-take-le}
use Rattle.gfp_linear.specs.Laws.{IsFront}
use Rattle.gfp_linear.specs.Weave.{ChannelText, WovenFrame, IdleFrame, PacketFrame, LossFrame, packet_of, packets_given, weave, woven_size, woven_within}
use Rattle.gfp_linear.proofs.Weaves.{given-push, weave-length, weave-take}
use Rattle.bundle_command.specs.BundleStream.{woven_begun}
use Rattle.bundle_command.specs.Steps.Channels.{PacketsEnd, woven_bytes}
use Rattle.bundle_command.proofs.Sizes.{bytes-append, bytes-none, bytes-push, many_bytes, packet_bytes, size_some}

-- ---- steps of the definitions

within-none : (cids : List ℕ) (n : ℕ) → woven_within cids n [] ≡ []
unfolding woven_within
within-none cids n = refl

within-cut : (cids : List ℕ) (n : ℕ) (frame : WovenFrame) (frames : List WovenFrame) → n < woven_size cids frame → woven_within cids n (frame ∷ frames) ≡ []
unfolding woven_within
within-cut cids n frame frames h = ap (λ b. cond b [] (frame ∷ woven_within cids (n - woven_size cids frame) frames)) (lt-ltb n (woven_size cids frame) h)

within-whole : (cids : List ℕ) (n : ℕ) (frame : WovenFrame) (frames : List WovenFrame) → woven_size cids frame ≤ n → woven_within cids n (frame ∷ frames) ≡ frame ∷ woven_within cids (n - woven_size cids frame) frames
unfolding woven_within
within-whole cids n frame frames h = ap (λ b. cond b [] (frame ∷ woven_within cids (n - woven_size cids frame) frames)) (le-ltb n (woven_size cids frame) h)

begun-none : (cids : List ℕ) (n : ℕ) → woven_begun cids n [] ≡ []
unfolding woven_begun
begun-none cids n = refl

begun-stop : (cids : List ℕ) (frames : List WovenFrame) → woven_begun cids 0 frames ≡ []
unfolding woven_begun
begun-stop cids [] = refl
begun-stop cids (frame ∷ frames) = refl

begun-on : (cids : List ℕ) (n : ℕ) (frame : WovenFrame) (frames : List WovenFrame) → 0 < n → woven_begun cids n (frame ∷ frames) ≡ frame ∷ woven_begun cids (n - woven_size cids frame) frames
unfolding woven_begun
begun-on cids n frame frames some = ap (λ b. cond b (frame ∷ woven_begun cids (n - woven_size cids frame) frames) []) (lt-ltb 0 n some)

bytes-cons : (cids : List ℕ) (frame : WovenFrame) (frames : List WovenFrame) → woven_bytes cids (frame ∷ frames) ≡ woven_size cids frame + woven_bytes cids frames
unfolding woven_bytes
bytes-cons cids frame frames = refl

-- ---- whole frames

-- what lies whole in the first bytes is a front
pub within_front : (cids : List ℕ) (n : ℕ) (frames : List WovenFrame) → (rest : List WovenFrame) × (frames ≡ woven_within cids n frames ++ rest)
within_front cids n [] = ([], ap (λ y. y ++ []) (sym (within-none cids n)))
within_front cids n (frame ∷ frames) = elim (cases_lt n (woven_size cids frame)) [
  | inl cut ↦ (frame ∷ frames, ap (λ y. y ++ frame ∷ frames) (sym (within-cut cids n frame frames cut)))
  | inr whole ↦
      let front = within_front cids (n - woven_size cids frame) frames in
      (front.0, ap (λ y. frame ∷ y) front.1 ∙ ap (λ y. y ++ front.0) (sym (within-whole cids n frame frames whole)))
]

-- frames behind do not lie in fewer bytes
pub within_short : (cids : List ℕ) (n : ℕ) (xs ys : List WovenFrame) → n < woven_bytes cids xs + 4 → woven_within cids n (xs ++ ys) ≡ woven_within cids n xs
within_short cids n [] [] less = refl
within_short cids n [] (y ∷ ys) less = within-cut cids n y ys (let s = size_some cids y in let e = bytes-none cids in omega arith) ∙ sym (within-none cids n)
within_short cids n (x ∷ xs) ys less = elim (cases_lt n (woven_size cids x)) [
  | inl cut ↦ within-cut cids n x (xs ++ ys) cut ∙ sym (within-cut cids n x xs cut)
  | inr whole ↦
      let b = bytes-cons cids x xs in
      within-whole cids n x (xs ++ ys) whole ∙ ap (λ y. x ∷ y) (within_short cids (n - woven_size cids x) xs ys (omega arith)) ∙ sym (within-whole cids n x xs whole)
]

-- nor the last of them
pub within_cut : (cids : List ℕ) (n : ℕ) (xs : List WovenFrame) (x : WovenFrame) → n < woven_bytes cids xs + woven_size cids x → woven_within cids n (xs ++ x ∷ []) ≡ woven_within cids n xs
within_cut cids n [] x less = within-cut cids n x [] (let e = bytes-none cids in omega arith) ∙ sym (within-none cids n)
within_cut cids n (y ∷ xs) x less = elim (cases_lt n (woven_size cids y)) [
  | inl cut ↦ within-cut cids n y (xs ++ x ∷ []) cut ∙ sym (within-cut cids n y xs cut)
  | inr whole ↦
      let b = bytes-cons cids y xs in
      within-whole cids n y (xs ++ x ∷ []) whole ∙ ap (λ z. y ∷ z) (within_cut cids (n - woven_size cids y) xs x (omega arith)) ∙ sym (within-whole cids n y xs whole)
]

pub within_all : (cids : List ℕ) (n : ℕ) (xs ys : List WovenFrame) → woven_bytes cids xs ≤ n → woven_within cids n (xs ++ ys) ≡ xs ++ woven_within cids (n - woven_bytes cids xs) ys
within_all cids n [] ys enough = ap (λ k. woven_within cids k ys) (let e = bytes-none cids in let f : n ≡ n - woven_bytes cids [] = omega arith in f)
within_all cids n (x ∷ xs) ys enough =
    let b = bytes-cons cids x xs in
    within-whole cids n x (xs ++ ys) (omega arith) ∙ ap (λ y. x ∷ y) (within_all cids (n - woven_size cids x) xs ys (omega arith))
    ∙ ap (λ k. x ∷ (xs ++ woven_within cids k ys)) (let e : n - woven_size cids x - woven_bytes cids xs ≡ n - woven_bytes cids (x ∷ xs) = omega arith in e)

-- ---- frames that are begun

pub begun_all : (cids : List ℕ) (n : ℕ) (xs : List WovenFrame) (x : WovenFrame) (ys : List WovenFrame) → woven_bytes cids xs < n → n ≤ woven_bytes cids xs + woven_size cids x
    → woven_begun cids n (xs ++ (x ∷ ys)) ≡ xs ++ x ∷ []
begun_all cids n [] x ys more few =
    let e = bytes-none cids in
    begun-on cids n x ys (omega arith) ∙ ap (λ k. x ∷ woven_begun cids k ys) (let z : n - woven_size cids x ≡ 0 = omega arith in z) ∙ ap (λ y. x ∷ y) (begun-stop cids ys)
begun_all cids n (z ∷ xs) x ys more few =
    let b = bytes-cons cids z xs in
    begun-on cids n z (xs ++ (x ∷ ys)) (omega arith) ∙ ap (λ y. z ∷ y) (begun_all cids (n - woven_size cids z) xs x ys (omega arith) (omega arith))

-- ---- the packets of these

pub given-append : (c : ℕ) (xs ys : List WovenFrame) → packets_given c (xs ++ ys) ≡ packets_given c xs ++ packets_given c ys
given-append c xs ys = flat_map-append (packet_of c) xs ys

none_front : (xs ys : List (List ℕ)) → xs ++ ys ≡ [] → xs ≡ []
none_front [] ys e = refl
none_front (x ∷ xs) ys e = absurd (let n = ap length e in omega arith)

-- where the last packet's frame lies whole in the first bytes, all packets' frames do
pub all_whole : (cids : List ℕ) (n end c : ℕ) (frames : List WovenFrame) → PacketsEnd cids frames end → end ≤ n → packets_given c (woven_within cids n frames) ≡ packets_given c frames
all_whole cids n end c frames h enough =
    let rest = woven_within cids (n - woven_bytes cids h.before) h.behind in
    let split : woven_within cids n frames ≡ h.before ++ rest = ap (woven_within cids n) h.parts ∙ within_all cids n h.before h.behind (let b = h.bytes in omega arith) in
    let front = within_front cids (n - woven_bytes cids h.before) h.behind in
    let none : packets_given c rest ≡ [] = none_front (packets_given c rest) (packets_given c front.0) (sym (given-append c rest front.0) ∙ ap (packets_given c) (sym front.1) ∙ h.none c) in
    ap (packets_given c) split ∙ given-append c h.before rest ∙ ap (λ ps. packets_given c h.before ++ ps) (none ∙ sym (h.none c)) ∙ sym (given-append c h.before h.behind) ∙ ap (packets_given c) (sym h.parts)

-- else some channel's are not
pub record NotWhole (cids : List ℕ) (n : ℕ) (frames : List WovenFrame) : Type 0 where
  pub c : ℕ
  pub fewer : length (packets_given c (woven_within cids n frames)) < length (packets_given c frames)

pub front_fewer : (cids : List ℕ) (n c : ℕ) (frames : List WovenFrame) → length (packets_given c (woven_within cids n frames)) ≤ length (packets_given c frames)
front_fewer cids n c frames =
    let front = within_front cids n frames in
    let e : packets_given c frames ≡ packets_given c (woven_within cids n frames) ++ packets_given c front.0 = ap (packets_given c) front.1 ∙ given-append c (woven_within cids n frames) front.0 in
    (let l = ap length e in let s = length-append (packets_given c (woven_within cids n frames)) (packets_given c front.0) in omega arith)

pub not_whole : (cids : List ℕ) (n end : ℕ) (frames : List WovenFrame) → PacketsEnd cids frames end → n < end → NotWhole cids n frames
not_whole cids n end frames h less = go h.ends
  where
    go : (h.before ≡ []) ⊎ ((before : List WovenFrame) × (c : ℕ) × (packet : List ℕ) × (h.before ≡ before ++ PacketFrame c packet ∷ [])) → NotWhole cids n frames
    go (inl none) = absurd (let b = h.bytes in let z = ap (woven_bytes cids) none in let e = bytes-none cids in omega arith)
    go (inr (before, c, packet, is)) =
        let b : woven_bytes cids h.before ≡ woven_bytes cids before + woven_size cids (PacketFrame c packet) = ap (woven_bytes cids) is ∙ bytes-push cids before (PacketFrame c packet) in
        let cut : woven_within cids n frames ≡ woven_within cids n before =
        ap (woven_within cids n) h.parts ∙ within_short cids n h.before h.behind (let e = h.bytes in omega arith) ∙ ap (woven_within cids n) is ∙ within_cut cids n before (PacketFrame c packet) (let e = h.bytes in omega arith) in
        let few = front_fewer cids n c before in
        let one : packets_given c h.before ≡ packets_given c before ++ packet_of c (PacketFrame c packet) = ap (packets_given c) is ∙ given-push c before (PacketFrame c packet) in
        let all : packets_given c frames ≡ packets_given c h.before ++ packets_given c h.behind = ap (packets_given c) h.parts ∙ given-append c h.before h.behind in
        record {
          c = c;
          fewer = (let l1 = ap length all in let l2 = ap length one in let l3 = length-append (packets_given c h.before) (packets_given c h.behind) in
              let l4 = length-append (packets_given c before) (packet_of c (PacketFrame c packet)) in let l5 = ap length (here c packet) in let l6 = ap (λ fs. length (packets_given c fs)) cut in omega arith);
        }
      where
        here : (c : ℕ) (packet : List ℕ) → packet_of c (PacketFrame c packet) ≡ packet ∷ []
        here c packet = ap (λ b. cond b (packet ∷ []) []) (eq-eqb c c refl)

-- ---- the stream goes on

pub weave_more : (texts : List ChannelText) (k n : ℕ) → k ≤ n → (rest : List WovenFrame) × (weave texts n ≡ weave texts k ++ rest)
weave_more texts k n h =
    (drop (suc k) (weave texts n), sym (take-append-drop (suc k) (weave texts n)) ∙ ap (λ fs. fs ++ drop (suc k) (weave texts n)) (weave-take texts k n h))

-- ---- how many frames are begun and whole

pub frame_counts : (s : ℕ) → ((s + 15295) / 15296 ≡ s / 15296 + 1) ⊎ (((s + 15295) / 15296 ≡ s / 15296) × (s ≡ 15296 * (s / 15296)))
frame_counts s = elim (cases_lt 0 (s % 15296)) [
  | inl some ↦ inl (omega arith)
  | inr none ↦ inr ((let e : (s + 15295) / 15296 ≡ s / 15296 = omega arith in e), (let e : s ≡ 15296 * (s / 15296) = omega arith in e))
]
