-- Channels take turns.
use Rattle.std.proofs.Common.{◌≡◌, ◌≢◌, ℕ, zero, suc, ◌+◌, ◌-◌, ◌*◌, ◌/◌, ◌%◌, ◌<◌, ◌≤◌, List, [], ◌∷◌, ◌++◌, Bool, true, false, cond, Option, Some, None, length, get_or, refl, ap, ◌∙◌, sym, subst, arith, ◌⊎◌, inl, inr, append-nil, append_assoc, length-append}
use Rattle.std.specs.Prelude.{IfSome, slice_get, ◌==◌}
use Rattle.std.specs.List.{filter}
use Rattle.std.specs.Option.{is_some}
use Rattle.std.proofs.Math.Nat.{mod-lt, mod-add-div, add-mul-mod_self_left, add-mod_right, mod-eq_of_lt}
use Rattle.std.proofs.lemmas.Grind.{flat_map-append}
use Rattle.std.proofs.lemmas.Bool.{cases_lt, false≢true, eq-eqb, ne_eqb}
use Rattle.gfp_linear.specs.Weave.{ChannelText, WovenFrame, IdleFrame, PacketFrame, LossFrame, last_giver, giver_or, packets_given, packet_of, asked_first, asked_after, given_of, offer, no_text, frame_or, next_of, next_frame, weave, is_frame_of}
use Rattle.gfp_linear.specs.Laws.{ChannelsTakeTurns, NoneIdleWhileOneWaits}
use Rattle.gfp_linear.proofs.Weaving.{giver-push}
use Rattle.gfp_linear.proofs.Weaves.{next-on, next_holds, given_holds, if_some_map, next_is}

-- ---- round the channels

shifted : (a r t b : ℕ) → r + t ≡ a → a + b ≡ r + b + t
shifted a r t b e = omega (arith, e)

mod-add : (a b n : ℕ) → (a % n + b) % n ≡ (a + b) % n
mod-add a b n = sym (ap (λ m. m % n) (shifted a (a % n) (n * (a / n)) b (mod-add-div a n)) ∙ add-mul-mod_self_left (a % n + b) n (a / n))

-- the channel that is asked after one gave a frame
asked_next : (count first j x : ℕ) → asked_after count (Some ((first + j) % count)) x ≡ (first + (j + 1 + x)) % count
asked_next count first j x =
    mod-add ((first + j) % count + 1) x count
    ∙ ap (λ m. m % count) (let e : (first + j) % count + 1 + x ≡ (first + j) % count + (1 + x) = omega arith in e)
    ∙ mod-add (first + j) (1 + x) count
    ∙ ap (λ m. m % count) (let e : first + j + (1 + x) ≡ first + (j + 1 + x) = omega arith in e)

-- each channel is asked once in a round
place_of : (count first d : ℕ) → first < count → d < count → (i : ℕ) × (i < count) × ((first + i) % count ≡ d)
place_of count first d h there = (
  (d + (count - first)) % count,
  mod-lt (d + (count - first)) (let e : 0 < count = omega arith in e),
  ap (λ m. m % count) (let e : first + (d + (count - first)) % count ≡ (d + (count - first)) % count + first = omega arith in e)
      ∙ mod-add (d + (count - first)) first count
      ∙ ap (λ m. m % count) (let e : d + (count - first) + first ≡ d + count = omega arith in e)
      ∙ add-mod_right d count
      ∙ mod-eq_of_lt there,
)

asked_first_within : (count : ℕ) (last : Option ℕ) → 0 < count → asked_first count last < count
asked_first_within count None h = h
asked_first_within count (Some giver) h = mod-lt (giver + 1) h

back : (count first i : ℕ) → first < count → i < count → ((first + i) % count + (count - first)) % count ≡ i
back count first i h there =
    mod-add (first + i) (count - first) count
    ∙ ap (λ m. m % count) (let e : first + i + (count - first) ≡ i + count = omega arith in e)
    ∙ add-mod_right i count
    ∙ mod-eq_of_lt there

same_place : (count first i j : ℕ) → first < count → i < count → j < count → (first + i) % count ≡ (first + j) % count → i ≡ j
same_place count first i j h hi hj e = sym (back count first i h hi) ∙ ap (λ m. (m + (count - first)) % count) e ∙ back count first j h hj

-- ---- what a channel gives is its own

record IsOwn (d : ℕ) (frame : WovenFrame) : Type 0 where
  giver : (last : Option ℕ) → giver_or last frame ≡ Some d
  owner : (e : ℕ) → is_frame_of e frame ≡ (d == e)

own_packet : (d : ℕ) (packet : List ℕ) → IsOwn d (PacketFrame d packet)
own_packet d packet = record { giver = λ last. refl; owner = λ e. refl }

own_loss : (d : ℕ) → IsOwn d (LossFrame d)
own_loss d = record { giver = λ last. refl; owner = λ e. refl }

each_some : {X : Type 0} (P : X → Type 0) (o : Option X) → ((x : X) → P x) → IfSome o P
each_some P (Some x) f = f x
each_some P None f = tt

offered_own : (d : ℕ) (text : ChannelText) (frames : List WovenFrame) (frame : WovenFrame) → offer d text frames ≡ Some frame → IsOwn d frame
offered_own d text frames frame e =
    let left = slice_get text.packets (length (packets_given d frames)) in
    let all : IfSome (offer d text frames) (IsOwn d) = given_holds (IsOwn d) d frames left text.is_lost (each_some (λ packet. IsOwn d (PacketFrame d packet)) left (own_packet d)) (own_loss d) in
    subst (λ o. IfSome o (IsOwn d)) e all

-- ---- the packet that waits

is_packet : WovenFrame → Bool
is_packet IdleFrame = false
is_packet (PacketFrame c packet) = true
is_packet (LossFrame c) = false

channel_in : WovenFrame → ℕ
channel_in IdleFrame = 0
channel_in (PacketFrame c packet) = c
channel_in (LossFrame c) = c

packet_in : WovenFrame → List ℕ
packet_in IdleFrame = []
packet_in (PacketFrame c packet) = packet
packet_in (LossFrame c) = []

self_some : {X : Type 0} (o : Option X) → IfSome o (λ x. o ≡ Some x)
self_some (Some x) = refl
self_some None = tt

-- a packet that is given was waiting
was_waiting : (texts : List ChannelText) (frames : List WovenFrame) (c : ℕ) (q : List ℕ) → next_frame texts frames ≡ PacketFrame c q
    → slice_get (get_or texts c no_text).packets (length (packets_given c frames)) ≡ Some q
unfolding is_packet channel_in packet_in
was_waiting texts frames c q e = next_holds P (length texts) texts frames 0 (λ f. absurd (false≢true (ap is_packet f)))
    (λ k.
    let d = asked_after (length texts) (last_giver frames) k in
    let left = slice_get (get_or texts d no_text).packets (length (packets_given d frames)) in
    given_holds P d frames left (get_or texts d no_text).is_lost
    (if_some_map (λ x. left ≡ Some x) (λ x. P (PacketFrame d x)) left
    (λ x is f.
    let same : d ≡ c = ap channel_in f in
    let W : ℕ → Type 0 = λ i. slice_get (get_or texts i no_text).packets (length (packets_given i frames)) ≡ Some x in
    subst W same is ∙ ap (λ y. Some (packet_in y)) f)
    (self_some left))
    (λ f. absurd (false≢true (ap is_packet f))))
    e
  where
    P : WovenFrame → Type 0
    P = λ frame. frame ≡ PacketFrame c q → slice_get (get_or texts c no_text).packets (length (packets_given c frames)) ≡ Some q

-- ---- who gives the next frame, where a packet waits

record GivenBy (texts : List ChannelText) (frames : List WovenFrame) (k : ℕ) (frame : WovenFrame) : Type 0 where
  place : ℕ
  at_most : place ≤ k
  offered : offer (asked_after (length texts) (last_giver frames) place) (get_or texts (asked_after (length texts) (last_giver frames) place) no_text) frames ≡ Some frame

abbrev offer_at : List ChannelText → List WovenFrame → ℕ → Option WovenFrame
offer_at texts frames k = offer (asked_after (length texts) (last_giver frames) k) (get_or texts (asked_after (length texts) (last_giver frames) k) no_text) frames

some_or_none : (o : Option WovenFrame) → (o ≡ None) ⊎ ((x : WovenFrame) × (o ≡ Some x))
some_or_none None = inl refl
some_or_none (Some x) = inr (x, refl)

given_by : (left : ℕ) (texts : List ChannelText) (frames : List WovenFrame) (others k : ℕ) → others ≤ k → k < others + left → is_some (offer_at texts frames k) ≡ true → GivenBy texts frames k (next_of left texts frames others)
given_by zero texts frames others k low high some = absurd (omega arith)
given_by (suc left) texts frames others k low high some =
    let P : WovenFrame → Type 0 = λ f. GivenBy texts frames k f in
    elim (some_or_none (offer_at texts frames others)) [
      | inl none ↦
          let next : next_of (suc left) texts frames others ≡ next_of left texts frames (others + 1) = next-on left texts frames others ∙ ap (λ o. frame_or o (next_of left texts frames (others + 1))) none in
          let later : others < k = elim (cases_lt others k) [
            | inl less ↦ less
            | inr not_less ↦ absurd (false≢true (sym (ap is_some none) ∙ ap (λ i. is_some (offer_at texts frames i)) (let e : others ≡ k = omega arith in e) ∙ some))
          ] in
          subst P (sym next) (given_by left texts frames (others + 1) k (omega arith) (omega arith) some)
      | inr (frame, is) ↦
          let next : next_of (suc left) texts frames others ≡ frame = next-on left texts frames others ∙ ap (λ o. frame_or o (next_of left texts frames (others + 1))) is in
          subst P (sym next) (record { place = others; at_most = low; offered = is })
    ]

-- ---- one frame after another

no_front : {X : Type 0} (xs ys : List X) → xs ++ ys ≡ [] → xs ≡ []
no_front [] ys e = refl
no_front (x ∷ xs) ys e = absurd (let l = ap length e in omega arith)

no_end : {X : Type 0} (xs ys : List X) → xs ++ ys ≡ [] → ys ≡ []
no_end [] ys e = e
no_end (x ∷ xs) ys e = absurd (let l = ap length e in omega arith)

-- a list of a kept packet is not empty
some_kept : (c : ℕ) (q : List ℕ) → packet_of c (PacketFrame c q) ≡ [] → ⊥
some_kept c q e = let kept = ap (λ b. length (cond b (q ∷ []) [])) (eq-eqb c c refl) in let l = ap length e in omega arith

-- how many frames of a channel there are, if it is asked i-th where the channel whose packet waits is asked k-th
record AtMost (d i k : ℕ) (frames : List WovenFrame) : Type 0 where
  later : k ≤ i → length (filter (is_frame_of d) frames) ≡ 0
  once : length (filter (is_frame_of d) frames) ≤ 1

count-cons : (d : ℕ) (frame : WovenFrame) (frames : List WovenFrame) (b : Bool) → is_frame_of d frame ≡ b → length (filter (is_frame_of d) (frame ∷ frames)) ≡ cond b 1 0 + length (filter (is_frame_of d) frames)
count-cons d frame frames true e = ap (λ b. length (cond b (frame ∷ filter (is_frame_of d) frames) (filter (is_frame_of d) frames))) e ∙ (let s : suc (length (filter (is_frame_of d) frames)) ≡ 1 + length (filter (is_frame_of d) frames) = omega arith in s)
count-cons d frame frames false e = ap (λ b. length (cond b (frame ∷ filter (is_frame_of d) frames) (filter (is_frame_of d) frames))) e ∙ (let s : length (filter (is_frame_of d) frames) ≡ 0 + length (filter (is_frame_of d) frames) = omega arith in s)

turns : (texts : List ChannelText) (n c d : ℕ) (q : List ℕ) (after between frames : List WovenFrame) (k i : ℕ) → weave texts n ≡ frames ++ (between ++ (PacketFrame c q ∷ after)) → 0 < length frames
    → k < length texts → asked_after (length texts) (last_giver frames) k ≡ c → i < length texts → asked_after (length texts) (last_giver frames) i ≡ d
    → packets_given c between ≡ [] → AtMost d i k between
turns texts n c d q after [] frames k i e some hk ek hi ei none = record { later = λ _. refl; once = omega arith }
turns texts n c d q after (f ∷ between) frames k i e some hk ek hi ei none =
    let count = length texts in
    let first = asked_first count (last_giver frames) in
    let first_in : first < count = asked_first_within count (last_giver frames) (omega arith) in
    let rest = between ++ (PacketFrame c q ∷ after) in
    let is_next : f ≡ next_frame texts frames = next_is texts n frames f rest e some in
    let all = frames ++ (f ∷ between) in
    let later_next : PacketFrame c q ≡ next_frame texts all =
    next_is texts n all (PacketFrame c q) after (e ∙ sym (append_assoc frames (f ∷ between) (PacketFrame c q ∷ after))) (let l = length-append frames (f ∷ between) in omega arith) in
    let same_given : packets_given c all ≡ packets_given c frames =
    flat_map-append (packet_of c) frames (f ∷ between) ∙ ap (λ ps. packets_given c frames ++ ps) none ∙ append-nil (packets_given c frames) in
    let waiting : slice_get (get_or texts c no_text).packets (length (packets_given c frames)) ≡ Some q =
    ap (λ ps. slice_get (get_or texts c no_text).packets (length ps)) (sym same_given) ∙ was_waiting texts all c q (sym later_next) in
    let offer_k : offer_at texts frames k ≡ Some (PacketFrame c q) =
    ap (λ x. offer x (get_or texts x no_text) frames) ek ∙ ap (λ o. given_of c frames o (get_or texts c no_text).is_lost) waiting in
    let by = given_by count texts frames 0 k (omega arith) (omega arith) (ap is_some offer_k) in
    let j = by.place in
    let g = asked_after count (last_giver frames) j in
    let O : WovenFrame → Type 0 = λ x. IsOwn g x in
    let own : IsOwn g f = subst O (sym is_next) (offered_own g (get_or texts g no_text) frames (next_frame texts frames) by.offered) in
    let no_packet : packet_of c f ≡ [] = no_front (packet_of c f) (packets_given c between) none in
    let before_k : j < k = elim (cases_lt j k) [
      | inl less ↦ less
      | inr not_less ↦
          let low = by.at_most in
          let last : j ≡ k = omega arith in
          let is_q : f ≡ PacketFrame c q = is_next ∙ ap (λ o. frame_or o IdleFrame) (sym by.offered ∙ ap (offer_at texts frames) last ∙ offer_k) in
          absurd (some_kept c q (ap (packet_of c) (sym is_q) ∙ no_packet))
    ] in
    let next = frames ++ f ∷ [] in
    let giver : last_giver next ≡ Some g = giver-push frames f ∙ own.giver (last_giver frames) in
    let asked : (x : ℕ) → asked_after count (last_giver next) x ≡ (first + (j + 1 + x)) % count = λ x. ap (λ l. asked_after count l x) giver ∙ asked_next count first j x in
    let e' : weave texts n ≡ next ++ rest = e ∙ sym (append_assoc frames (f ∷ []) rest) in
    let some' : 0 < length next = (let l = length-append frames (f ∷ []) in omega arith) in
    let none' : packets_given c between ≡ [] = no_end (packet_of c f) (packets_given c between) none in
    let k' = k - j - 1 in
    let ek' : asked_after count (last_giver next) k' ≡ c = asked k' ∙ ap (λ m. (first + m) % count) (let s : j + 1 + k' ≡ k = omega arith in s) ∙ ek in
    let hk' : k' < count = omega arith in
    let hj : j < count = omega arith in
    let other : i ≢ j → is_frame_of d f ≡ false = λ apart. own.owner d ∙ ne_eqb g d (λ same. apart (same_place count first i j first_in hi hj (ei ∙ sym same))) in
    elim (cases_lt j i) [
      | inl behind ↦
          let i' = i - j - 1 in
          let r = turns texts n c d q after between next k' i' e' some' hk' ek' (omega arith) (asked i' ∙ ap (λ m. (first + m) % count) (let s : j + 1 + i' ≡ i = omega arith in s) ∙ ei) none' in
          let size = count-cons d f between false (other (λ same. absurd (omega arith))) in
          record { later = λ h. (let gone = r.later (omega arith) in omega (arith, size, gone)); once = (let o = r.once in omega (arith, size, o)) }
      | inr not_behind ↦ elim (cases_lt i j) [
        | inl ahead ↦
            let i' = count + i - j - 1 in
            let back_at : asked_after count (last_giver next) i' ≡ d =
            asked i' ∙ ap (λ m. m % count) (let s : first + (j + 1 + i') ≡ first + i + count = omega arith in s) ∙ add-mod_right (first + i) count ∙ ei in
            let r = turns texts n c d q after between next k' i' e' some' hk' ek' (omega arith) back_at none' in
            let size = count-cons d f between false (other (λ same. absurd (omega arith))) in
            let gone = r.later (omega arith) in
            record { later = λ h. omega (arith, size, gone); once = omega (arith, size, gone) }
        | inr same ↦
            let here : i ≡ j = omega arith in
            let i' = count - 1 in
            let back_at : asked_after count (last_giver next) i' ≡ d =
            asked i' ∙ ap (λ m. m % count) (let s : first + (j + 1 + i') ≡ first + i + count = omega arith in s) ∙ add-mod_right (first + i) count ∙ ei in
            let r = turns texts n c d q after between next k' i' e' some' hk' ek' (omega arith) back_at none' in
            let size = count-cons d f between true (own.owner d ∙ eq-eqb g d (ap (λ x. (first + x) % count) (sym here) ∙ ei)) in
            let gone = r.later (omega arith) in
            record { later = λ h. absurd (omega arith); once = omega (arith, size, gone) }
      ]
    ]

pub take_turns : ChannelsTakeTurns
take_turns texts n c d p q before between after e none hc hd apart =
    let count = length texts in
    let frames = before ++ PacketFrame c p ∷ [] in
    let giver : last_giver frames ≡ Some c = giver-push before (PacketFrame c p) in
    let first = (c + 1) % count in
    let some : 0 < count = omega arith in
    let k = count - 1 in
    let ek : asked_after count (last_giver frames) k ≡ c =
    ap (λ l. asked_after count l k) giver ∙ mod-add (c + 1) k count ∙ ap (λ m. m % count) (let s : c + 1 + k ≡ c + count = omega arith in s) ∙ add-mod_right c count ∙ mod-eq_of_lt hc in
    let at = place_of count first d (mod-lt (c + 1) some) hd in
    (turns texts n c d q after between frames k at.0 (e ∙ sym (append_assoc before (PacketFrame c p ∷ []) (between ++ (PacketFrame c q ∷ after)))) (let l = length-append before (PacketFrame c p ∷ []) in omega arith)
    (omega arith) ek at.1 (ap (λ l. asked_after count l at.0) giver ∙ at.2) none).once

not_idle : (d : ℕ) (frame : WovenFrame) → IsOwn d frame → frame ≢ IdleFrame
not_idle d frame own e = false≢true (sym (ap (is_frame_of d) e) ∙ own.owner d ∙ eq-eqb d d refl)

pub none_idle : NoneIdleWhileOneWaits
none_idle texts frames c p there waiting =
    let count = length texts in
    let first = asked_first count (last_giver frames) in
    let at = place_of count first c (asked_first_within count (last_giver frames) (omega arith)) there in
    let offered : offer_at texts frames at.0 ≡ Some (PacketFrame c p) =
    ap (λ x. offer x (get_or texts x no_text) frames) at.2 ∙ ap (λ o. given_of c frames o (get_or texts c no_text).is_lost) waiting in
    let by = given_by count texts frames 0 at.0 (omega arith) (let h = at.1 in omega arith) (ap is_some offered) in
    let g = asked_after count (last_giver frames) by.place in
    not_idle g (next_frame texts frames) (offered_own g (get_or texts g no_text) frames (next_frame texts frames) by.offered)
