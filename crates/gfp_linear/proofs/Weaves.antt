-- What the frames of a stream of channels are.
use Rattle.std.proofs.Common.{◌≡◌, ℕ, zero, suc, ◌+◌, ◌-◌, ◌<◌, ◌≤◌, List, [], ◌∷◌, ◌++◌, Bool, true, false, cond, Option, Some, None, length, drop, get_or, refl, ap, ◌∙◌, sym, subst, arith, ◌⊎◌, inl, inr, append-nil, append_assoc, take, length-append}
use Rattle.std.specs.Prelude.{All, IfSome, slice_get, ◌==◌}
use Rattle.std.proofs.Math.Nat.{mod-lt}
use Rattle.std.proofs.Math.Seq.{take-length, take-append_seam, take-append-add, get_or-append_seam}
use Rattle.std.proofs.lemmas.List.{take-append-le}
use Rattle.std.proofs.lemmas.List.Elements.{All-head, All-tail, All-cons, All-append, All-nil}
use Rattle.std.proofs.lemmas.Grind.{flat_map-append}
use Rattle.gfp_linear.specs.Weave.{ChannelText, WovenFrame, IdleFrame, PacketFrame, LossFrame, last_giver, packets_given, packet_of, is_loss_late, asked_first, asked_after, given_of, offer, no_text, frame_or, next_of, next_frame, weave, AreCarried}
use Rattle.gfp_linear.specs.Laws.{IsFront}
use Rattle.std.proofs.lemmas.Bool.{eqb-true, cases_lt}

pub next-end : (texts : List ChannelText) (frames : List WovenFrame) (others : ℕ) → next_of 0 texts frames others ≡ IdleFrame
unfolding next_of
next-end texts frames others = refl

pub next-on : (left : ℕ) (texts : List ChannelText) (frames : List WovenFrame) (others : ℕ)
    → next_of (suc left) texts frames others
    ≡ frame_or (offer (asked_after (length texts) (last_giver frames) others) (get_or texts (asked_after (length texts) (last_giver frames) others) no_text) frames) (next_of left texts frames (others + 1))
unfolding next_of
next-on left texts frames others = refl

pub weave-zero : (texts : List ChannelText) → weave texts 0 ≡ IdleFrame ∷ []
unfolding weave
weave-zero texts = refl

pub weave-suc : (texts : List ChannelText) (n : ℕ) → weave texts (suc n) ≡ weave texts n ++ next_frame texts (weave texts n) ∷ []
unfolding weave
weave-suc texts n = refl

-- a stream begins with the idle frame
pub weave_first : (texts : List ChannelText) (n : ℕ) → (rest : List WovenFrame) × (weave texts n ≡ IdleFrame ∷ rest)
weave_first texts zero = ([], weave-zero texts)
weave_first texts (suc n) =
    let before = weave_first texts n in
    (before.0 ++ next_frame texts (weave texts n) ∷ [], weave-suc texts n ∙ ap (λ fs. fs ++ next_frame texts (weave texts n) ∷ []) before.1)

-- ---- what holds of each offer holds of the next frame

pub next_holds : (P : WovenFrame → Type 0) (left : ℕ) (texts : List ChannelText) (frames : List WovenFrame) (others : ℕ) → P IdleFrame
    → ((k : ℕ) → IfSome (offer (asked_after (length texts) (last_giver frames) k) (get_or texts (asked_after (length texts) (last_giver frames) k) no_text) frames) P)
    → P (next_of left texts frames others)
next_holds P zero texts frames others idle each = subst P (sym (next-end texts frames others)) idle
next_holds P (suc left) texts frames others idle each =
    let c = asked_after (length texts) (last_giver frames) others in
    subst P (sym (next-on left texts frames others))
    (first_holds P (offer c (get_or texts c no_text) frames) (next_of left texts frames (others + 1)) (each others) (next_holds P left texts frames (others + 1) idle each))
  where
    first_holds : (P : WovenFrame → Type 0) (o : Option WovenFrame) (other : WovenFrame) → IfSome o P → P other → P (frame_or o other)
    first_holds P (Some frame) other h later = h
    first_holds P None other h later = later

pub given_holds : (P : WovenFrame → Type 0) (c : ℕ) (frames : List WovenFrame) (left : Option (List ℕ)) (is_lost : Bool) → IfSome left (λ packet. P (PacketFrame c packet)) → P (LossFrame c) → IfSome (given_of c frames left is_lost) P
given_holds P c frames (Some packet) is_lost packets loss = packets
given_holds P c frames None false packets loss = tt
given_holds P c frames None true packets loss = by_due (is_loss_late c frames) P (LossFrame c) loss
  where
    by_due : (b : Bool) (P : WovenFrame → Type 0) (frame : WovenFrame) → P frame → IfSome (cond b None (Some frame)) P
    by_due true P frame h = tt
    by_due false P frame h = h

get_holds : {X : Type 0} (P : X → Type 0) (xs : List X) (k : ℕ) → All P xs → IfSome (slice_get xs k) P
get_holds P [] k h = tt
get_holds P (x ∷ xs) zero h = All-head P x xs h
get_holds P (x ∷ xs) (suc k) h = get_holds P xs k (All-tail P x xs h)

-- ---- its packets can be carried

-- a frame whose packet, if it has one, has 1 to 65,523 bytes
abbrev pub IsCarried : WovenFrame → Type 0
IsCarried IdleFrame = Unit {0}
IsCarried (PacketFrame c packet) = (1 ≤ length packet) × (length packet ≤ 65523)
IsCarried (LossFrame c) = Unit {0}

text_carried : (texts : List ChannelText) (c : ℕ) → All AreCarried texts → AreCarried (get_or texts c no_text)
text_carried [] c h = All-nil (λ packet. (1 ≤ length packet) × (length packet ≤ 65523))
text_carried (text ∷ texts) zero h = All-head AreCarried text texts h
text_carried (text ∷ texts) (suc c) h = text_carried texts c (All-tail AreCarried text texts h)

next_carried : (texts : List ChannelText) (frames : List WovenFrame) → All AreCarried texts → IsCarried (next_frame texts frames)
next_carried texts frames h = next_holds IsCarried (length texts) texts frames 0 tt (λ k.
    let c = asked_after (length texts) (last_giver frames) k in
    let text = get_or texts c no_text in
    given_holds IsCarried c frames (slice_get text.packets (length (packets_given c frames))) text.is_lost
    (get_holds (λ packet. (1 ≤ length packet) × (length packet ≤ 65523)) text.packets (length (packets_given c frames)) (text_carried texts c h)) tt)

pub weave_carried : (texts : List ChannelText) (n : ℕ) → All AreCarried texts → All IsCarried (weave texts n)
weave_carried texts zero h = subst (λ fs. All IsCarried fs) (sym (weave-zero texts)) (All-cons IsCarried IdleFrame [] tt (All-nil IsCarried))
weave_carried texts (suc n) h =
    subst (λ fs. All IsCarried fs) (sym (weave-suc texts n))
    (All-append IsCarried (weave texts n) (next_frame texts (weave texts n) ∷ []) (weave_carried texts n h)
    (All-cons IsCarried (next_frame texts (weave texts n)) [] (next_carried texts (weave texts n) h) (All-nil IsCarried)))

-- ---- its channels

-- a frame of one of so many channels, or an idle one
abbrev pub IsAmong : (count : ℕ) → WovenFrame → Type 0
IsAmong count IdleFrame = Unit {0}
IsAmong count (PacketFrame c packet) = c < count
IsAmong count (LossFrame c) = c < count

any_some : (o : Option (List ℕ)) (P : Type 0) → P → IfSome o (λ packet. P)
any_some (Some packet) P h = h
any_some None P h = tt

next_among : (texts : List ChannelText) (frames : List WovenFrame) → 0 < length texts → IsAmong (length texts) (next_frame texts frames)
next_among texts frames some = next_holds (IsAmong (length texts)) (length texts) texts frames 0 tt (λ k.
    let c = asked_after (length texts) (last_giver frames) k in
    let text = get_or texts c no_text in
    let within : c < length texts = mod-lt (asked_first (length texts) (last_giver frames) + k) some in
    given_holds (IsAmong (length texts)) c frames (slice_get text.packets (length (packets_given c frames))) text.is_lost
    (any_some (slice_get text.packets (length (packets_given c frames))) (c < length texts) within) within)

pub weave_among : (texts : List ChannelText) (n : ℕ) → 0 < length texts → All (IsAmong (length texts)) (weave texts n)
weave_among texts zero some = subst (λ fs. All (IsAmong (length texts)) fs) (sym (weave-zero texts)) (All-cons (IsAmong (length texts)) IdleFrame [] tt (All-nil (IsAmong (length texts))))
weave_among texts (suc n) some =
    subst (λ fs. All (IsAmong (length texts)) fs) (sym (weave-suc texts n))
    (All-append (IsAmong (length texts)) (weave texts n) (next_frame texts (weave texts n) ∷ []) (weave_among texts n some)
    (All-cons (IsAmong (length texts)) (next_frame texts (weave texts n)) [] (next_among texts (weave texts n) some) (All-nil (IsAmong (length texts)))))

-- ---- the packets of a channel are given in order

pub given-push : (c : ℕ) (frames : List WovenFrame) (frame : WovenFrame) → packets_given c (frames ++ frame ∷ []) ≡ packets_given c frames ++ packet_of c frame
given-push c frames frame = flat_map-append (packet_of c) frames (frame ∷ []) ∙ ap (λ ps. packets_given c frames ++ ps) (append-nil (packet_of c frame))

-- the first list is a front of the second
pub front_start : (whole : List (List ℕ)) → IsFront [] whole
front_start whole = (whole, refl)

pub front_on : (a b c : List (List ℕ)) → IsFront a b → IsFront b c → IsFront a c
front_on a b c first second = (first.0 ++ second.0, second.1 ∙ ap (λ y. y ++ second.0) first.1 ∙ append_assoc a first.0 second.0)

-- of two fronts of one list one is a front of the other
pub fronts_of_one : (xs ys r s : List (List ℕ)) → xs ++ r ≡ ys ++ s → IsFront xs ys ⊎ IsFront ys xs
fronts_of_one [] ys r s e = inl (ys, refl)
fronts_of_one (x ∷ xs) [] r s e = inr (x ∷ xs, refl)
fronts_of_one (x ∷ xs) (y ∷ ys) r s e =
    let head : x ≡ y = ap (λ l. get_or l 0 []) e in
    elim (fronts_of_one xs ys r s (ap (drop 1) e)) [
      | inl front ↦ inl (front.0, ap (λ l. y ∷ l) front.1 ∙ ap (λ h. h ∷ (xs ++ front.0)) (sym head))
      | inr front ↦ inr (front.0, ap (λ l. x ∷ l) front.1 ∙ ap (λ h. h ∷ (ys ++ front.0)) head)
    ]

pub if_some_map : {X : Type 0} (P Q : X → Type 0) (o : Option X) → ((x : X) → P x → Q x) → IfSome o P → IfSome o Q
if_some_map P Q (Some x) f h = f x h
if_some_map P Q None f h = tt

-- what follows a front is the next of the list
next_behind : (offered rest : List (List ℕ)) → IfSome (slice_get (offered ++ rest) (length offered)) (λ p. IsFront (offered ++ p ∷ []) (offered ++ rest))
next_behind [] [] = tt
next_behind [] (x ∷ rest) = (rest, refl)
next_behind (g ∷ offered) rest =
    if_some_map (λ p. IsFront (offered ++ p ∷ []) (offered ++ rest)) (λ p. IsFront (g ∷ offered ++ p ∷ []) (g ∷ offered ++ rest)) (slice_get (offered ++ rest) (length offered))
    (λ p front. (front.0, ap (λ l. g ∷ l) front.1)) (next_behind offered rest)

offered_front : (packets offered : List (List ℕ)) → IsFront offered packets → IfSome (slice_get packets (length offered)) (λ p. IsFront (offered ++ p ∷ []) packets)
offered_front packets offered front =
    let P : List (List ℕ) → Type 0 = λ whole. IfSome (slice_get whole (length offered)) (λ p. IsFront (offered ++ p ∷ []) whole) in
    subst P (sym front.1) (next_behind offered front.0)

next_front : (texts : List ChannelText) (frames : List WovenFrame) (c : ℕ) → IsFront (packets_given c frames) (get_or texts c no_text).packets
    → IsFront (packets_given c frames ++ packet_of c (next_frame texts frames)) (get_or texts c no_text).packets
next_front texts frames c front = next_holds Fits (length texts) texts frames 0 still (λ k. one (asked_after (length texts) (last_giver frames) k))
  where
    offered : List (List ℕ)
    offered = packets_given c frames

    whole : List (List ℕ)
    whole = (get_or texts c no_text).packets

    Fits : WovenFrame → Type 0
    Fits = λ frame. IsFront (packets_given c frames ++ packet_of c frame) (get_or texts c no_text).packets

    still : IsFront (offered ++ []) whole
    still = subst (λ y. IsFront y whole) (sym (append-nil offered)) front

    by_test : (b : Bool) (d : ℕ) → (d == c) ≡ b → IfSome (slice_get (get_or texts d no_text).packets (length (packets_given d frames))) (λ packet. IsFront (packets_given c frames ++ cond b (packet ∷ []) []) (get_or texts c no_text).packets)
    by_test true d e =
        let same : c ≡ d = sym (eqb-true d c e) in
        let P : ℕ → Type 0 = λ i. IfSome (slice_get (get_or texts i no_text).packets (length (packets_given i frames))) (λ packet. IsFront (packets_given c frames ++ packet ∷ []) (get_or texts c no_text).packets) in
        subst P same (offered_front (get_or texts c no_text).packets (packets_given c frames) front)
    by_test false d e = any_some (slice_get (get_or texts d no_text).packets (length (packets_given d frames))) (IsFront (packets_given c frames ++ []) (get_or texts c no_text).packets) still

    one : (d : ℕ) → IfSome (offer d (get_or texts d no_text) frames) Fits
    one d = given_holds Fits d frames (slice_get (get_or texts d no_text).packets (length (packets_given d frames))) (get_or texts d no_text).is_lost (by_test (d == c) d refl) still

pub weave_front : (texts : List ChannelText) (n c : ℕ) → IsFront (packets_given c (weave texts n)) (get_or texts c no_text).packets
weave_front texts zero c =
    let P : List WovenFrame → Type 0 = λ fs. IsFront (packets_given c fs) (get_or texts c no_text).packets in
    subst P (sym (weave-zero texts)) (front_start (get_or texts c no_text).packets)
weave_front texts (suc n) c =
    let frames = weave texts n in
    let P : List WovenFrame → Type 0 = λ fs. IsFront (packets_given c fs) (get_or texts c no_text).packets in
    let Q : List (List ℕ) → Type 0 = λ ps. IsFront ps (get_or texts c no_text).packets in
    subst P (sym (weave-suc texts n)) (subst Q (sym (given-push c frames (next_frame texts frames))) (next_front texts frames c (weave_front texts n c)))

-- ---- frames by their places

pub weave-length : (texts : List ChannelText) (n : ℕ) → length (weave texts n) ≡ suc n
weave-length texts zero = ap length (weave-zero texts)
weave-length texts (suc n) =
    ap length (weave-suc texts n) ∙ length-append (weave texts n) (next_frame texts (weave texts n) ∷ []) ∙ (let e = weave-length texts n in omega arith)

pub weave-take : (texts : List ChannelText) (k n : ℕ) → k ≤ n → take (suc k) (weave texts n) ≡ weave texts k
weave-take texts k zero h =
    let none : k ≡ 0 = omega arith in
    ap (λ i. take (suc i) (weave texts 0)) none ∙ ap (take 1) (weave-zero texts) ∙ sym (weave-zero texts) ∙ ap (weave texts) (sym none)
weave-take texts k (suc n) h = elim (cases_lt n k) [
  | inl last ↦
      let same : k ≡ suc n = omega arith in
      let l = weave-length texts (suc n) in
      ap (λ i. take i (weave texts (suc n))) (let e : suc k ≡ length (weave texts (suc n)) = omega arith in e) ∙ take-length (weave texts (suc n)) ∙ ap (weave texts) (sym same)
  | inr within ↦
      let l = weave-length texts n in
      ap (take (suc k)) (weave-suc texts n)
      ∙ take-append-le (suc k) (weave texts n) (next_frame texts (weave texts n) ∷ []) (omega arith)
      ∙ weave-take texts k n within
]

-- the frame behind these is the next one
pub next_is : (texts : List ChannelText) (n : ℕ) (frames : List WovenFrame) (frame : WovenFrame) (rest : List WovenFrame) → weave texts n ≡ frames ++ (frame ∷ rest) → 0 < length frames
    → frame ≡ next_frame texts frames
next_is texts n frames frame rest e some =
    let k = length frames - 1 in
    let l = weave-length texts n in
    let total : suc n ≡ length frames + length (frame ∷ rest) = sym l ∙ ap length e ∙ length-append frames (frame ∷ rest) in
    let more : length (frame ∷ rest) ≡ suc (length rest) = refl in
    let here : frames ≡ weave texts k =
    sym (take-append_seam frames (frame ∷ rest)) ∙ ap (take (length frames)) (sym e) ∙ ap (λ i. take i (weave texts n)) (let s : length frames ≡ suc k = omega arith in s) ∙ weave-take texts k n (omega arith) in
    let next : frames ++ frame ∷ [] ≡ weave texts (suc k) =
    sym (ap (take (suc (length frames))) e ∙ ap (λ i. take i (frames ++ (frame ∷ rest))) (let s : suc (length frames) ≡ length frames + 1 = omega arith in s) ∙ take-append-add frames (frame ∷ rest) 1)
    ∙ ap (λ i. take i (weave texts n)) (let s : suc (length frames) ≡ suc (suc k) = omega arith in s) ∙ weave-take texts (suc k) n (omega arith) in
    let both : frames ++ frame ∷ [] ≡ frames ++ next_frame texts frames ∷ [] = next ∙ weave-suc texts k ∙ ap (λ fs. fs ++ next_frame texts fs ∷ []) (sym here) in
    sym (get_or-append_seam frames frame [] IdleFrame) ∙ ap (λ fs. get_or fs (length frames) IdleFrame) both ∙ get_or-append_seam frames (next_frame texts frames) [] IdleFrame
