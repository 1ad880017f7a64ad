-- A channel is asked, and its answer told: the stream goes on.
use Rattle.std.proofs.Common.{◌≡◌, ◌≢◌, ◌⊎◌, inl, inr, ◌<◌, ◌≤◌, ◌+◌, ◌-◌, ◌*◌, ◌%◌, ℕ, zero, suc, Bool, true, false, cond, List, [], ◌∷◌, ◌++◌, Option, Some, None, length, set, get_or, map, min, take, refl, sym, ap, subst, ◌∙◌, append-nil, append_assoc, length-append, arith}
use Rattle.std.specs.Prelude.{◌==◌, nat_lt, slice_get}
use Rattle.std.specs.List.{Contains, range_with_len}
use Rattle.std.proofs.Math.Nat.{mod-eq_of_lt}
use Rattle.std.proofs.Math.Seq.{take-append_seam}
use Rattle.std.proofs.lemmas.Bool.{cases_lt, lt-ltb, le-ltb, eqb-true, eq-eqb, ne_eqb, false≢true}
use Rattle.std.proofs.lemmas.List.FromFn.{get_or-map-range_with_len, length-map-range_with_len}
use Rattle.std.proofs.lemmas.List.Elements.{Contains-get_or}
use Rattle.std.proofs.lemmas.Option.{same_Some, slice_get_within}
use Rattle.otn_base.specs.Counts.{saturated}
use Rattle.port_base.specs.Steps.OnePlace.{OnlyClientIn}
use Rattle.port_base.specs.Views.{InView, BaysView, client_in_at}
use Rattle.packet_text.specs.LinesStand.{lines_view}
use Rattle.gfp_linear.specs.ChannelFrames.{IsCidList}
use Rattle.gfp_linear.specs.Laws.{WeaveGoesOn}
use Rattle.gfp_linear.specs.Weave.{ChannelText, WovenFrame, IdleFrame, PacketFrame, LossFrame, asked_first, giver_or, given_of, is_loss_late, last_giver, loss_due, no_text, offer, packet_of, packets_given, woven_size}
use Rattle.gfp_linear.specs.Weaver.{WeaverState, Woven, HasWoven, IsWeave, channel_at, woven_on}
use Rattle.gfp_frames.proofs.Lists.{some_length}
use Rattle.gfp_linear.proofs.Streams.{weave_goes_on}
use Rattle.gfp_linear.proofs.Weaves.{given-push}
use Rattle.gfp_linear.proofs.Weaving.{giver-push}
use Rattle.odu_client.specs.ClientInput.{ClientInput}
use Rattle.client_list.specs.ClientLists.{IsClientList}
use Rattle.client_list.proofs.ClientLists.{rises}
use Rattle.bundle_command.specs.ChannelInput.{channel_text, texts_of}
use Rattle.bundle_command.specs.BundleLeft.{place_of}
use Rattle.bundle_command.specs.Steps.Channels.{ChannelStands, Answered, MayShow, ChannelAt, HasChannel, MayShowAll, OnlyClients, IsUnasked, PacketsEnd, WeavingHas, AreOpen, IsBegun, WeavingReady, ChannelAsked, IsTold, IsAsked, frame_of, end_after, news, woven_bytes}
use Rattle.bundle_command.specs.declared.channel.Channel.{Channel}
use Rattle.bundle_command.specs.declared.channel.Standing.{Standing}
use Rattle.bundle_command.specs.declared.channel.Standing.TheVariants as standing
use Rattle.bundle_command.specs.declared.weaving.Weaving.{Weaving}
use Rattle.bundle_command.proofs.AskedTurns.{asked_by, asked_on, given_by, giver_same, going_on, not_asked_on, others_on}
use Rattle.bundle_command.proofs.Sizes.{bytes-push, packet_bytes, loss_bytes, size_some, given_bytes, end_packet, end_other}
use Rattle.bundle_command.proofs.Channels.{no_news}
use Rattle.bundle_command.proofs.Texts.{IsOver as is_over, OverText, over_text, going_text, get_next, get_none}

-- ---- lists of channels

pub set_at : (channels : List Channel) (i : ℕ) (channel : Channel) → i < length channels → slice_get (set channels i channel) i ≡ Some channel
set_at [] i channel less = absurd (omega arith)
set_at (x ∷ channels) zero channel less = refl
set_at (x ∷ channels) (suc i) channel less = set_at channels i channel (omega arith)

pub set_beside : (channels : List Channel) (i k : ℕ) (channel : Channel) → k ≢ i → slice_get (set channels i channel) k ≡ slice_get channels k
set_beside [] i k channel differ = refl
set_beside (x ∷ channels) zero zero channel differ = absurd (differ refl)
set_beside (x ∷ channels) zero (suc k) channel differ = refl
set_beside (x ∷ channels) (suc i) zero channel differ = refl
set_beside (x ∷ channels) (suc i) (suc k) channel differ = set_beside channels i k channel (λ e. differ (ap suc e))

pub set_many : (channels : List Channel) (i : ℕ) (channel : Channel) → length (set channels i channel) ≡ length channels
set_many [] i channel = refl
set_many (x ∷ channels) zero channel = refl
set_many (x ∷ channels) (suc i) channel = ap suc (set_many channels i channel)

-- two channels have two clients
pub two_clients : (cids : List ℕ) (d c : ℕ) → IsCidList cids → d < length cids → c < length cids → d ≢ c → get_or cids d 0 ≢ get_or cids c 0
two_clients cids d c h there here differ e = elim (cases_lt d c) [
  | inl less ↦ (let r = rises cids d c h.rising less here in omega arith)
  | inr not_less ↦ (let more : c < d = omega (arith, differ) in let r = rises cids c d h.rising more there in omega arith)
]

-- ---- the frames one answer later

-- what holds of the frames as they are, and with the frame that may begin, holds after an answer
on_none : (n : ℕ) (at : Woven) (P : List WovenFrame → Type 0) → P at.frames → P (at.frames ++ IdleFrame ∷ []) → P (woven_on n at None).frames
on_none n at P same idle = by_test (nat_lt (at.others + 1) n)
  where
    by_test : (b : Bool) → P (cond {A = Woven} b (record { frames = at.frames; others = at.others + 1 }) (record { frames = at.frames ++ IdleFrame ∷ []; others = 0 })).frames
    by_test true = same
    by_test false = idle

on_loss : (n c : ℕ) (at : Woven) (P : List WovenFrame → Type 0) → P at.frames → P (at.frames ++ IdleFrame ∷ []) → P (at.frames ++ LossFrame c ∷ []) → P (woven_on n at (loss_due c at.frames)).frames
on_loss n c at P same idle loss = by_test (is_loss_late c at.frames)
  where
    by_test : (b : Bool) → P (woven_on n at (cond b None (Some (LossFrame c)))).frames
    by_test true = on_none n at P same idle
    by_test false = loss

pub on_answer : (n c : ℕ) (packet : List ℕ) (at : Woven) (answer : Standing) (P : List WovenFrame → Type 0) → (answer ≡ standing.Going → P (at.frames ++ PacketFrame c packet ∷ []))
    → (answer ≢ standing.Going → P at.frames × P (at.frames ++ IdleFrame ∷ []) × P (at.frames ++ LossFrame c ∷ [])) → P (woven_on n at (frame_of answer c packet at.frames)).frames
on_answer n c packet at standing.Going P gives none = gives refl
on_answer n c packet at standing.Lost P gives none = (let h = none (λ e. cc) in on_loss n c at P h.0 h.1 h.2)
on_answer n c packet at standing.Fresh P gives none = (let h = none (λ e. cc) in on_none n at P h.0 h.1)
on_answer n c packet at standing.Ended P gives none = (let h = none (λ e. cc) in on_none n at P h.0 h.1)
on_answer n c packet at standing.Bad P gives none = (let h = none (λ e. cc) in on_none n at P h.0 h.1)
on_answer n c packet at standing.More P gives none = (let h = none (λ e. cc) in on_none n at P h.0 h.1)

-- the packets of the channel that was asked, and of another
packet_here : (c : ℕ) (packet : List ℕ) → packet_of c (PacketFrame c packet) ≡ packet ∷ []
packet_here c packet = ap (λ b. cond b (packet ∷ []) []) (eq-eqb c c refl)

packet_there : (c d : ℕ) (packet : List ℕ) → d ≢ c → packet_of c (PacketFrame d packet) ≡ []
packet_there c d packet differ = ap (λ b. cond b (packet ∷ []) []) (ne_eqb d c differ)

push_none : (c : ℕ) (frames : List WovenFrame) (frame : WovenFrame) → packet_of c frame ≡ [] → packets_given c (frames ++ frame ∷ []) ≡ packets_given c frames
push_none c frames frame none = given-push c frames frame ∙ ap (λ ps. packets_given c frames ++ ps) none ∙ append-nil (packets_given c frames)

pub given_here : (n c : ℕ) (packet : List ℕ) (at : Woven) (answer : Standing) → packets_given c (woven_on n at (frame_of answer c packet at.frames)).frames ≡ packets_given c at.frames ++ news answer packet
given_here n c packet at answer =
    let offered = packets_given c at.frames in
    on_answer n c packet at answer (λ fs. packets_given c fs ≡ offered ++ news answer packet)
    (λ e. given-push c at.frames (PacketFrame c packet) ∙ ap (λ ps. offered ++ ps) (packet_here c packet) ∙ ap (λ a. offered ++ news a packet) (sym e))
    (λ other.
    let none : offered ≡ offered ++ news answer packet = sym (ap (λ ps. offered ++ ps) (no_news answer packet other) ∙ append-nil offered) in
    (none, push_none c at.frames IdleFrame refl ∙ none, push_none c at.frames (LossFrame c) refl ∙ none))

pub given_there : (n c d : ℕ) (packet : List ℕ) (at : Woven) (answer : Standing) → d ≢ c → packets_given c (woven_on n at (frame_of answer d packet at.frames)).frames ≡ packets_given c at.frames
given_there n c d packet at answer differ =
    on_answer n d packet at answer (λ fs. packets_given c fs ≡ packets_given c at.frames) (λ e. push_none c at.frames (PacketFrame d packet) (packet_there c d packet differ))
    (λ other. (refl, push_none c at.frames IdleFrame refl, push_none c at.frames (LossFrame d) refl))

-- the frames but the last
but_last : (frames : List WovenFrame) (frame : WovenFrame) → take (length (frames ++ frame ∷ []) - 1) (frames ++ frame ∷ []) ≡ frames
but_last frames frame =
    let n : length (frames ++ frame ∷ []) - 1 ≡ length frames = (let e = length-append frames (frame ∷ []) in omega arith) in
    ap (λ k. take k (frames ++ frame ∷ [])) n ∙ take-append_seam frames (frame ∷ [])

pub begun_on : (cids : List ℕ) (n c most : ℕ) (packet : List ℕ) (at : Woven) (answer : Standing) → woven_bytes cids (take (length at.frames - 1) at.frames) ≤ most → woven_bytes cids at.frames ≤ most
    → IsBegun cids (woven_on n at (frame_of answer c packet at.frames)) most
begun_on cids n c most packet at answer before all =
    let P : List WovenFrame → Type 0 = λ fs. woven_bytes cids (take (length fs - 1) fs) ≤ most in
    let push : (frame : WovenFrame) → P (at.frames ++ frame ∷ []) = λ frame. subst (λ fs. woven_bytes cids fs ≤ most) (sym (but_last at.frames frame)) all in
    on_answer n c packet at answer P (λ e. push (PacketFrame c packet)) (λ other. (before, push IdleFrame, push (LossFrame c)))

-- ---- where the last packet's frame ends

abbrev pub next_end : Standing → (bytes size end : ℕ) → ℕ
next_end standing.Going bytes size end = bytes + (size + 16)
next_end standing.Fresh bytes size end = end
next_end standing.Ended bytes size end = end
next_end standing.Bad bytes size end = end
next_end standing.Lost bytes size end = end
next_end standing.More bytes size end = end

same_end : (answer : Standing) (bytes size end : ℕ) → answer ≢ standing.Going → next_end answer bytes size end ≡ end
same_end standing.Going bytes size end other = absurd (other refl)
same_end standing.Fresh bytes size end other = refl
same_end standing.Ended bytes size end other = refl
same_end standing.Bad bytes size end other = refl
same_end standing.Lost bytes size end other = refl
same_end standing.More bytes size end other = refl

pub ends_on : (cids : List ℕ) (n c : ℕ) (packet : List ℕ) (at : Woven) (answer : Standing) (end : ℕ) → PacketsEnd cids at.frames end
    → PacketsEnd cids (woven_on n at (frame_of answer c packet at.frames)).frames (next_end answer (woven_bytes cids at.frames) (length packet) end)
ends_on cids n c packet at answer end h =
    let next = next_end answer (woven_bytes cids at.frames) (length packet) end in
    on_answer n c packet at answer (λ fs. PacketsEnd cids fs next)
    (λ e. subst (λ a. PacketsEnd cids (at.frames ++ PacketFrame c packet ∷ []) (next_end a (woven_bytes cids at.frames) (length packet) end)) (sym e) (end_packet cids at.frames c packet))
    (λ other.
    let same : end ≡ next = sym (same_end answer (woven_bytes cids at.frames) (length packet) end other) in
    let still : PacketsEnd cids at.frames next = subst (PacketsEnd cids at.frames) same h in
    (still, end_other cids at.frames IdleFrame next (λ d. refl) still, end_other cids at.frames (LossFrame c) next (λ d. refl) still))

sat_sum : (g k : ℕ) → saturated (saturated g + k) ≡ saturated (g + k)
sat_sum g k = omega arith

pub end_told : (answer : Standing) (emitted g size bytes was end : ℕ) → emitted ≡ saturated g → g ≡ bytes → was ≡ saturated end → end_after answer emitted size was ≡ saturated (next_end answer bytes size end)
end_told standing.Going emitted g size bytes was end e f k = ap (λ x. saturated (x + (size + 16))) e ∙ sat_sum g (size + 16) ∙ ap (λ x. saturated (x + (size + 16))) f
end_told standing.Fresh emitted g size bytes was end e f k = k
end_told standing.Ended emitted g size bytes was end e f k = k
end_told standing.Bad emitted g size bytes was end e f k = k
end_told standing.Lost emitted g size bytes was end e f k = k
end_told standing.More emitted g size bytes was end e f k = k

-- ---- channels that were never asked

-- the channel that is asked stands before them
asked_below : (cids : List ℕ) (at : Woven) (end c index : ℕ) → IsUnasked cids at end c → index ≡ channel_at (length cids) at → c < length cids → index ≡ asked_first (length cids) (last_giver at.frames) + at.others
asked_below cids at end c index h asked here = asked ∙ mod-eq_of_lt (let low = h.low in omega arith)

unasked_frame : (cids : List ℕ) (at : Woven) (end last c index : ℕ) (frame : WovenFrame) → IsUnasked cids at end c → index ≡ channel_at (length cids) at → c ≢ index → c < length cids
    → giver_or None frame ≡ Some index → woven_size cids frame ≤ 65539
    → woven_bytes cids at.frames + woven_size cids frame ≤ last + 4 + 12 * (asked_first (length cids) (last_giver at.frames) + 1)
    → IsUnasked cids (record { frames = at.frames ++ frame ∷ []; others = 0 }) last c
unasked_frame cids at end last c index frame h asked differ here giver size past =
    let af = asked_first (length cids) (last_giver at.frames) in
    let is : index ≡ af + at.others = asked_below cids at end c index h asked here in
    let low = h.low in
    let most = h.most in
    let below : index < c = omega (arith, is, low, differ) in
    let next : asked_first (length cids) (last_giver (at.frames ++ frame ∷ [])) ≡ index + 1 =
    ap (asked_first (length cids)) (giver-push at.frames frame ∙ giver_same frame (last_giver at.frames) index giver) ∙ mod-eq_of_lt (let l : index + 1 < length cids = omega arith in l) in
    let bytes = bytes-push cids at.frames frame in
    record {
      low = omega (arith, next, below);
      most = omega (arith, next, bytes, most, size, is);
      late = omega (arith, next, bytes, past, is);
      none = not_asked_on (length cids) c index at.frames frame h.none (omega (arith, is)) below here giver;
    }

unasked_none : (cids : List ℕ) (at : Woven) (end c index : ℕ) → IsUnasked cids at end c → index ≡ channel_at (length cids) at → c ≢ index → c < length cids → IsUnasked cids (woven_on (length cids) at None) end c
unasked_none cids at end c index h asked differ here =
    let is = asked_below cids at end c index h asked here in
    let low = h.low in
    let more : at.others + 1 < length cids = omega (arith, is, low, differ, here) in
    subst (λ b. IsUnasked cids (cond {A = Woven} b (record { frames = at.frames; others = at.others + 1 }) (record { frames = at.frames ++ IdleFrame ∷ []; others = 0 })) end c)
    (sym (lt-ltb (at.others + 1) (length cids) more)) (record { low = omega (arith, is, low, differ); most = h.most; late = h.late; none = h.none })

pub unasked_on : (cids : List ℕ) (at : Woven) (end c index : ℕ) (packet : List ℕ) (answer : Standing) → (answer ≡ standing.Going → length packet ≤ 65523)
    → IsUnasked cids at end c → index ≡ channel_at (length cids) at → c ≢ index → c < length cids
    → IsUnasked cids (woven_on (length cids) at (frame_of answer index packet at.frames)) (next_end answer (woven_bytes cids at.frames) (length packet) end) c
unasked_on cids at end c index packet standing.Going few h asked differ here =
    let size = packet_bytes cids index packet in
    let short = few refl in
    unasked_frame cids at end (woven_bytes cids at.frames + (length packet + 16)) c index (PacketFrame index packet) h asked differ here refl (omega (arith, size, short)) (omega (arith, size))
unasked_on cids at end c index packet standing.Lost few h asked differ here = by_test (is_loss_late index at.frames)
  where
    by_test : (b : Bool) → IsUnasked cids (woven_on (length cids) at (cond b None (Some (LossFrame index)))) end c
    by_test true = unasked_none cids at end c index h asked differ here
    by_test false =
        let size = loss_bytes cids index in
        let late = h.late in
        unasked_frame cids at end end c index (LossFrame index) h asked differ here refl (omega (arith, size)) (omega (arith, size, late))
unasked_on cids at end c index packet standing.Fresh few h asked differ here = unasked_none cids at end c index h asked differ here
unasked_on cids at end c index packet standing.Ended few h asked differ here = unasked_none cids at end c index h asked differ here
unasked_on cids at end c index packet standing.Bad few h asked differ here = unasked_none cids at end c index h asked differ here
unasked_on cids at end c index packet standing.More few h asked differ here = unasked_none cids at end c index h asked differ here

-- ---- what the channel's text offers

over_offers : (c : ℕ) (frames : List WovenFrame) (offered : List (List ℕ)) (input : ClientInput) (lost : Bool) → offered ≡ packets_given c frames → channel_text input ≡ record { packets = offered; is_lost = lost }
    → offer c (channel_text input) frames ≡ given_of c frames None lost
over_offers c frames offered input lost e text =
    ap (λ t. offer c t frames) text ∙ ap (λ g. given_of c frames (slice_get offered (length g)) lost) (sym e) ∙ ap (λ o. given_of c frames o lost) (get_none offered)

pub offers : (first now : InView) (read : List ℕ) (offered : List (List ℕ)) (c : ℕ) (frames : List WovenFrame) (next : Channel) (input : ClientInput) (packet : List ℕ) (answer : Standing) → offered ≡ packets_given c frames
    → ChannelStands first now read (offered ++ news answer packet) next → next.standing ≡ answer → (answer ≢ standing.Fresh) × (answer ≢ standing.More) → MayShow (lines_view next.lines) read input
    → offer c (channel_text input) frames ≡ frame_of answer c packet frames
offers first now read offered c frames next input packet standing.Going e stands is closed may =
    let t = going_text first now read (offered ++ packet ∷ []) next input stands is may in
    let here : slice_get (channel_text input).packets (length (packets_given c frames)) ≡ Some packet =
    ap (λ (g : List (List ℕ)). slice_get (channel_text input).packets (length g)) (sym e) ∙ ap (λ ps. slice_get ps (length offered)) (t.1 ∙ append_assoc offered (packet ∷ []) t.0) ∙ get_next offered t.0 packet in
    ap (λ o. given_of c frames o (channel_text input).is_lost) here
offers first now read offered c frames next input packet standing.Ended e stands is closed may =
    let t = subst (λ s. OverText s (offered ++ []) input) is (over_text first now read (offered ++ []) next input stands (subst is_over (sym is) tt) may) in
    over_offers c frames offered input false e (t.text ∙ ap (λ g. record { packets = g; is_lost = false }) (append-nil offered))
offers first now read offered c frames next input packet standing.Bad e stands is closed may =
    let t = subst (λ s. OverText s (offered ++ []) input) is (over_text first now read (offered ++ []) next input stands (subst is_over (sym is) tt) may) in
    over_offers c frames offered input false e (t.text ∙ ap (λ g. record { packets = g; is_lost = false }) (append-nil offered))
offers first now read offered c frames next input packet standing.Lost e stands is closed may =
    let t = subst (λ s. OverText s (offered ++ []) input) is (over_text first now read (offered ++ []) next input stands (subst is_over (sym is) tt) may) in
    over_offers c frames offered input true e (t.text ∙ ap (λ g. record { packets = g; is_lost = true }) (append-nil offered))
offers first now read offered c frames next input packet standing.Fresh e stands is closed may = absurd (closed.0 refl)
offers first now read offered c frames next input packet standing.More e stands is closed may = absurd (closed.1 refl)

-- ---- the step

pub text_at : (n c : ℕ) (inputs : ℕ → ClientInput) → c < n → get_or (texts_of n inputs) c no_text ≡ channel_text (inputs c)
text_at n c inputs here = get_or-map-range_with_len (λ c. channel_text (inputs c)) 0 n c c no_text here (omega arith)

pub texts_many : (n : ℕ) (inputs : ℕ → ClientInput) → length (texts_of n inputs) ≡ n
texts_many n inputs = length-map-range_with_len (λ c. channel_text (inputs c)) 0 n

-- one more of one channel was taken
abbrev pub taken_on : (ℕ → List ℕ) → (index : ℕ) → (further : List ℕ) → ℕ → List ℕ
taken_on read index further c = cond (c == index) (read c ++ further) (read c)

pub taken_here : (read : ℕ → List ℕ) (index : ℕ) (further : List ℕ) → taken_on read index further index ≡ read index ++ further
taken_here read index further = ap (λ b. cond b (read index ++ further) (read index)) (eq-eqb index index refl)

pub taken_there : (read : ℕ → List ℕ) (index c : ℕ) (further : List ℕ) → c ≢ index → taken_on read index further c ≡ read c
taken_there read index c further differ = ap (λ b. cond b (read c ++ further) (read c)) (ne_eqb c index differ)

-- a channel is the one that was asked, or another
pub which : (c index : ℕ) → (c ≡ index) ⊎ (c ≢ index)
which c index = go (c == index) refl
  where
    go : (b : Bool) → (c == index) ≡ b → (c ≡ index) ⊎ (c ≢ index)
    go true e = inl (sym (sym (eqb-true c index e)))
    go false e = inr (λ same. false≢true (sym e ∙ eq-eqb c index same))

-- the list after an answer: the channel that was asked, and the others
pub list_here : (old new : List Channel) (index : ℕ) (next channel : Channel) → new ≡ set old index next → index < length old → HasChannel new index channel → next ≡ channel
list_here old new index next channel is less known = same_Some next channel (sym (set_at old index next less) ∙ ap (λ cs. slice_get cs index) (sym is) ∙ known)

pub list_there : (old new : List Channel) (index c : ℕ) (next channel : Channel) → new ≡ set old index next → c ≢ index → HasChannel new c channel → HasChannel old c channel
list_there old new index c next channel is differ known = sym (set_beside old index c next differ) ∙ ap (λ cs. slice_get cs c) (sym is) ∙ known

pub other_place : (clients : List ℕ) (was is : BaysView) (client index c : ℕ) → IsClientList clients → OnlyClientIn client was is → client ≡ get_or clients index 0 → index < length clients → c < length clients → c ≢ index
    → place_of clients is c ≡ place_of clients was c
other_place clients was is client index c list only same here there differ =
    only.client_in (get_or clients c 0) (λ e. two_clients clients c index list.cids there here differ (e ∙ same))

pub only_on : (clients : List ℕ) (first was is : BaysView) (client index : ℕ) → OnlyClients clients first was → OnlyClientIn client was is → client ≡ get_or clients index 0 → index < length clients → OnlyClients clients first is
only_on clients first was is client index before only same here = record {
  client_in = λ n none. only.client_in n (λ e. none (contains_at clients index n here (e ∙ same))) ∙ before.client_in n none;
}
  where
    contains_at : (clients : List ℕ) (index n : ℕ) → index < length clients → n ≡ get_or clients index 0 → Contains clients n
    contains_at clients index n here e = subst (Contains clients) (sym e) (Contains-get_or clients index 0 here)

pub asks : (clients : List ℕ) (first was is : BaysView) (emitted : List ℕ) (old mid new : Weaving) (index : ℕ) (answer : Standing) → old.maker.maker.hand ≡ [] → IsAsked index old.maker
    → mid.maker ≡ old.maker → mid.emitted ≡ old.emitted → mid.end ≡ old.end → ChannelAsked index was old.channels.items is mid.channels.items answer
    → ((channel : Channel) → HasChannel mid.channels.items index channel → IsTold answer (lines_view channel.lines).packet mid new)
    → WeavingReady clients first was emitted old → WeavingReady clients first is emitted new
asks clients first was is emitted old mid new index answer idle which_is maker_same given_same end_same asked tells ready =
    record {
      read = later;
      at = next_at;
      has = record {
        list = has.list;
        woven = woven;
        going = going_on n at (frame_of answer index packet at.frames) has.going;
        many = ap length channels_is ∙ set_many old.channels.items index asked.next ∙ has.many;
        end = next_end answer bytes (length packet) has.end;
        ends = ends_on clients n index packet at answer has.end has.ends;
        each = λ c channel known. each c channel known (which c index);
        weave = weave;
        only = only_on clients first was is asked.channel.client index has.only asked.only (here_at.client) here;
        emitted_is = told.emitted ∙ given_same ∙ has.emitted_is;
        end_is = told.end ∙ ap (λ x. end_after answer mid.emitted (length packet) x) end_same
            ∙ end_told answer mid.emitted (length emitted) (length packet) bytes old.end has.end (given_same ∙ has.emitted_is) all_given has.end_is;
      };
      unsettled = λ c channel known. unsettled c channel known (which c index);
      begun = begun_on clients n index (length emitted) packet at answer ready.begun (subst (λ k. k ≤ length emitted) all_given (omega arith));
      told = λ hand. by_others hand (others_on n at (frame_of answer index packet at.frames));
    }
  where
    n : ℕ
    n = length clients

    at : Woven
    at = ready.at

    has : WeavingHas clients first was ready.read ready.at emitted old
    has = ready.has

    packet : List ℕ
    packet = (lines_view asked.next.lines).packet

    bytes : ℕ
    bytes = woven_bytes clients ready.at.frames

    all_given : length emitted ≡ woven_bytes clients ready.at.frames
    all_given = (let b = given_bytes clients ready.at emitted old.maker ready.has.woven in let none = ap length idle in omega arith)

    within : index < length old.channels.items
    within = slice_get_within old.channels.items index asked.channel asked.known

    here : index < length clients
    here = (let many = ready.has.many in let less = slice_get_within old.channels.items index asked.channel asked.known in omega arith)

    index_is : index ≡ channel_at (length clients) ready.at
    index_is = which_is clients ready.at emitted ready.has.woven

    here_at : ChannelAt clients first was (ready.read index) ready.at ready.has.end index asked.channel
    here_at = ready.has.each index asked.channel asked.known

    answered : Answered (place_of clients first index) (client_in_at is asked.channel.client) (ready.read index) (packets_given index ready.at.frames ++ news answer (lines_view asked.next.lines).packet) asked.channel asked.next
    answered = asked.answered (place_of clients first index) (ready.read index) (packets_given index ready.at.frames)
        (subst (λ k. ChannelStands (place_of clients first index) (client_in_at was k) (ready.read index) (packets_given index ready.at.frames) asked.channel) (sym (ready.has.each index asked.channel asked.known).client)
        (ready.has.each index asked.channel asked.known).stands)

    later : ℕ → List ℕ
    later = taken_on ready.read index answered.further

    next_at : Woven
    next_at = woven_on (length clients) ready.at (frame_of answer index packet ready.at.frames)

    next_known : HasChannel mid.channels.items index asked.next
    next_known = ap (λ cs. slice_get cs index) asked.channels ∙ set_at old.channels.items index asked.next within

    told : IsTold answer packet mid new
    told = tells asked.next next_known

    woven : HasWoven clients next_at emitted new.maker
    woven = subst (λ c. HasWoven clients (woven_on n at (frame_of answer c packet at.frames)) emitted new.maker) (sym index_is) (told.woven clients at emitted (subst (HasWoven clients at emitted) (sym maker_same) has.woven))

    by_others : new.maker.maker.hand ≢ [] → (next_at.others ≡ 0) ⊎ (next_at.frames ≡ at.frames) → next_at.others ≡ 0
    by_others hand (inl e) = e
    by_others hand (inr same) =
        let all = given_bytes clients next_at emitted new.maker woven in
        let bytes : woven_bytes clients next_at.frames ≡ woven_bytes clients ready.at.frames = ap (woven_bytes clients) same in
        let some = some_length new.maker.maker.hand hand in
        absurd (omega (arith, all, bytes, some, all_given))

    channels_is : new.channels.items ≡ set old.channels.items index asked.next
    channels_is = ap (λ (cs : _). cs.items) told.channels ∙ asked.channels

    each_here : ChannelAt clients first is (later index) next_at (next_end answer bytes (length packet) has.end) index asked.next
    each_here = record {
      stands = subst (λ t. ChannelStands (place_of clients first index) (place_of clients is index) t (packets_given index next_at.frames) asked.next) (sym (taken_here ready.read index answered.further))
          (subst (λ g. ChannelStands (place_of clients first index) (place_of clients is index) (ready.read index ++ answered.further) g asked.next) (sym (given_here n index packet at answer))
          (subst (λ k. ChannelStands (place_of clients first index) (client_in_at is k) (ready.read index ++ answered.further) (packets_given index at.frames ++ news answer packet) asked.next) here_at.client answered.stands));
      client = asked.client ∙ here_at.client;
      unasked = λ fresh. absurd (asked.closed.0 (sym asked.standing ∙ fresh));
      untouched = λ fresh. absurd (asked.closed.0 (sym asked.standing ∙ fresh));
      asked = λ other. asked_on n index index at (frame_of answer index packet at.frames) has.going index_is (given_by answer index packet at.frames) (inr (at.others, omega arith, sym index_is));
    }

    each : (c : ℕ) (channel : Channel) → HasChannel new.channels.items c channel → (c ≡ index) ⊎ (c ≢ index) → ChannelAt clients first is (later c) next_at (next_end answer bytes (length packet) has.end) c channel
    each c channel known (inl same) =
        let P : ℕ → Channel → Type 0 = λ c ch. ChannelAt clients first is (later c) next_at (next_end answer bytes (length packet) has.end) c ch in
        let is_next : asked.next ≡ channel = list_here old.channels.items new.channels.items index asked.next channel channels_is within (subst (λ k. HasChannel new.channels.items k channel) same known) in
        subst (λ k. P k channel) (sym same) (subst (P index) is_next each_here)
    each c channel known (inr differ) =
        let before = list_there old.channels.items new.channels.items index c asked.next channel channels_is differ known in
        let there : c < n = (let many = has.many in let less = slice_get_within old.channels.items c channel before in omega arith) in
        let was_at = has.each c channel before in
        record {
          stands = subst (λ t. ChannelStands (place_of clients first c) (place_of clients is c) t (packets_given c next_at.frames) channel) (sym (taken_there ready.read index c answered.further differ))
              (subst (λ g. ChannelStands (place_of clients first c) (place_of clients is c) (ready.read c) g channel) (sym (given_there n c index packet at answer (λ e. differ (sym e))))
              (subst (λ v. ChannelStands (place_of clients first c) v (ready.read c) (packets_given c at.frames) channel) (sym (other_place clients was is asked.channel.client index c has.list asked.only here_at.client here there differ)) was_at.stands));
          client = was_at.client;
          unasked = λ fresh. unasked_on clients at has.end c index packet answer (λ e. (asked.packet e).1) (was_at.unasked fresh) index_is differ there;
          untouched = λ fresh. other_place clients was is asked.channel.client index c has.list asked.only here_at.client here there differ ∙ was_at.untouched fresh;
          asked = λ other. asked_on n index c at (frame_of answer index packet at.frames) has.going index_is (given_by answer index packet at.frames) (asked_by n c at (was_at.asked other));
        }

    unsettled : (c : ℕ) (channel : Channel) → HasChannel new.channels.items c channel → (c ≡ index) ⊎ (c ≢ index) → channel.standing ≢ standing.More
    unsettled c channel known (inl same) more =
        let is_next : asked.next ≡ channel = list_here old.channels.items new.channels.items index asked.next channel channels_is within (subst (λ k. HasChannel new.channels.items k channel) same known) in
        asked.closed.1 (sym asked.standing ∙ ap (λ (ch : Channel). ch.standing) is_next ∙ more)
    unsettled c channel known (inr differ) more = ready.unsettled c channel (list_there old.channels.items new.channels.items index c asked.next channel channels_is differ known) more

    weave : (inputs : ℕ → ClientInput) → MayShowAll new.channels.items later inputs → IsWeave (texts_of n inputs) next_at
    weave inputs may =
        let may_here : MayShow (lines_view asked.next.lines) (ready.read index ++ answered.further) (inputs index) =
        subst (λ t. MayShow (lines_view asked.next.lines) t (inputs index)) (taken_here ready.read index answered.further) (may index asked.next (ap (λ cs. slice_get cs index) channels_is ∙ set_at old.channels.items index asked.next within)) in
        let earlier : MayShowAll old.channels.items ready.read inputs = λ c channel known. before c channel known (which c index) may may_here in
        let texts = texts_of n inputs in
        let offered : offer index (get_or texts index no_text) at.frames ≡ frame_of answer index packet at.frames =
        ap (λ t. offer index t at.frames) (text_at n index inputs here)
        ∙ offers (place_of clients first index) (client_in_at is asked.channel.client) (ready.read index ++ answered.further) (packets_given index at.frames) index at.frames asked.next (inputs index) packet answer refl
        answered.stands asked.standing asked.closed may_here in
        let on : IsWeave texts (woven_on (length texts) at (offer index (get_or texts index no_text) at.frames)) =
        weave_goes_on texts at index (has.weave inputs earlier) (index_is ∙ ap (λ k. channel_at k at) (sym (texts_many n inputs))) in
        subst (λ k. IsWeave texts (woven_on k at (frame_of answer index packet at.frames))) (texts_many n inputs)
        (subst (λ o. IsWeave texts (woven_on (length texts) at o)) offered on)
      where
        before : (c : ℕ) (channel : Channel) → HasChannel old.channels.items c channel → (c ≡ index) ⊎ (c ≢ index) → MayShowAll new.channels.items later inputs
            → MayShow (lines_view asked.next.lines) (ready.read index ++ answered.further) (inputs index) → MayShow (lines_view channel.lines) (ready.read c) (inputs c)
        before c channel known (inl same) may may_here =
            let is_old : asked.channel ≡ channel = same_Some asked.channel channel (sym asked.known ∙ subst (λ k. HasChannel old.channels.items k channel) same known) in
            subst (λ k. MayShow (lines_view channel.lines) (ready.read k) (inputs k)) (sym same)
            (subst (λ (ch : Channel). MayShow (lines_view ch.lines) (ready.read index) (inputs index)) is_old (answered.earlier (inputs index) may_here))
        before c channel known (inr differ) may may_here =
            subst (λ t. MayShow (lines_view channel.lines) t (inputs c)) (taken_there ready.read index c answered.further differ)
            (may c channel (ap (λ cs. slice_get cs c) channels_is ∙ set_beside old.channels.items index c asked.next differ ∙ known))
