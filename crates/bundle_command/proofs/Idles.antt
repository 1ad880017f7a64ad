-- Idle frames, once no channel gives a frame any more.
use Rattle.std.proofs.Common.{◌≡◌, ◌≢◌, ◌<◌, ◌≤◌, ◌+◌, ◌-◌, ◌*◌, ◌/◌, ◌%◌, ℕ, zero, suc, Bool, true, false, List, [], ◌∷◌, ◌++◌, Option, Some, None, length, replicate, take, get_or, refl, sym, ap, subst, ◌∙◌, append-nil, append_assoc, length-append, arith}
use Rattle.std.specs.Prelude.{slice_get}
use Rattle.std.proofs.Math.Nat.{mod-lt}
use Rattle.std.proofs.Math.Seq.{take-append_seam}
use Rattle.std.proofs.lemmas.Option.{slice_get-get_or, slice_get_within}
use Rattle.otn_base.specs.Counts.{saturated}
use Rattle.port_base.specs.Views.{BaysView}
use Rattle.packet_text.specs.LinesStand.{lines_view}
use Rattle.gfp_linear.specs.Weave.{ChannelText, WovenFrame, IdleFrame, asked_after, asked_first, frame_or, given_of, last_giver, next_frame, next_of, no_text, offer, packets_given, weave}
use Rattle.gfp_linear.specs.Weaver.{Woven, HasWoven, IsWeave, idles_on}
use Rattle.gfp_linear.proofs.Weaves.{given-push, next-end, next-on, weave-suc}
use Rattle.odu_client.specs.ClientInput.{ClientInput}
use Rattle.bundle_command.specs.BundleLeft.{place_of}
use Rattle.bundle_command.specs.ChannelInput.{channel_text, texts_of}
use Rattle.bundle_command.specs.Steps.Channels.{AreOver, ChannelStands, HasChannel, IsBegun, MayShowAll, PacketsEnd, WeavingReady, WeavingStands, is_over, woven_bytes}
use Rattle.bundle_command.specs.declared.channel.Channel.{Channel}
use Rattle.bundle_command.specs.declared.channel.Standing.{Standing}
use Rattle.bundle_command.specs.declared.channel.Standing.TheVariants as standing
use Rattle.bundle_command.specs.declared.weaving.Weaving.{Weaving}
use Rattle.bundle_command.proofs.Asked.{text_at, texts_many}
use Rattle.bundle_command.proofs.AskedTurns.{asked_idles, going_idles}
use Rattle.bundle_command.proofs.Given.{sat_sum}
use Rattle.bundle_command.proofs.Sizes.{bytes-push, end_other, given_bytes}
use Rattle.bundle_command.proofs.Texts.{IsOver, get_none, is_lost_so, over_text}

-- ---- one frame more, and so many

more_idles : (frames : List WovenFrame) (k : ℕ) → frames ++ replicate (suc k) IdleFrame ≡ (frames ++ IdleFrame ∷ []) ++ replicate k IdleFrame
more_idles frames k = sym (append_assoc frames (IdleFrame ∷ []) (replicate k IdleFrame))

last_idle : (frames : List WovenFrame) (k : ℕ) → frames ++ replicate (suc k) IdleFrame ≡ (frames ++ replicate k IdleFrame) ++ IdleFrame ∷ []
last_idle frames zero = ap (λ fs. fs ++ IdleFrame ∷ []) (sym (append-nil frames))
last_idle frames (suc k) = more_idles frames (suc k) ∙ last_idle (frames ++ IdleFrame ∷ []) k ∙ ap (λ fs. fs ++ IdleFrame ∷ []) (sym (more_idles frames k))

given_idle : (c : ℕ) (frames : List WovenFrame) → packets_given c (frames ++ IdleFrame ∷ []) ≡ packets_given c frames
given_idle c frames = given-push c frames IdleFrame ∙ append-nil (packets_given c frames)

given_idles : (c : ℕ) (frames : List WovenFrame) (k : ℕ) → packets_given c (frames ++ replicate k IdleFrame) ≡ packets_given c frames
given_idles c frames zero = ap (packets_given c) (append-nil frames)
given_idles c frames (suc k) = ap (packets_given c) (more_idles frames k) ∙ given_idles c (frames ++ IdleFrame ∷ []) k ∙ given_idle c frames

end_idles : (cids : List ℕ) (frames : List WovenFrame) (k end : ℕ) → PacketsEnd cids frames end → PacketsEnd cids (frames ++ replicate k IdleFrame) end
end_idles cids frames zero end h = subst (λ fs. PacketsEnd cids fs end) (sym (append-nil frames)) h
end_idles cids frames (suc k) end h =
    subst (λ fs. PacketsEnd cids fs end) (sym (more_idles frames k)) (end_idles cids (frames ++ IdleFrame ∷ []) k end (end_other cids frames IdleFrame end (λ c. refl) h))

bytes_idles : (cids : List ℕ) (frames : List WovenFrame) (k : ℕ) → woven_bytes cids (frames ++ replicate k IdleFrame) ≡ woven_bytes cids frames + 4 * k
bytes_idles cids frames zero = ap (woven_bytes cids) (append-nil frames) ∙ (let e : woven_bytes cids frames ≡ woven_bytes cids frames + 4 * 0 = omega arith in e)
bytes_idles cids frames (suc k) =
    let one : woven_bytes cids (frames ++ IdleFrame ∷ []) ≡ woven_bytes cids frames + 4 = bytes-push cids frames IdleFrame in
    ap (woven_bytes cids) (more_idles frames k) ∙ bytes_idles cids (frames ++ IdleFrame ∷ []) k
    ∙ (let e : woven_bytes cids (frames ++ IdleFrame ∷ []) + 4 * k ≡ woven_bytes cids frames + 4 * suc k = omega (arith, one) in e)

-- ---- the weave

-- each channel has given all that its text has, and its client is not lost
record HaveGiven (texts : List ChannelText) (frames : List WovenFrame) : Type 0 where
  each : (c : ℕ) → c < length texts → get_or texts c no_text ≡ record { packets = packets_given c frames; is_lost = false }

no_offer : (c : ℕ) (frames : List WovenFrame) (text : ChannelText) → text ≡ record { packets = packets_given c frames; is_lost = false } → offer c text frames ≡ None
no_offer c frames text e = ap (λ t. offer c t frames) e ∙ ap (λ o. given_of c frames o false) (get_none (packets_given c frames))

next_idle : (left : ℕ) (texts : List ChannelText) (frames : List WovenFrame) (others : ℕ) → HaveGiven texts frames → 0 < length texts → next_of left texts frames others ≡ IdleFrame
next_idle zero texts frames others h some = next-end texts frames others
next_idle (suc left) texts frames others h some =
    let c = asked_after (length texts) (last_giver frames) others in
    let here : c < length texts = mod-lt (asked_first (length texts) (last_giver frames) + others) some in
    next-on left texts frames others
    ∙ ap (λ o. frame_or o (next_of left texts frames (others + 1))) (no_offer c frames (get_or texts c no_text) (h.each c here))
    ∙ next_idle left texts frames (others + 1) h some

weave_idle : (texts : List ChannelText) (at : Woven) → IsWeave texts at → HaveGiven texts at.frames → IsWeave texts (record { frames = at.frames ++ IdleFrame ∷ []; others = 0 })
weave_idle texts at h given =
    let few = h.few in
    let some : 0 < length texts = omega (arith, few) in
    let idle : next_frame texts (weave texts h.begun) ≡ IdleFrame = ap (next_frame texts) (sym h.begins) ∙ next_idle (length texts) texts at.frames 0 given some in
    record {
      begun = suc h.begun;
      begins = ap (λ fs. fs ++ IdleFrame ∷ []) h.begins ∙ ap (λ f. weave texts h.begun ++ f ∷ []) (sym idle) ∙ sym (weave-suc texts h.begun);
      next = ap (λ n. next_of n texts (at.frames ++ IdleFrame ∷ []) 0) (let e : length texts ≡ length texts - 0 = omega arith in e);
      few = some;
    }

weave_idles : (texts : List ChannelText) (at : Woven) (k : ℕ) → IsWeave texts at → HaveGiven texts at.frames → IsWeave texts (idles_on k at)
weave_idles texts at zero h given = record {
  begun = h.begun;
  begins = append-nil at.frames ∙ h.begins;
  next = ap (λ n. next_of n texts (at.frames ++ []) 0) (let e : length texts ≡ length texts - 0 = omega arith in e);
  few = (let few = h.few in omega (arith, few));
}
weave_idles texts at (suc k) h given =
    subst (λ fs. IsWeave texts (record { frames = fs; others = 0 })) (sym (more_idles at.frames k))
    (weave_idles texts (record { frames = at.frames ++ IdleFrame ∷ []; others = 0 }) k (weave_idle texts at h given)
    (record { each = λ c here. given.each c here ∙ ap (λ ps. record { packets = ps; is_lost = false }) (sym (given_idle c at.frames)) }))

-- ---- the channels

by_standing : (s : Standing) → is_over s ≡ true → IsOver s × (is_lost_so s ≡ false)
by_standing standing.Ended e = (tt, refl)
by_standing standing.Bad e = (tt, refl)
by_standing standing.Fresh e = absurd (cc)
by_standing standing.Going e = absurd (cc)
by_standing standing.Lost e = absurd (cc)
by_standing standing.More e = absurd (cc)

begun_idles : (cids : List ℕ) (frames : List WovenFrame) (emitted n : ℕ) → woven_bytes cids frames ≡ emitted → 1 ≤ n
    → IsBegun cids (record { frames = frames ++ replicate ((n + 3) / 4) IdleFrame; others = 0 }) (emitted + n - 1)
begun_idles cids frames emitted n all some = go ((n + 3) / 4) refl
  where
    go : (k : ℕ) → (n + 3) / 4 ≡ k → IsBegun cids (record { frames = frames ++ replicate k IdleFrame; others = 0 }) (emitted + n - 1)
    go zero e = absurd (omega (arith, e, some))
    go (suc k) e =
        let front = frames ++ replicate k IdleFrame in
        let bytes = bytes_idles cids frames k in
        let size = length-append front (IdleFrame ∷ []) in
        let short : length (front ++ IdleFrame ∷ []) - 1 ≡ length front = omega (arith, size) in
        let same : take (length (front ++ IdleFrame ∷ []) - 1) (front ++ IdleFrame ∷ []) ≡ front = ap (λ k. take k (front ++ IdleFrame ∷ [])) short ∙ take-append_seam front (IdleFrame ∷ []) in
        subst (λ fs. woven_bytes cids (take (length fs - 1) fs) ≤ emitted + n - 1) (sym (last_idle frames k))
        (subst (λ fs. woven_bytes cids fs ≤ emitted + n - 1) (sym same) (omega (arith, bytes, all, e, some)))

pub all_over : (channels : List Channel) (i : ℕ) → length channels ≤ i → ((k : ℕ) (channel : Channel) → k < i → HasChannel channels k channel → is_over channel.standing ≡ true) → AreOver channels
all_over channels i most before = record { each = λ k channel at. before k channel (let within = slice_get_within channels k channel at in omega (arith, within, most)) at }

pub idles_stand : (clients : List ℕ) (first now : BaysView) (emitted bytes : List ℕ) (old new : Weaving) → old.maker.maker.hand ≡ [] → AreOver old.channels.items → 1 ≤ length bytes
    → ((cids : List ℕ) (at : Woven) (emitted : List ℕ) → HasWoven cids at emitted old.maker → HasWoven cids (idles_on ((length bytes + 3) / 4) at) (emitted ++ bytes) new.maker)
    → new.channels ≡ old.channels → new.end ≡ old.end → new.emitted ≡ saturated (old.emitted + length bytes)
    → WeavingReady clients first now emitted old → WeavingStands clients first now (emitted ++ bytes) new
idles_stand clients first now emitted bytes old new none over some woven channels end count_is h = record {
  read = h.read;
  at = idles_on ((length bytes + 3) / 4) h.at;
  has = record {
    list = h.has.list;
    woven = woven clients h.at emitted h.has.woven;
    going = going_idles (length clients) ((length bytes + 3) / 4) h.at h.has.going;
    many = ap (λ (cs : _). length cs.items) channels ∙ h.has.many;
    end = h.has.end;
    ends = end_idles clients h.at.frames ((length bytes + 3) / 4) h.has.end h.has.ends;
    each = λ c channel known.
        let was = was_known c channel known in
        let at = h.has.each c channel was in
        record {
          stands = subst (λ g. ChannelStands (place_of clients first c) (place_of clients now c) (h.read c) g channel) (sym (given_idles c h.at.frames ((length bytes + 3) / 4))) at.stands;
          client = at.client;
          unasked = λ fresh. absurd (not_over (sym (over.each c channel was) ∙ ap is_over fresh));
          untouched = at.untouched;
          asked = λ other. asked_idles (length clients) ((length bytes + 3) / 4) c h.at (omega (arith, some)) h.has.going (at.asked other);
        };
    weave = λ inputs may. weave_idles (texts_of (length clients) inputs) h.at ((length bytes + 3) / 4) (h.has.weave inputs (may_was inputs may)) (all_given inputs (may_was inputs may));
    only = h.has.only;
    emitted_is = count_is ∙ ap (λ x. saturated (x + length bytes)) h.has.emitted_is ∙ sat_sum (length emitted) (length bytes) ∙ ap saturated (sym (length-append emitted bytes));
    end_is = end ∙ h.has.end_is;
  };
  unsettled = λ c channel known. h.unsettled c channel (was_known c channel known);
  begun = subst (λ n. IsBegun clients (idles_on ((length bytes + 3) / 4) h.at) (n - 1)) (sym (length-append emitted bytes))
      (begun_idles clients h.at.frames (length emitted) (length bytes) all_bytes some);
  told = refl;
}
  where
    not_over : true ≢ false
    not_over e = cc

    was_known : (c : ℕ) (channel : Channel) → HasChannel new.channels.items c channel → HasChannel old.channels.items c channel
    was_known c channel known = ap (λ (cs : _). slice_get cs.items c) (sym channels) ∙ known

    may_was : (inputs : ℕ → ClientInput) → MayShowAll new.channels.items h.read inputs → MayShowAll old.channels.items h.read inputs
    may_was inputs may c channel known = may c channel (ap (λ (cs : _). slice_get cs.items c) channels ∙ known)

    all_bytes : woven_bytes clients h.at.frames ≡ length emitted
    all_bytes = (let b = given_bytes clients h.at emitted old.maker h.has.woven in let n = ap length none in omega (arith, b, n))

    known_at : (c : ℕ) → c < length clients → (channel : Channel) × HasChannel old.channels.items c channel
    known_at c here = find old.channels.items h.has.many
      where
        find : (channels : List Channel) → length channels ≡ length clients → (channel : Channel) × HasChannel channels c channel
        find [] many = absurd (omega (arith, many, here))
        find (x ∷ channels) many = (get_or (x ∷ channels) c x, slice_get-get_or (x ∷ channels) c x (omega (arith, many, here)))

    all_given : (inputs : ℕ → ClientInput) → MayShowAll old.channels.items h.read inputs → HaveGiven (texts_of (length clients) inputs) h.at.frames
    all_given inputs may = record {
      each = λ c here.
          let inside : c < length clients = (let many = texts_many (length clients) inputs in omega (arith, many, here)) in
          let k = known_at c inside in
          let by = by_standing k.0.standing (over.each c k.0 k.1) in
          text_at (length clients) c inputs inside
          ∙ (over_text (place_of clients first c) (place_of clients now c) (h.read c) (packets_given c h.at.frames) k.0 (inputs c) (h.has.each c k.0 k.1).stands by.0 (may c k.0 k.1)).text
          ∙ ap (λ lost. record { packets = packets_given c h.at.frames; is_lost = lost }) by.1;
    }
