-- The steps of a maker.
use Rattle.std.proofs.Common.{length-append, append-nil, append_assoc, ◌≡◌, ◌≢◌, ℕ, zero, suc, ◌+◌, ◌-◌, ◌/◌, ◌%◌, ◌<◌, ◌≤◌, List, [], ◌∷◌, ◌++◌, Bool, true, false, cond, Option, Some, None, length, take, get_or, replicate, map, reverse, refl, ap, ◌∙◌, sym, subst, arith, inl, inr, add-one}
use Rattle.std.specs.Prelude.{◌==◌, ◌||◌, nat_lt, slice_set}
use Rattle.std.specs.List.{list_any}
use Rattle.std.proofs.lemmas.List.{map-append, reverse-append, get_or-map, get_or-set_same, get_or-set_other, length-map, length-set, length-replicate, get_or-replicate}
use Rattle.std.specs.List.Sorted.{IsStrictlyIncreasing}
use Rattle.std.proofs.lemmas.Bool.{cases_lt, lt-ltb, le-ltb, false≢true, eq-eqb}
use Rattle.std.proofs.lemmas.Bool.Decides.{nat_tests}
use Rattle.gfp_scrambler.specs.Register.{scrambled}
use Rattle.gfp_frames.specs.GfpText.{Frame, Idle}
use Rattle.gfp_frames.specs.Maker.{MakerState, HasMade, idles_begun, made_frame}
use Rattle.gfp_frames.specs.CoreHeader.{core_header}
use Rattle.gfp_frames.proofs.Texts.{frame_made, idle_made, header_size, header_some}
use Rattle.gfp_linear.specs.ChannelFrames.{packet_area, loss_area, IsCidList}
use Rattle.gfp_linear.specs.Weave.{WovenFrame, IdleFrame, PacketFrame, LossFrame, made_of, is_loss_of, giver_or, giver_after, last_giver, is_loss_late, loss_due, asked_first}
use Rattle.gfp_linear.specs.Weaver.{WeaverState, Woven, woven_first, channel_at, woven_on, wait_behind, wait_of, idles_on, HasWoven}
use Rattle.gfp_linear.specs.Steps.Weaver.{idle_put, packet_put, loss_put}

-- ---- what the frames so far say, one frame later

pub made-push : (cids : List ℕ) (frames : List WovenFrame) (frame : WovenFrame) → map (made_of cids) (frames ++ frame ∷ []) ≡ map (made_of cids) frames ++ made_of cids frame ∷ []
made-push cids frames frame = map-append (made_of cids) frames (frame ∷ [])

giver_after-push : (last : Option ℕ) (frames : List WovenFrame) (frame : WovenFrame) → giver_after last (frames ++ frame ∷ []) ≡ giver_or (giver_after last frames) frame
giver_after-push last [] frame = refl
giver_after-push last (f ∷ frames) frame = giver_after-push (giver_or last f) frames frame

pub giver-push : (frames : List WovenFrame) (frame : WovenFrame) → last_giver (frames ++ frame ∷ []) ≡ giver_or (last_giver frames) frame
giver-push frames frame = giver_after-push None frames frame

pub wait-push : (c : ℕ) (frames : List WovenFrame) (frame : WovenFrame) → wait_of c (frames ++ frame ∷ []) ≡ cond (is_loss_of c frame) 1000 (wait_of c frames - 1)
wait-push c frames frame = ap (wait_behind c) (reverse-append frames (frame ∷ []))

-- ---- when a loss frame is due

wait_step : (b : Bool) (w : ℕ) → w ≤ 1000 → cond b 1000 (w - 1) ≤ 1000
wait_step true w h = omega arith
wait_step false w h = omega arith

wait_small : (c : ℕ) (past : List WovenFrame) → wait_behind c past ≤ 1000
wait_small c [] = omega arith
wait_small c (frame ∷ past) = wait_step (is_loss_of c frame) (wait_behind c past) (wait_small c past)

same_test : (a b a' b' : ℕ) → a ≡ suc a' → b' ≡ b - 1 → nat_lt a b ≡ nat_lt a' b'
same_test a b a' b' e f = elim (cases_lt a b) [
  | inl less ↦ lt-ltb a b less ∙ sym (lt-ltb a' b' (omega arith))
  | inr more ↦ le-ltb a b more ∙ sym (le-ltb a' b' (omega arith))
]

late_step : (b : Bool) (k w : ℕ) (late : Bool) → suc k ≤ 1000 → late ≡ nat_lt (1000 - k) w → (b || late) ≡ nat_lt (1000 - suc k) (cond b 1000 (w - 1))
late_step true k w late h e = sym (lt-ltb (1000 - suc k) 1000 (omega arith))
late_step false k w late h e = e ∙ same_test (1000 - k) w (1000 - suc k) (w - 1) (omega arith) refl

late_behind : (c k : ℕ) (past : List WovenFrame) → k ≤ 1000 → list_any (is_loss_of c) (take k past) ≡ nat_lt (1000 - k) (wait_behind c past)
late_behind c zero past h = sym (le-ltb 1000 (wait_behind c past) (wait_small c past))
late_behind c (suc k) [] h = sym (le-ltb (1000 - suc k) 0 (omega arith))
late_behind c (suc k) (frame ∷ past) h = late_step (is_loss_of c frame) k (wait_behind c past) (list_any (is_loss_of c) (take k past)) h (late_behind c k past (omega arith))

pub late_is : (c : ℕ) (frames : List WovenFrame) → is_loss_late c frames ≡ nat_lt 0 (wait_of c frames)
late_is c frames = late_behind c 1000 (reverse frames) (omega arith)

pub due : (c : ℕ) (frames : List WovenFrame) → wait_of c frames ≤ 0 → loss_due c frames ≡ Some (LossFrame c)
due c frames h = ap (λ b. cond b None (Some (LossFrame c))) (late_is c frames ∙ le-ltb 0 (wait_of c frames) h)

pub not_due : (c : ℕ) (frames : List WovenFrame) → 0 < wait_of c frames → loss_due c frames ≡ None
not_due c frames h = ap (λ b. cond b None (Some (LossFrame c))) (late_is c frames ∙ lt-ltb 0 (wait_of c frames) h)

-- ---- which channel is asked

pub asked_is : (cids : List ℕ) (at : Woven) (emitted : List ℕ) (m : WeaverState) (c : ℕ) → HasWoven cids at emitted m → c ≡ (m.first + m.asked) % length m.cids → c ≡ channel_at (length cids) at
asked_is cids at emitted m c woven is =
    is ∙ ap (λ xs. (m.first + m.asked) % length xs) woven.same ∙ ap (λ n. (n + m.asked) % length cids) woven.first ∙ ap (λ n. (asked_first (length cids) (last_giver at.frames) + n) % length cids) woven.others

-- ---- the waits, one frame later

pub passed : (waits : List ℕ) (c : ℕ) → c < length waits → get_or (map (λ wait. wait - 1) waits) c 0 ≡ get_or waits c 0 - 1
passed waits c h = get_or-map (λ wait. wait - 1) waits c 0 0 h

-- a frame that is no loss frame
quiet_waits : (cids : List ℕ) (frames : List WovenFrame) (frame : WovenFrame) (waits : List ℕ) → ((c : ℕ) → is_loss_of c frame ≡ false) → length waits ≡ length cids → ((c : ℕ) → c < length cids → get_or waits c 0 ≡ wait_of c frames)
    → (c : ℕ) → c < length cids → get_or (map (λ wait. wait - 1) waits) c 0 ≡ wait_of c (frames ++ frame ∷ [])
quiet_waits cids frames frame waits none size was c h =
    passed waits c (omega arith) ∙ ap (λ n. n - 1) (was c h) ∙ sym (wait-push c frames frame ∙ ap (λ b. cond b 1000 (wait_of c frames - 1)) (none c))

-- ---- steps

pub packet_woven : (cids : List ℕ) (at : Woven) (emitted : List ℕ) (old new : WeaverState) (c : ℕ) (packet : List ℕ) → HasWoven cids at emitted old → old.maker.hand ≡ [] → c ≡ (old.first + old.asked) % length old.cids
    → new ≡ packet_put old c packet → HasWoven cids (woven_on (length cids) at (Some (PacketFrame (channel_at (length cids) at) packet))) emitted new
packet_woven cids at emitted old new c packet woven none asked is =
    let P : ℕ → Type 0 = λ d. HasWoven cids (woven_on (length cids) at (Some (PacketFrame d packet))) emitted new in
    let Q : WeaverState → Type 0 = λ s. HasWoven cids (woven_on (length cids) at (Some (PacketFrame c packet))) emitted s in
    let frame = PacketFrame c packet in
    let next = packet_put old c packet in
    let area : packet_area (get_or old.cids c 0) packet ≡ packet_area (get_or cids c 0) packet = ap (λ xs. packet_area (get_or xs c 0) packet) woven.same in
    let made : HasMade (map (made_of cids) at.frames ++ made_of cids frame ∷ []) emitted next.maker =
    frame_made (map (made_of cids) at.frames) (made_of cids frame) emitted old.maker next.maker woven.made none (ap (λ a. made_frame a old.maker.register) area) in
    let R : List Frame → Type 0 = λ fs. HasMade fs emitted next.maker in
    subst P (asked_is cids at emitted old c woven asked) (subst Q (sym is) (record {
      made = subst R (sym (made-push cids at.frames frame)) made;
      same = woven.same;
      first = ap (λ xs. (c + 1) % length xs) woven.same ∙ ap (asked_first (length cids)) (sym (giver-push at.frames frame));
      others = refl;
      sizes = length-map old.waits (λ wait. wait - 1) ∙ woven.sizes;
      waits = quiet_waits cids at.frames frame old.waits (λ d. refl) woven.sizes woven.waits;
    }))

loss_waits : (cids : List ℕ) (frames : List WovenFrame) (waits : List ℕ) (c : ℕ) → length waits ≡ length cids → ((d : ℕ) → d < length cids → get_or waits d 0 ≡ wait_of d frames)
    → (d : ℕ) → d < length cids → get_or (slice_set (map (λ wait. wait - 1) waits) c 1000) d 0 ≡ wait_of d (frames ++ LossFrame c ∷ [])
loss_waits cids frames waits c size was d h = by_test (c == d) refl
  where
    later : List ℕ
    later = map (λ wait. wait - 1) waits

    by_test : (b : Bool) → (c == d) ≡ b → get_or (slice_set later c 1000) d 0 ≡ wait_of d (frames ++ LossFrame c ∷ [])
    by_test true e =
        let same : d ≡ c = (let s = e in grind (arith, nat_tests)) in
        let l = length-map waits (λ wait. wait - 1) in
        ap (λ i. get_or (slice_set later c 1000) i 0) same ∙ get_or-set_same later c 1000 0 (omega arith)
        ∙ sym (wait-push d frames (LossFrame c) ∙ ap (λ b. cond b 1000 (wait_of d frames - 1)) e)
    by_test false e =
        let other : d ≢ c = λ same. false≢true (sym e ∙ eq-eqb c d (sym same)) in
        get_or-set_other later c d 1000 0 other ∙ passed waits d (omega arith) ∙ ap (λ n. n - 1) (was d h)
        ∙ sym (wait-push d frames (LossFrame c) ∙ ap (λ b. cond b 1000 (wait_of d frames - 1)) e)

pub loss_woven : (cids : List ℕ) (at : Woven) (emitted : List ℕ) (old new : WeaverState) (c : ℕ) → HasWoven cids at emitted old → old.maker.hand ≡ [] → c ≡ (old.first + old.asked) % length old.cids
    → new ≡ loss_put old c → HasWoven cids (woven_on (length cids) at (Some (LossFrame c))) emitted new
loss_woven cids at emitted old new c woven none asked is =
    let Q : WeaverState → Type 0 = λ s. HasWoven cids (woven_on (length cids) at (Some (LossFrame c))) emitted s in
    let frame = LossFrame c in
    let next = loss_put old c in
    let area : loss_area (get_or old.cids c 0) ≡ loss_area (get_or cids c 0) = ap (λ xs. loss_area (get_or xs c 0)) woven.same in
    let made : HasMade (map (made_of cids) at.frames ++ made_of cids frame ∷ []) emitted next.maker =
    frame_made (map (made_of cids) at.frames) (made_of cids frame) emitted old.maker next.maker woven.made none (ap (λ a. made_frame a old.maker.register) area) in
    let R : List Frame → Type 0 = λ fs. HasMade fs emitted next.maker in
    subst Q (sym is) (record {
      made = subst R (sym (made-push cids at.frames frame)) made;
      same = woven.same;
      first = ap (λ xs. (c + 1) % length xs) woven.same ∙ ap (asked_first (length cids)) (sym (giver-push at.frames frame));
      others = refl;
      sizes = length-set (map (λ wait. wait - 1) old.waits) c 1000 ∙ length-map old.waits (λ wait. wait - 1) ∙ woven.sizes;
      waits = loss_waits cids at.frames old.waits c woven.sizes woven.waits;
    })

-- a channel that gives nothing, where others are left
pub next_woven : (cids : List ℕ) (at : Woven) (emitted : List ℕ) (old new : WeaverState) → HasWoven cids at emitted old → old.asked + 1 < length old.cids → new ≡ record old { asked = old.asked + 1 }
    → HasWoven cids (woven_on (length cids) at None) emitted new
next_woven cids at emitted old new woven left is =
    let P : Woven → Type 0 = λ w. HasWoven cids w emitted new in
    let Q : WeaverState → Type 0 = λ s. HasWoven cids (record { frames = at.frames; others = at.others + 1 }) emitted s in
    let idle : Woven = record { frames = at.frames ++ IdleFrame ∷ []; others = 0 } in
    let count : length old.cids ≡ length cids = ap length woven.same in
    let test : nat_lt (at.others + 1) (length cids) ≡ true = lt-ltb (at.others + 1) (length cids) (let e = woven.others in omega arith) in
    subst P (sym (ap (λ b. cond b (record { frames = at.frames; others = at.others + 1 }) idle) test))
    (subst Q (sym is) (record { made = woven.made; same = woven.same; first = woven.first; others = ap (λ n. n + 1) woven.others; sizes = woven.sizes; waits = woven.waits }))

-- a channel that gives nothing, the last one: an idle frame begins
pub idle_woven : (cids : List ℕ) (at : Woven) (emitted : List ℕ) (old new : WeaverState) → HasWoven cids at emitted old → old.maker.hand ≡ [] → length old.cids ≤ old.asked + 1
    → new ≡ record old { waits = map (λ wait. wait - 1) old.waits; maker = record old.maker { hand = core_header 0 }; asked = 0 }
    → HasWoven cids (woven_on (length cids) at None) emitted new
idle_woven cids at emitted old new woven none last is =
    let next : WeaverState = record old { waits = map (λ wait. wait - 1) old.waits; maker = record old.maker { hand = core_header 0 }; asked = 0 } in
    let idle : Woven = record { frames = at.frames ++ IdleFrame ∷ []; others = 0 } in
    let P : Woven → Type 0 = λ w. HasWoven cids w emitted new in
    let Q : WeaverState → Type 0 = λ s. HasWoven cids idle emitted s in
    let count : length old.cids ≡ length cids = ap length woven.same in
    let test : nat_lt (at.others + 1) (length cids) ≡ false = le-ltb (at.others + 1) (length cids) (let e = woven.others in omega arith) in
    let made : HasMade (map (made_of cids) at.frames ++ Idle ∷ []) emitted next.maker = idle_made (map (made_of cids) at.frames) emitted old.maker next.maker woven.made none refl in
    let R : List Frame → Type 0 = λ fs. HasMade fs emitted next.maker in
    subst P (sym (ap (λ b. cond b (record { frames = at.frames; others = at.others + 1 }) idle) test))
    (subst Q (sym is) (record {
      made = subst R (sym (made-push cids at.frames IdleFrame)) made;
      same = woven.same;
      first = woven.first ∙ ap (asked_first (length cids)) (sym (giver-push at.frames IdleFrame));
      others = refl;
      sizes = length-map old.waits (λ wait. wait - 1) ∙ woven.sizes;
      waits = quiet_waits cids at.frames IdleFrame old.waits (λ d. refl) woven.sizes woven.waits;
    }))

-- no channel gives anything more: idle frames
more_idles : (frames : List WovenFrame) (k : ℕ) → frames ++ replicate (suc k) IdleFrame ≡ (frames ++ IdleFrame ∷ []) ++ replicate k IdleFrame
more_idles frames k = sym (append_assoc frames (IdleFrame ∷ []) (replicate k IdleFrame))

made-idles : (cids : List ℕ) (frames : List WovenFrame) (k : ℕ) → map (made_of cids) (frames ++ replicate k IdleFrame) ≡ map (made_of cids) frames ++ replicate k Idle
made-idles cids frames k = map-append (made_of cids) frames (replicate k IdleFrame) ∙ ap (λ fs. map (made_of cids) frames ++ fs) (all_idle k)
  where
    all_idle : (k : ℕ) → map (made_of cids) (replicate k IdleFrame) ≡ replicate k Idle
    all_idle zero = refl
    all_idle (suc k) = ap (λ fs. Idle ∷ fs) (all_idle k)

giver-idles : (frames : List WovenFrame) (k : ℕ) → last_giver (frames ++ replicate k IdleFrame) ≡ last_giver frames
giver-idles frames zero = ap last_giver (append-nil frames)
giver-idles frames (suc k) = ap last_giver (more_idles frames k) ∙ giver-idles (frames ++ IdleFrame ∷ []) k ∙ giver-push frames IdleFrame

wait-idles : (c : ℕ) (frames : List WovenFrame) (k : ℕ) → wait_of c (frames ++ replicate k IdleFrame) ≡ wait_of c frames - k
wait-idles c frames zero = ap (wait_of c) (append-nil frames) ∙ (let e : wait_of c frames ≡ wait_of c frames - 0 = omega arith in e)
wait-idles c frames (suc k) =
    let one = wait-push c frames IdleFrame in
    ap (wait_of c) (more_idles frames k) ∙ wait-idles c (frames ++ IdleFrame ∷ []) k ∙ (let e : wait_of c (frames ++ IdleFrame ∷ []) - k ≡ wait_of c frames - suc k = omega (arith, one) in e)

pub idles_woven : (cids : List ℕ) (at : Woven) (emitted bytes : List ℕ) (k : ℕ) (old new : WeaverState) (maker : MakerState) → HasWoven cids at emitted old
    → HasMade (map (made_of cids) at.frames ++ replicate k Idle) (emitted ++ bytes) maker → new ≡ record old { waits = map (λ wait. wait - k) old.waits; maker = maker; asked = 0 }
    → HasWoven cids (idles_on k at) (emitted ++ bytes) new
idles_woven cids at emitted bytes k old new maker woven made is =
    let Q : WeaverState → Type 0 = λ s. HasWoven cids (idles_on k at) (emitted ++ bytes) s in
    let R : List Frame → Type 0 = λ fs. HasMade fs (emitted ++ bytes) maker in
    subst Q (sym is) (record {
      made = subst R (sym (made-idles cids at.frames k)) made;
      same = woven.same;
      first = woven.first ∙ ap (asked_first (length cids)) (sym (giver-idles at.frames k));
      others = refl;
      sizes = length-map old.waits (λ wait. wait - k) ∙ woven.sizes;
      waits = λ c here.
          let size = woven.sizes in
          get_or-map (λ wait. wait - k) old.waits c 0 0 (omega (arith, size, here)) ∙ ap (λ n. n - k) (woven.waits c here) ∙ sym (wait-idles c at.frames k);
    })

-- the same, of a state that is seen in two ways
pub idles_given : (cids : List ℕ) (at : Woven) (emitted bytes waits : List ℕ) (n k : ℕ) (old mid : WeaverState) (maker : MakerState) → HasWoven cids at emitted old → old.maker.hand ≡ [] → old ≡ mid
    → ((frames : List Frame) (emitted : List ℕ) → HasMade frames emitted mid.maker → HasMade (frames ++ replicate (idles_begun mid.maker.hand n) Idle) (emitted ++ bytes) maker)
    → waits ≡ map (λ wait. wait - k) mid.waits → k ≡ (n + 3) / 4
    → HasWoven cids (idles_on ((n + 3) / 4) at) (emitted ++ bytes) (record { cids = mid.cids; waits = waits; maker = maker; first = mid.first; asked = 0 })
idles_given cids at emitted bytes waits n k old mid maker woven none seen makes passed count =
    let here = subst (HasWoven cids at emitted) seen woven in
    let empty : mid.maker.hand ≡ [] = ap (λ (s : WeaverState). s.maker.hand) (sym seen) ∙ none in
    let many : idles_begun mid.maker.hand n ≡ (n + 3) / 4 = ap (λ h. idles_begun h n) empty ∙ (let e : (n - 0 + 3) / 4 ≡ (n + 3) / 4 = omega arith in e) in
    let made = subst (λ k. HasMade (map (made_of cids) at.frames ++ replicate k Idle) (emitted ++ bytes) maker) many (makes (map (made_of cids) at.frames) emitted here.made) in
    idles_woven cids at emitted bytes ((n + 3) / 4) mid (record { cids = mid.cids; waits = waits; maker = maker; first = mid.first; asked = 0 }) maker here made
    (with_waits (passed ∙ ap (λ k. map (λ wait. wait - k) mid.waits) count))
  where
    with_waits : {ws : List ℕ} → waits ≡ ws → ◌≡◌ {A = WeaverState} (record { cids = mid.cids; waits = waits; maker = maker; first = mid.first; asked = 0 }) (record { cids = mid.cids; waits = ws; maker = maker; first = mid.first; asked = 0 })
    with_waits e = rw e refl

-- bytes of the frame in hand
pub gives_woven : (cids : List ℕ) (at : Woven) (emitted bytes : List ℕ) (old new : WeaverState) (maker : MakerState) → HasWoven cids at emitted old → HasMade (map (made_of cids) at.frames) (emitted ++ bytes) maker → new ≡ record old { maker = maker }
    → HasWoven cids at (emitted ++ bytes) new
gives_woven cids at emitted bytes old new maker woven made is =
    let Q : WeaverState → Type 0 = λ s. HasWoven cids at (emitted ++ bytes) s in
    subst Q (sym is) (record { made = made; same = woven.same; first = woven.first; others = woven.others; sizes = woven.sizes; waits = woven.waits })

-- ---- answers

pub lost_woven : (cids : List ℕ) (at : Woven) (given : List ℕ) (old new : WeaverState) (c : ℕ) → HasWoven cids at given old → old.maker.hand ≡ [] → c ≡ (old.first + old.asked) % length old.cids → c < length old.cids
    → get_or old.waits c 0 ≤ 0 → new ≡ loss_put old c → HasWoven cids (woven_on (length cids) at (loss_due (channel_at (length cids) at) at.frames)) given new
lost_woven cids at given old new c woven none asked within now is =
    let P : ℕ → Type 0 = λ d. HasWoven cids (woven_on (length cids) at (loss_due d at.frames)) given new in
    let Q : Option WovenFrame → Type 0 = λ o. HasWoven cids (woven_on (length cids) at o) given new in
    let few : c < length cids = (let e = ap length woven.same in omega arith) in
    let wait : get_or old.waits c 0 ≡ wait_of c at.frames = woven.waits c few in
    subst P (asked_is cids at given old c woven asked) (subst Q (sym (due c at.frames (omega arith))) (loss_woven cids at given old new c woven none asked is))

pub late_woven : (cids : List ℕ) (at : Woven) (given : List ℕ) (old new : WeaverState) (c : ℕ) → HasWoven cids at given old → c ≡ (old.first + old.asked) % length old.cids → c < length old.cids
    → 0 < get_or old.waits c 0 → HasWoven cids (woven_on (length cids) at None) given new → HasWoven cids (woven_on (length cids) at (loss_due (channel_at (length cids) at) at.frames)) given new
late_woven cids at given old new c woven asked within late later =
    let P : ℕ → Type 0 = λ d. HasWoven cids (woven_on (length cids) at (loss_due d at.frames)) given new in
    let Q : Option WovenFrame → Type 0 = λ o. HasWoven cids (woven_on (length cids) at o) given new in
    let few : c < length cids = (let e = ap length woven.same in omega arith) in
    let wait : get_or old.waits c 0 ≡ wait_of c at.frames = woven.waits c few in
    subst P (asked_is cids at given old c woven asked) (subst Q (sym (not_due c at.frames (omega arith))) later)

-- ---- the start

pub start_woven : (cids : List ℕ) (maker : WeaverState) → HasMade (Idle ∷ []) [] maker.maker → maker.cids ≡ cids → maker.first ≡ 0 → maker.asked ≡ 0 → maker.waits ≡ replicate (length cids) 0 → HasWoven cids woven_first [] maker
start_woven cids maker made same first asked waits = record {
  made = made;
  same = same;
  first = first;
  others = asked;
  sizes = ap length waits ∙ length-replicate (length cids) 0;
  waits = λ c h. ap (λ ws. get_or ws c 0) waits ∙ get_or-replicate (length cids) c 0 0 h;
}

rises : (cids : List ℕ) (k : ℕ) → IsStrictlyIncreasing cids → k < length cids → k ≤ get_or cids k 0
rises cids zero h there = omega arith
rises cids (suc k) h there =
    let before = rises cids k h (omega arith) in
    let next : k + 1 < length cids = omega arith in
    let higher : get_or cids k 0 < get_or cids (k + 1) 0 = h k next in
    let same : get_or cids (k + 1) 0 ≡ get_or cids (suc k) 0 = ap (λ i. get_or cids i 0) (add-one k) in
    omega arith

-- there are at most 256 channels
pub few_cids : (cids : List ℕ) → IsCidList cids → ((i : ℕ) → get_or cids i 0 < 256) → length cids ≤ 256
few_cids [] h small = omega arith
few_cids (cid ∷ cids) h small =
    let last = rises (cid ∷ cids) (length cids) h.rising (omega arith) in
    let high = small (length cids) in
    omega arith

pub some_cids : (cids : List ℕ) → IsCidList cids → 0 < length cids
some_cids [] h = absurd (h.some refl)
some_cids (cid ∷ cids) h = omega arith

-- ---- a frame is in hand

in_hand : (pli : ℕ) (rest : List ℕ) → core_header pli ++ rest ≡ [] → ⊥
in_hand pli rest e = let h = header_size pli in let l = length-append (core_header pli) rest in let n = ap length e in absurd (omega arith)

pub idle_in_hand : (old new : WeaverState) → new ≡ idle_put old → new.maker.hand ≡ [] → ⊥
idle_in_hand old new is e = header_some 0 (sym (ap (λ (s : WeaverState). s.maker.hand) is) ∙ e)

pub packet_in_hand : (old new : WeaverState) (c : ℕ) (packet : List ℕ) → new ≡ packet_put old c packet → new.maker.hand ≡ [] → ⊥
packet_in_hand old new c packet is e =
    let area = packet_area (get_or old.cids c 0) packet in in_hand (length area) (scrambled old.maker.register area) (sym (ap (λ (s : WeaverState). s.maker.hand) is) ∙ e)

pub loss_in_hand : (old new : WeaverState) (c : ℕ) → new ≡ loss_put old c → new.maker.hand ≡ [] → ⊥
loss_in_hand old new c is e =
    let area = loss_area (get_or old.cids c 0) in in_hand (length area) (scrambled old.maker.register area) (sym (ap (λ (s : WeaverState). s.maker.hand) is) ∙ e)
