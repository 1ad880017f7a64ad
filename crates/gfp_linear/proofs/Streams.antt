-- A maker's stream is the weave of the channels' texts.
use Rattle.std.proofs.Common.{◌≡◌, ℕ, zero, suc, ◌+◌, ◌-◌, ◌≤◌, List, [], ◌∷◌, ◌++◌, cond, Option, Some, None, length, take, map, refl, ap, ◌∙◌, sym, subst, arith, inl, inr, length-append}
use Rattle.std.specs.Prelude.{get_or}
use Rattle.std.proofs.Math.Seq.{take-append_seam}
use Rattle.std.proofs.lemmas.List.{take-append-le}
use Rattle.std.proofs.lemmas.Bool.{cases_lt, lt-ltb, le-ltb}
use Rattle.gfp_scrambler.specs.Register.{last_bits, scrambled}
use Rattle.gfp_frames.specs.CoreHeader.{core_header}
use Rattle.gfp_frames.specs.GfpText.{area_of, areas_of, text_of}
use Rattle.gfp_frames.proofs.Texts.{text-push, header_size}
use Rattle.gfp_linear.specs.Weave.{ChannelText, WovenFrame, IdleFrame, made_of, offer, no_text, frame_or, next_of, next_frame, weave}
use Rattle.gfp_linear.specs.Weaver.{Woven, woven_on, IsWeave}
use Rattle.gfp_linear.specs.Laws.{WeaveStarts, WeaveGoesOn, MadeIsTheWeave}
use Rattle.gfp_linear.proofs.Weaving.{made-push}
use Rattle.gfp_linear.proofs.Weaves.{next-end, next-on, weave-zero, weave-suc}

-- no channel was asked yet
none_asked : (texts : List ChannelText) (frames : List WovenFrame) → next_frame texts frames ≡ next_of (length texts - 0) texts frames 0
none_asked texts frames = ap (λ left. next_of left texts frames 0) (let e : length texts ≡ length texts - 0 = omega arith in e)

pub weave_starts : WeaveStarts
weave_starts texts some = record { begun = 0; begins = sym (weave-zero texts); next = none_asked texts (IdleFrame ∷ []); few = some }

-- the frame that begins is the next one
frame_begins : (texts : List ChannelText) (at : Woven) (frame : WovenFrame) → IsWeave texts at → next_frame texts at.frames ≡ frame → IsWeave texts (record { frames = at.frames ++ frame ∷ []; others = 0 })
frame_begins texts at frame is e = record {
  begun = suc is.begun;
  begins = ap (λ f. at.frames ++ f ∷ []) (sym e) ∙ ap (λ fs. fs ++ next_frame texts fs ∷ []) is.begins ∙ sym (weave-suc texts is.begun);
  next = none_asked texts (at.frames ++ frame ∷ []);
  few = (let few = is.few in omega arith);
}

goes_by : (texts : List ChannelText) (at : Woven) (given : Option WovenFrame) → IsWeave texts at → next_frame texts at.frames ≡ frame_or given (next_of (length texts - at.others - 1) texts at.frames (at.others + 1))
    → IsWeave texts (woven_on (length texts) at given)
goes_by texts at (Some frame) is e = frame_begins texts at frame is e
goes_by texts at None is e =
    let on : Woven = record { frames = at.frames; others = at.others + 1 } in
    let idle : Woven = record { frames = at.frames ++ IdleFrame ∷ []; others = 0 } in
    let few = is.few in
    elim (cases_lt (at.others + 1) (length texts)) [
      | inl more ↦ subst (λ w. IsWeave texts w) (sym (ap (λ b. cond b on idle) (lt-ltb (at.others + 1) (length texts) more)))
          (record {
            begun = is.begun;
            begins = is.begins;
            next = e ∙ ap (λ left. next_of left texts at.frames (at.others + 1)) (let s : length texts - at.others - 1 ≡ length texts - (at.others + 1) = omega arith in s);
            few = more;
          })
      | inr last ↦ subst (λ w. IsWeave texts w) (sym (ap (λ b. cond b on idle) (le-ltb (at.others + 1) (length texts) last)))
          (frame_begins texts at IdleFrame is
          (e ∙ ap (λ left. next_of left texts at.frames (at.others + 1)) (let s : length texts - at.others - 1 ≡ 0 = omega arith in s) ∙ next-end texts at.frames (at.others + 1)))
    ]

pub weave_goes_on : WeaveGoesOn
weave_goes_on texts at c is same =
    let few = is.few in
    let left : length texts - at.others ≡ suc (length texts - at.others - 1) = omega arith in
    goes_by texts at (offer c (get_or texts c no_text) at.frames) is
    (is.next ∙ ap (λ n. next_of n texts at.frames at.others) left ∙ next-on (length texts - at.others - 1) texts at.frames at.others
    ∙ ap (λ d. frame_or (offer d (get_or texts d no_text) at.frames) (next_of (length texts - at.others - 1) texts at.frames (at.others + 1))) (sym same))

-- ---- its text

text_after : (cids : List ℕ) → List ChannelText → ℕ → List ℕ
text_after cids texts n = text_of (map (made_of cids) (weave texts n))

text-suc : (cids : List ℕ) (texts : List ChannelText) (n : ℕ) → (more : List ℕ) × (4 ≤ length more) × (text_after cids texts (suc n) ≡ text_after cids texts n ++ more)
unfolding text_after
text-suc cids texts n =
    let frame = made_of cids (next_frame texts (weave texts n)) in
    let frames = map (made_of cids) (weave texts n) in
    let body = scrambled (last_bits 0 (scrambled 0 (areas_of frames))) (area_of frame) in
    let more = core_header (length (area_of frame)) ++ body in
    let h = header_size (length (area_of frame)) in
    let l = length-append (core_header (length (area_of frame))) body in (
      more,
      omega arith,
      ap (λ fs. text_of (map (made_of cids) fs)) (weave-suc texts n) ∙ ap text_of (made-push cids (weave texts n) (next_frame texts (weave texts n))) ∙ text-push frames frame,
    )

-- so many frames have as many bytes
text-length : (cids : List ℕ) (texts : List ChannelText) (n : ℕ) → n ≤ length (text_after cids texts n)
text-length cids texts zero = omega arith
text-length cids texts (suc n) =
    let next = text-suc cids texts n in
    let before = text-length cids texts n in
    let l = ap length next.2 ∙ length-append (text_after cids texts n) next.0 in
    let four = next.1 in omega arith

-- more frames do not change its first bytes
text-more : (cids : List ℕ) (texts : List ChannelText) (count n k : ℕ) → count ≤ length (text_after cids texts n) → take count (text_after cids texts (n + k)) ≡ take count (text_after cids texts n)
text-more cids texts count n zero h = ap (λ m. take count (text_after cids texts m)) (let e : n + 0 ≡ n = omega arith in e)
text-more cids texts count n (suc k) h =
    let next = text-suc cids texts n in
    let l = ap length next.2 ∙ length-append (text_after cids texts n) next.0 in
    ap (λ m. take count (text_after cids texts m)) (let e : n + suc k ≡ suc n + k = omega arith in e)
    ∙ text-more cids texts count (suc n) k (omega arith)
    ∙ ap (take count) next.2
    ∙ take-append-le count (text_after cids texts n) next.0 h

text_same : (cids : List ℕ) (texts : List ChannelText) (count n m : ℕ) → count ≤ length (text_after cids texts n) → count ≤ length (text_after cids texts m) → take count (text_after cids texts n) ≡ take count (text_after cids texts m)
text_same cids texts count n m hn hm = elim (cases_lt n m) [
  | inl less ↦ sym (ap (λ i. take count (text_after cids texts i)) (let e : m ≡ n + (m - n) = omega arith in e) ∙ text-more cids texts count n (m - n) hn)
  | inr more ↦ ap (λ i. take count (text_after cids texts i)) (let e : n ≡ m + (n - m) = omega arith in e) ∙ text-more cids texts count m (n - m) hm
]

pub made_is : MadeIsTheWeave
unfolding text_after
made_is cids texts at emitted maker woven is =
    let n = is.begun in
    let text : emitted ++ maker.maker.hand ≡ text_after cids texts n = woven.made.text ∙ ap (λ fs. text_of (map (made_of cids) fs)) is.begins in
    let l = ap length text ∙ refl in
    let s = length-append emitted maker.maker.hand in
    sym (take-append_seam emitted maker.maker.hand) ∙ ap (take (length emitted)) text
    ∙ text_same cids texts (length emitted) n (length emitted) (omega arith) (text-length cids texts (length emitted))
