-- What a maker gives, where it is offered packets without a gap and then nothing, is a client's stream.
use Rattle.std.proofs.Common.{◌≡◌, ℕ, zero, suc, ◌+◌, ◌-◌, ◌*◌, ◌≤◌, List, [], ◌∷◌, ◌++◌, Bool, length, take, refl, ap, ◌∙◌, sym, arith, inl, inr, append_assoc, length-append}
use Rattle.std.specs.Prelude.{map, replicate}
use Rattle.std.proofs.Math.Seq.{take-append_seam, take-append-add}
use Rattle.std.proofs.lemmas.List.{append-nil, take-append-le}
use Rattle.std.proofs.lemmas.Bool.{cases_lt}
use Rattle.gfp_scrambler.specs.Register.{scrambled}
use Rattle.gfp_frames.specs.CoreHeader.{core_header}
use Rattle.gfp_frames.specs.GfpText.{Frame, Idle, Client, text_of, gfp_text, stream_frames}
use Rattle.gfp_frames.specs.Maker.{MakerState, HasMade}
use Rattle.gfp_frames.proofs.Texts.{text-push, header_size}

idles : ℕ → List ℕ
idles zero = []
idles (suc k) = core_header 0 ++ idles k

idles-size : (k : ℕ) → length (idles k) ≡ 4 * k
unfolding idles
idles-size zero = refl
idles-size (suc k) = length-append (core_header 0) (idles k) ∙ (let h = header_size 0 in let e = idles-size k in omega arith)

push_idle : (frames : List Frame) → text_of (frames ++ Idle ∷ []) ≡ text_of frames ++ core_header 0
unfolding scrambled
push_idle frames = text-push frames Idle ∙ ap (λ y. text_of frames ++ y) (append-nil (core_header 0))

text-idles : (k : ℕ) (frames : List Frame) → text_of (frames ++ replicate k Idle) ≡ text_of frames ++ idles k
unfolding idles
text-idles zero frames = ap text_of (append-nil frames) ∙ sym (append-nil (text_of frames))
text-idles (suc k) frames =
    ap text_of (sym (append_assoc frames (Idle ∷ []) (replicate k Idle)))
    ∙ text-idles k (frames ++ Idle ∷ [])
    ∙ ap (λ y. y ++ idles k) (push_idle frames)
    ∙ append_assoc (text_of frames) (core_header 0) (idles k)

-- idle frames begin alike, however many there are
take-idles : (i j m : ℕ) → m ≤ 4 * i → m ≤ 4 * j → take m (idles i) ≡ take m (idles j)
unfolding idles
take-idles zero j m hi hj = ap (λ n. take n []) (let e : m ≡ 0 = omega arith in e) ∙ sym (ap (λ n. take n (idles j)) (let e : m ≡ 0 = omega arith in e))
take-idles (suc i) zero m hi hj = ap (λ n. take n (core_header 0 ++ idles i)) (let e : m ≡ 0 = omega arith in e) ∙ sym (ap (λ n. take n []) (let e : m ≡ 0 = omega arith in e))
take-idles (suc i) (suc j) m hi hj = elim (cases_lt m 4) [
  | inl short ↦
      take-append-le m (core_header 0) (idles i) (let h = header_size 0 in omega arith) ∙ sym (take-append-le m (core_header 0) (idles j) (let h = header_size 0 in omega arith))
  | inr more ↦
      let place : m ≡ length (core_header 0) + (m - 4) = (let h = header_size 0 in omega arith) in
      ap (λ n. take n (core_header 0 ++ idles i)) place ∙ take-append-add (core_header 0) (idles i) (m - 4)
      ∙ ap (λ y. core_header 0 ++ y) (take-idles i j (m - 4) (omega arith) (omega arith))
      ∙ sym (ap (λ n. take n (core_header 0 ++ idles j)) place ∙ take-append-add (core_header 0) (idles j) (m - 4))
]

-- so a stream's first bytes are the same with any number of idle frames that suffices
take-stream : (frames : List Frame) (i n : ℕ) → n ≤ length (text_of (frames ++ replicate i Idle)) → take n (text_of (frames ++ replicate i Idle)) ≡ take n (text_of (frames ++ replicate n Idle))
take-stream frames i n enough =
    let start = text_of frames in
    let long : length (text_of (frames ++ replicate i Idle)) ≡ length start + 4 * i =
    ap length (text-idles i frames) ∙ length-append start (idles i) ∙ ap (λ k. length start + k) (idles-size i) in
    ap (take n) (text-idles i frames)
    ∙ elim (cases_lt (length start) n) [
      | inl later ↦
          let place : n ≡ length start + (n - length start) = omega arith in
          ap (λ k. take k (start ++ idles i)) place ∙ take-append-add start (idles i) (n - length start)
          ∙ ap (λ y. start ++ y) (take-idles i n (n - length start) (omega arith) (omega arith))
          ∙ sym (ap (λ k. take k (start ++ idles n)) place ∙ take-append-add start (idles n) (n - length start))
      | inr within ↦ take-append-le n start (idles i) within ∙ sym (take-append-le n start (idles n) within)
    ]
    ∙ ap (take n) (sym (text-idles n frames))

pub given_is_stream : (packets : List (List ℕ)) (fcs : Bool) (count : ℕ) (emitted : List ℕ) (maker : MakerState) → HasMade (stream_frames packets fcs count) emitted maker → emitted ≡ gfp_text packets fcs (length emitted)
unfolding gfp_text
given_is_stream packets fcs count emitted maker made =
    let frames = Idle ∷ map (λ packet. Client packet fcs) packets in
    let enough : length emitted ≤ length (text_of (frames ++ replicate count Idle)) = (let e = ap length (sym made.text) in let l = length-append emitted maker.hand in omega arith) in
    sym (take-append_seam emitted maker.hand) ∙ ap (take (length emitted)) made.text ∙ take-stream frames count (length emitted) enough
