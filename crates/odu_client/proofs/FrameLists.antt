-- The frames of a client, as lists.
use Rattle.std.proofs.Common.{◌≡◌, ◌≤◌, ◌+◌, ◌*◌, ◌%◌, ℕ, zero, suc, List, [], ◌∷◌, ◌++◌, length, take, drop, arith, refl, sym, ap, ◌∙◌, append-nil, length-append, length-drop, add-one}
use Rattle.std.specs.List.{concat}
use Rattle.std.proofs.Math.Seq.{take-length, drop-append_seam}
use Rattle.std.proofs.lemmas.List.{take-append-le, drop-append-le}
use Rattle.std.proofs.lemmas.List.Folds.{concat-append}
use Rattle.frame_overhead.specs.TwoBefore.{parity_due, or_zero}
use Rattle.odu_client.specs.ClientFrames.{client_frame, client_frames}
use Rattle.odu_client.proofs.FrameBytes.{client_frame-size}

-- the payload bytes of frame n, from 0
abbrev pub frame_payload : (n : ℕ) → (payload : List ℕ) → List ℕ
frame_payload n payload = take 15232 (drop (15232 * n) payload)

-- frame n, behind those before it
abbrev pub next_frame : (sapi : List ℕ) → (n : ℕ) → (before : List (List ℕ)) → (payload : List ℕ) → List ℕ
next_frame sapi n before payload = client_frame sapi (n % 256) (or_zero (parity_due 3824 before)) (frame_payload n payload)

-- frames carry what they carry, whatever follows
pub frames_keep : (sapi : List ℕ) (n : ℕ) (emitted more : List ℕ) → 15232 * n ≤ length emitted → client_frames sapi n (emitted ++ more) ≡ client_frames sapi n emitted
unfolding client_frames
frames_keep sapi zero emitted more h = refl
frames_keep sapi (suc n) emitted more h =
    let before = frames_keep sapi n emitted more (omega arith) in
    let back : drop (15232 * n) (emitted ++ more) ≡ drop (15232 * n) emitted ++ more = drop-append-le (15232 * n) emitted more (omega arith) in
    let long : 15232 ≤ length (drop (15232 * n) emitted) = (let d = length-drop (15232 * n) emitted in omega arith) in
    let payload : frame_payload n (emitted ++ more) ≡ frame_payload n emitted = ap (take 15232) back ∙ take-append-le 15232 (drop (15232 * n) emitted) more long in
    ap (λ fs. fs ++ next_frame sapi n fs (emitted ++ more) ∷ []) before
    ∙ ap (λ p. client_frames sapi n emitted ++ client_frame sapi (n % 256) (or_zero (parity_due 3824 (client_frames sapi n emitted))) p ∷ []) payload

-- the frame behind these
pub frames_next : (sapi : List ℕ) (n : ℕ) (emitted payload : List ℕ) → length emitted ≡ 15232 * n → length payload ≡ 15232
    → client_frames sapi (n + 1) (emitted ++ payload) ≡ client_frames sapi n emitted ++ client_frame sapi (n % 256) (or_zero (parity_due 3824 (client_frames sapi n emitted))) payload ∷ []
unfolding client_frames
frames_next sapi n emitted payload g p =
    let before = frames_keep sapi n emitted payload (omega arith) in
    let here : frame_payload n (emitted ++ payload) ≡ payload =
    ap (λ k. take 15232 (drop k (emitted ++ payload))) (sym g) ∙ ap (take 15232) (drop-append_seam emitted payload) ∙ ap (λ k. take k payload) (sym p) ∙ take-length payload in
    ap (λ m. client_frames sapi m (emitted ++ payload)) (add-one n)
    ∙ ap (λ fs. fs ++ next_frame sapi n fs (emitted ++ payload) ∷ []) before
    ∙ ap (λ q. client_frames sapi n emitted ++ client_frame sapi (n % 256) (or_zero (parity_due 3824 (client_frames sapi n emitted))) q ∷ []) here

-- joined, with one more
pub joined_next : (frames : List (List ℕ)) (frame : List ℕ) → concat (frames ++ frame ∷ []) ≡ concat frames ++ frame
joined_next frames frame = concat-append frames (frame ∷ []) ∙ ap (λ y. concat frames ++ y) (append-nil frame)

pub joined_size : (sapi : List ℕ) (n : ℕ) (emitted : List ℕ) → length (concat (client_frames sapi n emitted)) ≡ 15296 * n
unfolding client_frames
joined_size sapi zero emitted = refl
joined_size sapi (suc n) emitted =
    let fs = client_frames sapi n emitted in
    let frame = next_frame sapi n fs emitted in
    let h = joined_size sapi n emitted in
    let f : length frame ≡ 15296 = client_frame-size sapi (n % 256) (or_zero (parity_due 3824 fs)) (frame_payload n emitted) in
    ap length (joined_next fs frame) ∙ length-append (concat fs) frame ∙ (let e : length (concat fs) + length frame ≡ 15296 * (suc n) = omega arith in e)
