-- A client's stream goes on: the first bytes of it are the same however many are taken.
use Rattle.std.proofs.Common.{◌≡◌, ◌≤◌, ◌+◌, ◌-◌, ◌*◌, ℕ, zero, suc, Bool, List, ◌∷◌, ◌++◌, length, take, drop, replicate, sym, ap, ◌∙◌, arith, append_assoc}
use Rattle.std.specs.List.{concat}
use Rattle.std.proofs.lemmas.List.{length-take-le, take-take, take_all, take-append-drop, take-append-le}
use Rattle.gfp_frames.specs.GfpText.{Idle, text_of, stream_frames, gfp_text}
use Rattle.odu_client.specs.ClientFrames.{client_frames, frames_begun, client_stream}
use Rattle.odu_client.proofs.FrameLists.{next_frame, frames_keep, joined_next, joined_size}
use Rattle.odu_client.proofs.GfpTexts.{total, first_frames, text-more, length-more}

-- ---- the GFP frames

idles : (a b : ℕ) → a ≤ b → replicate b Idle ≡ replicate a Idle ++ replicate (b - a) Idle
idles zero b h = ap (λ k. replicate k Idle) (let e : b ≡ b - 0 = omega arith in e)
idles (suc a) zero h = absurd (omega arith)
idles (suc a) (suc b) h = ap (λ fs. Idle ∷ fs) (idles a b (omega arith) ∙ ap (λ k. replicate a Idle ++ replicate k Idle) (let e : b - a ≡ suc b - suc a = omega arith in e))

idles_long : (n : ℕ) → n ≤ total (replicate n Idle)
unfolding total
idles_long zero = omega arith
idles_long (suc n) = let rest = idles_long n in omega arith

text_long : (packets : List (List ℕ)) (fcs : Bool) (n : ℕ) → n ≤ length (text_of (stream_frames packets fcs n))
text_long packets fcs n = let all = length-more (first_frames packets fcs) (replicate n Idle) in let some = idles_long n in omega arith

gfp_front : (packets : List (List ℕ)) (fcs : Bool) (a b : ℕ) → a ≤ b → take a (gfp_text packets fcs b) ≡ gfp_text packets fcs a
unfolding gfp_text
gfp_front packets fcs a b less =
    let few = stream_frames packets fcs a in
    let more = text-more few (replicate (b - a) Idle) in
    let all : stream_frames packets fcs b ≡ few ++ replicate (b - a) Idle =
    ap (λ fs. first_frames packets fcs ++ fs) (idles a b less) ∙ sym (append_assoc (first_frames packets fcs) (replicate a Idle) (replicate (b - a) Idle)) in
    take-take a b (text_of (stream_frames packets fcs b)) less
    ∙ ap (λ fs. take a (text_of fs)) all
    ∙ ap (take a) more.parts
    ∙ take-append-le a (text_of few) more.rest (text_long packets fcs a)

gfp_long : (packets : List (List ℕ)) (fcs : Bool) (n : ℕ) → length (gfp_text packets fcs n) ≡ n
unfolding gfp_text
gfp_long packets fcs n = length-take-le n (text_of (stream_frames packets fcs n)) (text_long packets fcs n)

-- ---- the client's frames

one_more : (sapi : List ℕ) (k : ℕ) (available : List ℕ) → concat (client_frames sapi (suc k) available) ≡ concat (client_frames sapi k available) ++ next_frame sapi k (client_frames sapi k available) available
unfolding client_frames
one_more sapi k available = joined_next (client_frames sapi k available) (next_frame sapi k (client_frames sapi k available) available)

-- the first of more frames
front_frames : (sapi : List ℕ) (n j : ℕ) (available : List ℕ) → take (15296 * n) (concat (client_frames sapi (n + j) available)) ≡ concat (client_frames sapi n available)
front_frames sapi n zero available =
    let size = joined_size sapi n available in
    ap (λ k. take (15296 * n) (concat (client_frames sapi k available))) (let e : n + 0 ≡ n = omega arith in e)
    ∙ take_all (15296 * n) (concat (client_frames sapi n available)) (omega arith)
front_frames sapi n (suc j) available =
    let before = client_frames sapi (n + j) available in
    let frame = next_frame sapi (n + j) before available in
    let size = joined_size sapi (n + j) available in
    ap (λ k. take (15296 * n) (concat (client_frames sapi k available))) (let e : n + suc j ≡ suc (n + j) = omega arith in e)
    ∙ ap (take (15296 * n)) (one_more sapi (n + j) available)
    ∙ take-append-le (15296 * n) (concat before) frame (omega arith)
    ∙ front_frames sapi n j available

pub stream_front : (sapi : List ℕ) (packets : List (List ℕ)) (fcs : Bool) (n k : ℕ) → n ≤ k → take n (client_stream sapi packets fcs k) ≡ client_stream sapi packets fcs n
unfolding client_stream
stream_front sapi packets fcs n k less =
    let f = frames_begun n in
    let g = frames_begun k in
    let text = gfp_text packets fcs (15232 * g) in
    let front = take (15232 * f) text in
    let more : g ≡ f + (g - f) = omega arith in
    let size : length front ≡ 15232 * f = (let long = gfp_long packets fcs (15232 * g) in length-take-le (15232 * f) text (omega arith)) in
    let kept : client_frames sapi f text ≡ client_frames sapi f front = ap (client_frames sapi f) (sym (take-append-drop (15232 * f) text)) ∙ frames_keep sapi f front (drop (15232 * f) text) (omega arith) in
    take-take n k (concat (client_frames sapi g text)) less
    ∙ sym (take-take n (15296 * f) (concat (client_frames sapi g text)) (omega arith))
    ∙ ap (λ m. take n (take (15296 * f) (concat (client_frames sapi m text)))) more
    ∙ ap (take n) (front_frames sapi f (g - f) text)
    ∙ ap (λ fs. take n (concat fs)) kept
    ∙ ap (λ t. take n (concat (client_frames sapi f t))) (gfp_front packets fcs (15232 * f) (15232 * g) (omega arith))
