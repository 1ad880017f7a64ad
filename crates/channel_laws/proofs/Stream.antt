-- The bytes that the turns of the command take, and what arrives in a front of them.
use Rattle.std.proofs.Common.{◌≡◌, ◌<◌, ◌≤◌, ◌+◌, ◌-◌, ◌*◌, ◌/◌, ℕ, zero, suc, List, [], ◌∷◌, ◌++◌, length, map, take, drop, min, sym, ap, ◌∙◌, subst, refl, arith, append-nil, length-append, length-drop}
use Rattle.std.specs.Prelude.{sum, replicate, flat_map}
use Rattle.std.specs.List.{concat}
use Rattle.std.proofs.Math.Seq.{take-length, take-add}
use Rattle.std.proofs.lemmas.List.{length-take-le, map-append, take-take}
use Rattle.std.proofs.lemmas.List.Folds.{concat-append}
use Rattle.std.proofs.lemmas.List.Sums.{sum_by-append}
use Rattle.gfp_linear.specs.ChannelArrivals.{channel_arrivals}
use Rattle.gfp_linear.specs.Laws.{woven_arrivals}
use Rattle.gfp_linear.specs.Weave.{ChannelText, made_of, weave, weave_text}
use Rattle.gfp_frames.specs.GfpText.{text_of}
use Rattle.odu_client.specs.AlignedRuns.{arrivals, runs_of}
use Rattle.odu_client.specs.ClientFrames.{client_frames, frames_begun, payload_begun}
use Rattle.odu_client.proofs.FrameLists.{joined_size}
use Rattle.odu_client.proofs.WholeFrames.{frames_arrive}
use Rattle.tributary_model.specs.Carries.{cm_in, sent}
use Rattle.tributary_model.specs.Puts.{lengths_of}
use Rattle.bundle_command.specs.BundleStream.{channel_stream, channel_turns, parts_of, payload_sent, payload_whole}
use Rattle.unbundle_command.specs.Unbundled.{client_arrivals}

-- ---- the parts of some bytes

pub parts_joined : (bytes : List ℕ) (turns : ℕ) → concat (parts_of bytes turns) ≡ take (15168 * turns) bytes
unfolding parts_of
parts_joined bytes zero = refl
parts_joined bytes (suc t) =
    let more : 15168 * suc t ≡ 15168 * t + 15168 = omega arith in
    concat-append (parts_of bytes t) (take 15168 (drop (15168 * t) bytes) ∷ [])
    ∙ ap (λ bs. bs ++ concat (take 15168 (drop (15168 * t) bytes) ∷ [])) (parts_joined bytes t)
    ∙ ap (λ bs. take (15168 * t) bytes ++ bs) (append-nil (take 15168 (drop (15168 * t) bytes)))
    ∙ sym (take-add (15168 * t) 15168 bytes) ∙ ap (λ n. take n bytes) (sym more)

pub parts_many : (bytes : List ℕ) (turns : ℕ) → length (parts_of bytes turns) ≡ turns
unfolding parts_of
parts_many bytes zero = refl
parts_many bytes (suc t) = length-append (parts_of bytes t) _ ∙ (let e = parts_many bytes t in omega arith)

-- each has as many bytes as an ODU0 has in a turn
pub parts_sizes : (bytes : List ℕ) (turns : ℕ) → 15168 * turns ≤ length bytes → lengths_of (parts_of bytes turns) ≡ replicate turns 15168
unfolding parts_of
parts_sizes bytes zero long = refl
parts_sizes bytes (suc t) long =
    let part = take 15168 (drop (15168 * t) bytes) in
    let d = length-drop (15168 * t) bytes in
    let size : length part ≡ 15168 = length-take-le 15168 (drop (15168 * t) bytes) (omega arith) in
    map-append length (parts_of bytes t) (part ∷ []) ∙ ap (λ ns. ns ++ length part ∷ []) (parts_sizes bytes t (omega arith))
    ∙ ap (λ n. replicate t 15168 ++ n ∷ []) size ∙ replicate_push t 15168
  where
    replicate_push : (n x : ℕ) → replicate n x ++ x ∷ [] ≡ replicate (suc n) x
    replicate_push zero x = refl
    replicate_push (suc n) x = ap (λ xs. x ∷ xs) (replicate_push n x)

sent_equal : (n k : ℕ) → k ≤ n → sent (replicate n 15168) k ≡ 15168 * k
sent_equal n zero within = sum_none (replicate n 15168)
  where
    sum_none : (xs : List ℕ) → sum (take 0 xs) ≡ 0
    sum_none xs = refl
sent_equal zero (suc k) within = absurd (omega arith)
sent_equal (suc n) (suc k) within =
    let e = sent_equal n k (omega arith) in
    let one : sent (replicate (suc n) 15168) (suc k) ≡ 15168 + sent (replicate n 15168) k = sum_by-append (λ n. n) (15168 ∷ []) (take k (replicate n 15168)) in
    omega (arith, e, one)

pub sent_parts : (bytes : List ℕ) (turns k : ℕ) → 15168 * turns ≤ length bytes → k ≤ turns → sent (lengths_of (parts_of bytes turns)) k ≡ 15168 * k
sent_parts bytes turns k long within = ap (λ p. sent p k) (parts_sizes bytes turns long) ∙ sent_equal turns k within

-- ---- the stream

abbrev stream_text : (cids : List ℕ) → (texts : List ChannelText) → (n : ℕ) → List ℕ
stream_text cids texts n = concat (client_frames [] (frames_begun n) (weave_text cids texts (payload_begun n)))

pub stream_size : (cids : List ℕ) (texts : List ChannelText) (n : ℕ) → length (channel_stream cids texts n) ≡ n
stream_size cids texts n =
    let size = joined_size [] (frames_begun n) (weave_text cids texts (payload_begun n)) in
    length-take-le n (stream_text cids texts n) (omega arith)

-- the first bytes of the weave, of which there are enough
pub WovenSize : Type 0
WovenSize = (cids : List ℕ) (texts : List ChannelText) (n : ℕ) → length (weave_text cids texts n) ≡ n

-- ---- what arrives in a front

pub front_arrives : (cids : List ℕ) (texts : List ChannelText) (n k : ℕ) → k ≤ n → length (weave_text cids texts (payload_begun n)) ≡ payload_begun n
    → client_arrivals (take k (channel_stream cids texts n)) ≡ woven_arrivals cids texts (payload_begun n) (15232 * (k / 15296))
unfolding client_arrivals channel_arrivals
front_arrives cids texts n k within size =
    let text = weave_text cids texts (payload_begun n) in
    let whole = text_of (map (made_of cids) (weave texts (payload_begun n))) in
    let part = 15232 * (k / 15296) in
    ap (λ bytes. flat_map channel_arrivals (runs_of (arrivals bytes))) (take-take k n (stream_text cids texts n) within)
    ∙ ap (flat_map channel_arrivals) (frames_arrive [] (frames_begun n) k text (omega arith) (omega (arith, size)))
    ∙ append-nil (channel_arrivals (take part text))
    ∙ ap channel_arrivals (take-take part (payload_begun n) whole (omega arith))
