-- A client's stream that arrives whole.
use Rattle.std.proofs.Common.{◌≡◌, ◌<◌, ◌≤◌, ◌+◌, ◌-◌, ◌*◌, ◌/◌, ◌%◌, ℕ, zero, suc, Bool, true, false, nat_le, if◌then◌else◌, List, [], ◌∷◌, ◌++◌, length, take, drop, slice_index, get_or, arith, refl, sym, ap, subst, ◌∙◌, inl, inr, append_assoc, append-nil, length-append, length-drop}
use Rattle.std.specs.Prelude.{flat_map}
use Rattle.std.specs.List.{concat}
use Rattle.std.proofs.Math.Seq.{take-length, take-add}
use Rattle.std.proofs.lemmas.List.{take-append-le, take_at, drop_at, ext_get_or, get_or-take, get_or-drop, length-take-le, take-append-drop}
use Rattle.std.proofs.lemmas.List.FromFn.{get_or-map-range_with_len}
use Rattle.std.proofs.lemmas.Bool.{cases_lt}
use Rattle.frame_geometry.specs.Places.{place_of, payload_row_of}
use Rattle.frame_overhead.specs.TwoBefore.{parity_due, or_zero}
use Rattle.odu_client.specs.ClientFrames.{client_byte, client_frame, client_frames}
use Rattle.odu_client.specs.AlignedRuns.{has_fas, misses_after, is_signal, Arrival, Handed, Broken, arrival_of, whole_frame, arrivals, payload_of, with_payload, runs_of}
use Rattle.odu_client.specs.Aligner.{from_search, from_frame}
use Rattle.odu_client.proofs.FrameBytes.{client_frame-size, client_payload}
use Rattle.std.specs.Prelude.{replicate}
use Rattle.std.proofs.Math.Seq.{take-append-add}
use Rattle.std.proofs.lemmas.List.Folds.{concat-append}
use Rattle.gfp_scrambler.specs.Register.{last_bits, scrambled}
use Rattle.gfp_frames.specs.GfpText.{Idle, areas_of, text_of, gfp_text, stream_frames}
use Rattle.gfp_frames.specs.Maker.{MakerState, HasMade}
use Rattle.gfp_frames.specs.Delivered.{delivered}
use Rattle.gfp_frames.proofs.Streams.{given_is_stream}
use Rattle.gfp_frames.proofs.Arrives.{stream_arrives}
use Rattle.odu_client.specs.ClientFrames.{frames_begun, client_stream}
use Rattle.odu_client.specs.ClientOutput.{arriving_packets}
use Rattle.odu_client.specs.Laws.{PacketsArrive}
use Rattle.odu_client.proofs.GfpTexts.{total, first_frames, length-more}
use Rattle.odu_client.proofs.FrameLists.{frame_payload, next_frame, joined_size}
use Rattle.odu_client.proofs.Arriving.{search_step}
use Rattle.odu_client.proofs.Fronts.{has_fas-front, short_none, frame_meets, frame_none, long_frame, short_frame}

-- the byte at a place of a client's frame
frame_at : (sapi : List ℕ) (mfas bip : ℕ) (payload : List ℕ) (place : ℕ) → place < 15296 → slice_index (client_frame sapi mfas bip payload) place ≡ client_byte sapi mfas bip payload (place / 3824 + 1) (place % 3824 + 1)
unfolding client_frame
frame_at sapi mfas bip payload place less =
    get_or-map-range_with_len (λ k. client_byte sapi mfas bip payload (k / 3824 + 1) (k % 3824 + 1)) 0 15296 place place 0 less (let e : 0 + place ≡ place = omega arith in e)

-- it begins with the FAS
fas_there : (sapi : List ℕ) (mfas bip : ℕ) (payload : List ℕ) → has_fas (client_frame sapi mfas bip payload) ≡ true
unfolding has_fas
fas_there sapi mfas bip payload =
    let at : (k : ℕ) → k < 15296 → slice_index (client_frame sapi mfas bip payload) k ≡ client_byte sapi mfas bip payload (k / 3824 + 1) (k % 3824 + 1) = frame_at sapi mfas bip payload in
    rw (at 0 (omega arith), at 1 (omega arith), at 2 (omega arith), at 3 (omega arith), at 4 (omega arith), at 5 (omega arith)) refl

-- and has no signal
no_signal : (sapi : List ℕ) (mfas bip : ℕ) (payload : List ℕ) → is_signal (client_frame sapi mfas bip payload) ≡ false
no_signal sapi mfas bip payload = ap (λ n. nat_le 5 (n % 8)) (frame_at sapi mfas bip payload 7659 (omega arith))

-- its payload is what it carries
row_there : (sapi : List ℕ) (mfas bip : ℕ) (payload : List ℕ) (row : ℕ) → 1 ≤ row → row ≤ 4 → length payload ≡ 15232
    → payload_row_of 3824 row (client_frame sapi mfas bip payload) ≡ take 3808 (drop (3808 * (row - 1)) payload)
row_there sapi mfas bip payload row low high size =
    let frame = client_frame sapi mfas bip payload in
    let whole = client_frame-size sapi mfas bip payload in
    let a = length-drop (place_of 3824 row 17) frame in
    let b = length-drop (3808 * (row - 1)) payload in
    let left : length (take 3808 (drop (place_of 3824 row 17) frame)) ≡ 3808 = length-take-le 3808 (drop (place_of 3824 row 17) frame) (omega arith) in
    let right : length (take 3808 (drop (3808 * (row - 1)) payload)) ≡ 3808 = length-take-le 3808 (drop (3808 * (row - 1)) payload) (omega arith) in
    ext_get_or 0 (take 3808 (drop (place_of 3824 row 17) frame)) (take 3808 (drop (3808 * (row - 1)) payload)) (left ∙ sym right) (λ i less.
    let short : i < 3808 = omega arith in
    let place = place_of 3824 row 17 + i in
    let r : place / 3824 + 1 ≡ row = omega arith in
    let c : place % 3824 + 1 ≡ 17 + i = omega arith in
    let back : 17 + i - 17 ≡ i = omega arith in
    get_or-take 3808 (drop (place_of 3824 row 17) frame) i 0 short ∙ get_or-drop (place_of 3824 row 17) frame i 0
    ∙ frame_at sapi mfas bip payload place (omega arith)
    ∙ ap (λ x. client_byte sapi mfas bip payload x (place % 3824 + 1)) r ∙ ap (client_byte sapi mfas bip payload row) c
    ∙ client_payload sapi mfas bip payload row (17 + i) (omega arith) ∙ ap (λ k. get_or payload (3808 * (row - 1) + k) 0) back
    ∙ sym (get_or-take 3808 (drop (3808 * (row - 1)) payload) i 0 short ∙ get_or-drop (3808 * (row - 1)) payload i 0))

four_rows : (payload r1 r2 r3 r4 : List ℕ) → length payload ≡ 15232 → r1 ≡ take 3808 payload → r2 ≡ take 3808 (drop 3808 payload) → r3 ≡ take 3808 (drop 7616 payload) → r4 ≡ take 3808 (drop 11424 payload)
    → ((r1 ++ r2) ++ r3) ++ r4 ≡ payload
four_rows payload r1 r2 r3 r4 size e1 e2 e3 e4 =
    let a : take 7616 payload ≡ take 3808 payload ++ take 3808 (drop 3808 payload) = take-add 3808 3808 payload in
    let b : take 11424 payload ≡ take 7616 payload ++ take 3808 (drop 7616 payload) = take-add 7616 3808 payload in
    let c : take 15232 payload ≡ take 11424 payload ++ take 3808 (drop 11424 payload) = take-add 11424 3808 payload in
    let all : take 15232 payload ≡ payload = ap (λ n. take n payload) (sym size) ∙ take-length payload in
    ap (λ x. ((x ++ r2) ++ r3) ++ r4) e1 ∙ ap (λ x. ((take 3808 payload ++ x) ++ r3) ++ r4) e2 ∙ ap (λ x. (x ++ r3) ++ r4) (sym a)
    ∙ ap (λ x. (take 7616 payload ++ x) ++ r4) e3 ∙ ap (λ x. x ++ r4) (sym b) ∙ ap (λ x. take 11424 payload ++ x) e4 ∙ sym c ∙ all

payload_there : (sapi : List ℕ) (mfas bip : ℕ) (payload : List ℕ) → length payload ≡ 15232 → payload_of (client_frame sapi mfas bip payload) ≡ payload
payload_there sapi mfas bip payload size =
    let frame = client_frame sapi mfas bip payload in
    four_rows payload (payload_row_of 3824 1 frame) (payload_row_of 3824 2 frame) (payload_row_of 3824 3 frame) (payload_row_of 3824 4 frame) size
    (row_there sapi mfas bip payload 1 (omega arith) (omega arith) size) (row_there sapi mfas bip payload 2 (omega arith) (omega arith) size)
    (row_there sapi mfas bip payload 3 (omega arith) (omega arith) size) (row_there sapi mfas bip payload 4 (omega arith) (omega arith) size)

-- ---- frames one after another

record IsGood (frame : List ℕ) : Type 0 where
  size : length frame ≡ 15296
  fas : has_fas frame ≡ true
  plain : is_signal frame ≡ false

abbrev AllGood : List (List ℕ) → Type 0
AllGood [] = Unit {0}
AllGood (frame ∷ frames) = IsGood frame × AllGood frames

-- what a frame that is not whole may be: its first bytes
record IsPart (part : List ℕ) : Type 0 where
  short : length part < 15296
  fas : 6 ≤ length part → has_fas part ≡ true

handed : List (List ℕ) → List Arrival
handed [] = []
handed (frame ∷ frames) = Handed frame ∷ handed frames

no_misses : (bytes : List ℕ) → has_fas bytes ≡ true → misses_after 0 bytes ≡ 0
no_misses bytes e = ap (λ (b : Bool). if b then 0 else 0 + 1) e

one_arrives : (frame rest : List ℕ) (later : List Arrival) → IsGood frame → whole_frame (frame ++ rest) later ≡ Handed frame ∷ later
one_arrives frame rest later good =
    let long : 15296 ≤ length (frame ++ rest) = (let e = length-append frame rest in let s = good.size in omega arith) in
    let front : take 15296 (frame ++ rest) ≡ frame = take_at frame rest 15296 good.size in
    long_frame (frame ++ rest) later long ∙ ap (λ f. arrival_of f ∷ later) front ∙ ap (λ (b : Bool). (if b then Broken else Handed frame) ∷ later) good.plain

frames_follow : (frames : List (List ℕ)) (part : List ℕ) → AllGood frames → IsPart part → from_frame 0 (concat frames ++ part) ≡ handed frames
unfolding handed
frames_follow [] part good is = frame_none 0 part is.short (λ six. (let e = no_misses part (is.fas six) in omega arith))
frames_follow (frame ∷ frames) part good is =
    let bytes = frame ++ (concat frames ++ part) in
    let e : (frame ++ concat frames) ++ part ≡ bytes = append_assoc frame (concat frames) part in
    let six : 6 ≤ length bytes = (let a = length-append frame (concat frames ++ part) in let s = good.0.size in omega arith) in
    let fas : has_fas bytes ≡ true = has_fas-front frame (concat frames ++ part) (let s = good.0.size in omega arith) ∙ good.0.fas in
    let none = no_misses bytes fas in
    let back : drop 15296 bytes ≡ concat frames ++ part = drop_at frame (concat frames ++ part) 15296 good.0.size in
    ap (from_frame 0) e ∙ frame_meets 0 bytes six (omega arith) ∙ ap (λ m. whole_frame bytes (from_frame m (drop 15296 bytes))) none
    ∙ ap (λ l. whole_frame bytes (from_frame 0 l)) back ∙ one_arrives frame (concat frames ++ part) (from_frame 0 (concat frames ++ part)) good.0
    ∙ ap (λ a. Handed frame ∷ a) (frames_follow frames part good.1 is)

all_arrive : (frames : List (List ℕ)) (part : List ℕ) → AllGood frames → IsPart part → arrivals (concat frames ++ part) ≡ handed frames
unfolding handed arrivals
all_arrive [] part good is = elim (cases_lt (length part) 6) [
  | inl few ↦ short_none part few
  | inr six ↦
      search_step part ∙ ap (λ (b : Bool). if b then whole_frame part (from_frame 0 (drop 15296 part)) else from_search (drop 1 part)) (is.fas six)
      ∙ short_frame part (from_frame 0 (drop 15296 part)) is.short
]
all_arrive (frame ∷ frames) part good is =
    let bytes = frame ++ (concat frames ++ part) in
    let e : (frame ++ concat frames) ++ part ≡ bytes = append_assoc frame (concat frames) part in
    let fas : has_fas bytes ≡ true = has_fas-front frame (concat frames ++ part) (let s = good.0.size in omega arith) ∙ good.0.fas in
    let back : drop 15296 bytes ≡ concat frames ++ part = drop_at frame (concat frames ++ part) 15296 good.0.size in
    ap from_search e ∙ search_step bytes ∙ ap (λ (b : Bool). if b then whole_frame bytes (from_frame 0 (drop 15296 bytes)) else from_search (drop 1 bytes)) fas
    ∙ ap (λ l. whole_frame bytes (from_frame 0 l)) back ∙ one_arrives frame (concat frames ++ part) (from_frame 0 (concat frames ++ part)) good.0
    ∙ ap (λ a. Handed frame ∷ a) (frames_follow frames part good.1 is)

payloads : List (List ℕ) → List ℕ
payloads [] = []
payloads (frame ∷ frames) = payload_of frame ++ payloads frames

one_run : (frames : List (List ℕ)) → runs_of (handed frames) ≡ payloads frames ∷ []
unfolding handed runs_of payloads
one_run [] = refl
one_run (frame ∷ frames) = ap (with_payload (payload_of frame)) (one_run frames)

payloads-append : (xs : List (List ℕ)) (frame : List ℕ) → payloads (xs ++ frame ∷ []) ≡ payloads xs ++ payload_of frame
unfolding payloads
payloads-append [] frame = append-nil (payload_of frame)
payloads-append (x ∷ xs) frame = ap (λ p. payload_of x ++ p) (payloads-append xs frame) ∙ sym (append_assoc (payload_of x) (payloads xs) (payload_of frame))

good_more : (xs : List (List ℕ)) (frame : List ℕ) → AllGood xs → IsGood frame → AllGood (xs ++ frame ∷ [])
good_more [] frame good one = (one, tt)
good_more (x ∷ xs) frame good one = (good.0, good_more xs frame good.1 one)

is_good : (sapi : List ℕ) (mfas bip : ℕ) (payload : List ℕ) → IsGood (client_frame sapi mfas bip payload)
is_good sapi mfas bip payload = record { size = client_frame-size sapi mfas bip payload; fas = fas_there sapi mfas bip payload; plain = no_signal sapi mfas bip payload }

frames_good : (sapi : List ℕ) (n : ℕ) (emitted : List ℕ) → AllGood (client_frames sapi n emitted)
unfolding client_frames
frames_good sapi zero emitted = tt
frames_good sapi (suc n) emitted =
    let fs = client_frames sapi n emitted in
    good_more fs (next_frame sapi n fs emitted) (frames_good sapi n emitted) (is_good sapi (n % 256) (or_zero (parity_due 3824 fs)) (frame_payload n emitted))

frames_payload : (sapi : List ℕ) (n : ℕ) (emitted : List ℕ) → 15232 * n ≤ length emitted → payloads (client_frames sapi n emitted) ≡ take (15232 * n) emitted
unfolding client_frames payloads
frames_payload sapi zero emitted fits = refl
frames_payload sapi (suc n) emitted fits =
    let fs = client_frames sapi n emitted in
    let size : length (frame_payload n emitted) ≡ 15232 = length-take-le 15232 (drop (15232 * n) emitted) (let d = length-drop (15232 * n) emitted in omega arith) in
    let more : 15232 * (suc n) ≡ 15232 * n + 15232 = omega arith in
    payloads-append fs (next_frame sapi n fs emitted)
    ∙ ap (λ p. p ++ payload_of (next_frame sapi n fs emitted)) (frames_payload sapi n emitted (omega arith))
    ∙ ap (λ p. take (15232 * n) emitted ++ p) (payload_there sapi (n % 256) (or_zero (parity_due 3824 fs)) (frame_payload n emitted) size)
    ∙ sym (take-add (15232 * n) 15232 emitted) ∙ ap (λ k. take k emitted) (sym more)

-- ---- the stream

length-nothing : (n : ℕ) → length (take n (concat [])) ≡ 0
length-nothing zero = refl
length-nothing (suc n) = refl

record Front (few all : List (List ℕ)) : Type 0 where
  rest : List (List ℕ)
  parts : all ≡ few ++ rest

-- the first frames of more are those of fewer
fewer_frames : (sapi : List ℕ) (n more : ℕ) (emitted : List ℕ) → Front (client_frames sapi n emitted) (client_frames sapi (n + more) emitted)
unfolding client_frames
fewer_frames sapi n zero emitted = record { rest = []; parts = ap (λ m. client_frames sapi m emitted) (let e : n + 0 ≡ n = omega arith in e) ∙ sym (append-nil (client_frames sapi n emitted)) }
fewer_frames sapi n (suc more) emitted =
    let h = fewer_frames sapi n more emitted in
    let e : n + (suc more) ≡ suc (n + more) = omega arith in
    let frame = next_frame sapi (n + more) (client_frames sapi (n + more) emitted) emitted in
    record {
      rest = h.rest ++ frame ∷ [];
      parts = ap (λ m. client_frames sapi m emitted) e ∙ ap (λ fs. fs ++ frame ∷ []) h.parts ∙ append_assoc (client_frames sapi n emitted) h.rest (frame ∷ []);
    }

good_front : (xs ys : List (List ℕ)) → AllGood (xs ++ ys) → AllGood ys
good_front [] ys good = good
good_front (x ∷ xs) ys good = good_front xs ys good.1

-- the first bytes of frames, fewer than a frame has
part_of : (frames : List (List ℕ)) (n : ℕ) → n < 15296 → AllGood frames → IsPart (take n (concat frames))
part_of [] n less good = record { short = (let e = length-nothing n in omega arith); fas = λ six. absurd (let e = length-nothing n in omega arith) }
part_of (frame ∷ frames) n less good =
    let front : take n (frame ++ concat frames) ≡ take n frame = take-append-le n frame (concat frames) (let s = good.0.size in omega arith) in
    let size : length (take n frame) ≡ n = length-take-le n frame (let s = good.0.size in omega arith) in
    let same = ap length front in
    record {
      short = omega arith;
      fas = λ six. ap has_fas front ∙ sym (has_fas-front (take n frame) (drop n frame) (omega arith)) ∙ ap has_fas (take-append-drop n frame) ∙ good.0.fas;
    }

idles_total : (n : ℕ) → total (replicate n Idle) ≡ 4 * n
unfolding total
idles_total zero = refl
idles_total (suc n) = let h = idles_total n in (let e : 4 + 0 + total (replicate n Idle) ≡ 4 * (suc n) = omega arith in e)

text_long : (packets : List (List ℕ)) (fcs : Bool) (n : ℕ) → n ≤ length (text_of (stream_frames packets fcs n))
text_long packets fcs n =
    let a = length-more (first_frames packets fcs) (replicate n Idle) in
    let b = idles_total n in
    omega arith

text_size : (packets : List (List ℕ)) (fcs : Bool) (n : ℕ) → length (gfp_text packets fcs n) ≡ n
unfolding gfp_text
text_size packets fcs n = length-take-le n (text_of (stream_frames packets fcs n)) (text_long packets fcs n)

text_front : (packets : List (List ℕ)) (fcs : Bool) (a b : ℕ) → a ≤ b → take a (gfp_text packets fcs b) ≡ gfp_text packets fcs a
unfolding gfp_text
text_front packets fcs a b less =
    let frames = stream_frames packets fcs b in
    let t = text_of frames in
    let long = text_long packets fcs b in
    let size : length (take a t) ≡ a = length-take-le a t (omega arith) in
    let maker : MakerState = record { hand = drop a t; register = last_bits 0 (scrambled 0 (areas_of frames)) } in
    let made : HasMade frames (take a t) maker = record { text = take-append-drop a t; last = refl } in
    let n : b ≡ a + (b - a) = omega arith in
    ap (λ k. take a (take k t)) n ∙ ap (take a) (take-add a (b - a) t) ∙ take_at (take a t) (take (b - a) (drop a t)) a size
    ∙ given_is_stream packets fcs b (take a t) maker made ∙ ap (gfp_text packets fcs) size

-- of the first bytes of frames one run arrives: the payload of those that are whole
pub frames_arrive : (sapi : List ℕ) (m n : ℕ) (emitted : List ℕ) → n / 15296 ≤ m → 15232 * m ≤ length emitted
    → runs_of (arrivals (take n (concat (client_frames sapi m emitted)))) ≡ take (15232 * (n / 15296)) emitted ∷ []
frames_arrive sapi m n emitted within long =
    let k = n / 15296 in
    let r = n % 15296 in
    let more : m ≡ k + (m - k) = omega (arith, within) in
    let front = client_frames sapi k emitted in
    let split = fewer_frames sapi k (m - k) emitted in
    let all : client_frames sapi m emitted ≡ front ++ split.rest = ap (λ x. client_frames sapi x emitted) more ∙ split.parts in
    let n_is : n ≡ 15296 * k + r = omega arith in
    let front_size : length (concat front) ≡ 15296 * k = joined_size sapi k emitted in
    let bytes : take n (concat (client_frames sapi m emitted)) ≡ concat front ++ take r (concat split.rest) =
    ap (λ fs. take n (concat fs)) all ∙ ap (take n) (concat-append front split.rest) ∙ ap (λ x. take x (concat front ++ concat split.rest)) (n_is ∙ ap (λ x. x + r) (sym front_size))
    ∙ take-append-add (concat front) (concat split.rest) r in
    let good_all : AllGood (front ++ split.rest) = (let P : List (List ℕ) → Type 0 = AllGood in subst P all (frames_good sapi m emitted)) in
    let part = part_of split.rest r (omega arith) (good_front front split.rest good_all) in
    let arrived = all_arrive front (take r (concat split.rest)) (frames_good sapi k emitted) part in
    ap (λ b. runs_of (arrivals b)) bytes ∙ ap runs_of arrived ∙ one_run front ∙ ap (λ p. p ∷ []) (frames_payload sapi k emitted (omega (arith, long, more)))

pub whole_frames_arrive : PacketsArrive
unfolding client_stream arriving_packets
whole_frames_arrive = λ sapi packets fcs n can.
    let k = n / 15296 in
    let m = frames_begun n in
    let g = gfp_text packets fcs (15232 * m) in
    let size : length g ≡ 15232 * m = text_size packets fcs (15232 * m) in
    let payload : take (15232 * k) g ≡ gfp_text packets fcs (15232 * k) = text_front packets fcs (15232 * k) (15232 * m) (omega arith) in
    ap (flat_map delivered) (frames_arrive sapi m n g (omega arith) (omega (arith, size))) ∙ append-nil (delivered (take (15232 * k) g)) ∙ ap delivered payload ∙ stream_arrives packets fcs (15232 * k) can
