-- The text of a client's packets, as far as it was made.
use Rattle.std.proofs.Common.{◌≡◌, ◌<◌, ◌≤◌, ◌+◌, ◌-◌, ℕ, suc, Bool, true, false, nat_lt, if◌then◌else◌, List, [], ◌∷◌, ◌++◌, length, take, arith, refl, sym, ap, ◌∙◌, append_assoc, append-nil, length-append}
use Rattle.std.specs.Prelude.{map, replicate}
use Rattle.std.proofs.lemmas.List.{take-append-le}
use Rattle.std.proofs.lemmas.Bool.Decides.{nat_tests}
use Rattle.gfp_scrambler.specs.Register.{last_bits, scrambled}
use Rattle.gfp_frames.specs.CoreHeader.{core_header}
use Rattle.gfp_frames.specs.GfpText.{Frame, Idle, Client, area_of, areas_of, laid_out, text_of, stream_frames, gfp_text}
use Rattle.gfp_frames.specs.Within.{frame_size, packets_of as packet_in}
use Rattle.gfp_frames.proofs.Texts.{text-push, header_size, length-scrambled}
use Rattle.odu_client.specs.ClientInput.{gfp_length, begun_within}

-- the frames of packets, and the idle frame before them
abbrev pub clients : (packets : List (List ℕ)) → (fcs : Bool) → List Frame
clients packets fcs = map (λ packet. Client packet fcs) packets

abbrev pub first_frames : (packets : List (List ℕ)) → (fcs : Bool) → List Frame
first_frames packets fcs = Idle ∷ clients packets fcs

pub no_idles : (packets : List (List ℕ)) (fcs : Bool) → stream_frames packets fcs 0 ≡ first_frames packets fcs
no_idles packets fcs = ap (λ fs. Idle ∷ fs) (append-nil (clients packets fcs))

pub clients-append : (xs ys : List (List ℕ)) (fcs : Bool) → clients (xs ++ ys) fcs ≡ clients xs fcs ++ clients ys fcs
clients-append [] ys fcs = refl
clients-append (x ∷ xs) ys fcs = ap (λ fs. Client x fcs ∷ fs) (clients-append xs ys fcs)

-- the sum of the frames' sizes
unfoldable pub total : List Frame → ℕ
total [] = 0
total (frame ∷ frames) = frame_size frame + total frames

pub record Behind (front whole : List ℕ) : Type 0 where
  pub rest : List ℕ
  pub parts : whole ≡ front ++ rest

-- text goes on where frames do
pub text-more : (xs ys : List Frame) → Behind (text_of xs) (text_of (xs ++ ys))
text-more xs [] = record { rest = []; parts = ap text_of (append-nil xs) ∙ sym (append-nil (text_of xs)) }
text-more xs (y ∷ ys) =
    let h = text-more (xs ++ y ∷ []) ys in
    let next = core_header (length (area_of y)) ++ scrambled (last_bits 0 (scrambled 0 (areas_of xs))) (area_of y) in
    record {
      rest = next ++ h.rest;
      parts = ap text_of (sym (append_assoc xs (y ∷ []) ys)) ∙ h.parts ∙ ap (λ t. t ++ h.rest) (text-push xs y) ∙ append_assoc (text_of xs) next h.rest;
    }

-- its length is the sum of the frames' sizes
pub length-more : (xs ys : List Frame) → length (text_of (xs ++ ys)) ≡ length (text_of xs) + total ys
unfolding total
length-more xs [] = ap (λ fs. length (text_of fs)) (append-nil xs) ∙ (let n = length (text_of xs) in let e : n ≡ n + 0 = omega arith in e)
length-more xs (y ∷ ys) =
    let h = length-more (xs ++ y ∷ []) ys in
    let r = last_bits 0 (scrambled 0 (areas_of xs)) in
    let header = core_header (length (area_of y)) in
    let push : length (text_of (xs ++ y ∷ [])) ≡ length (text_of xs) + frame_size y =
    ap length (text-push xs y) ∙ length-append (text_of xs) (header ++ scrambled r (area_of y))
    ∙ ap (λ n. length (text_of xs) + n) (length-append header (scrambled r (area_of y)) ∙ (let a = header_size (length (area_of y)) in let b = length-scrambled r (area_of y) in let e : length header + length (scrambled r (area_of y)) ≡ 4 + length (area_of y) = omega arith in e)) in
    ap (λ fs. length (text_of fs)) (sym (append_assoc xs (y ∷ []) ys)) ∙ h ∙ ap (λ n. n + total ys) push ∙ (let e : length (text_of xs) + frame_size y + total ys ≡ length (text_of xs) + (frame_size y + total ys) = omega arith in e)

pub length-text : (frames : List Frame) → length (text_of frames) ≡ total frames
unfolding text_of laid_out
length-text frames = length-more [] frames ∙ (let e : 0 + total frames ≡ total frames = omega arith in e)

pub gfp_length-is : (packets : List (List ℕ)) (fcs : Bool) → gfp_length packets fcs ≡ total (first_frames packets fcs)
unfolding gfp_length
gfp_length-is packets fcs = ap (λ fs. length (text_of fs)) (no_idles packets fcs) ∙ length-text (first_frames packets fcs)

-- how many packets these frames carry
carried : List Frame → ℕ
carried [] = 0
carried (frame ∷ frames) = length (packet_in frame) + carried frames

carried-clients : (packets : List (List ℕ)) (fcs : Bool) → carried (clients packets fcs) ≡ length packets
unfolding carried
carried-clients [] fcs = refl
carried-clients (x ∷ xs) fcs = let h = carried-clients xs fcs in (let e : 1 + carried (clients xs fcs) ≡ suc (length xs) = omega arith in e)

some_test : (n : ℕ) → 0 < n → nat_lt 0 n ≡ true
some_test n h = grind (arith, nat_tests)

none_test : (n : ℕ) → n ≤ 0 → nat_lt 0 n ≡ false
none_test n h = grind (arith, nat_tests)

size_some : (frame : Frame) → 4 ≤ frame_size frame
size_some frame = omega arith

-- all frames up to one that has its first byte among these
begun_all : (xs : List Frame) (last : Frame) (n : ℕ) → total xs < n → begun_within n (xs ++ last ∷ []) ≡ carried (xs ++ last ∷ [])
unfolding begun_within carried total
begun_all [] last n h = ap (λ (b : Bool). if b then length (packet_in last) + 0 else 0) (some_test n (omega arith))
begun_all (x ∷ xs) last n h =
    let less : frame_size x + total xs < n = h in
    ap (λ (b : Bool). if b then length (packet_in x) + begun_within (n - frame_size x) (xs ++ last ∷ []) else 0) (some_test n (omega arith))
    ∙ ap (λ k. length (packet_in x) + k) (begun_all xs last (n - frame_size x) (omega arith))

begun_none : (ys : List Frame) (n : ℕ) → n ≤ 0 → begun_within n ys ≡ 0
unfolding begun_within
begun_none [] n h = refl
begun_none (y ∷ ys) n h = ap (λ (b : Bool). if b then length (packet_in y) + begun_within (n - frame_size y) ys else 0) (none_test n h)

-- no frame behind these
begun_cut : (xs ys : List Frame) (n : ℕ) → n ≤ total xs → begun_within n (xs ++ ys) ≡ begun_within n xs
unfolding begun_within total
begun_cut [] ys n h = begun_none ys n h
begun_cut (x ∷ xs) ys n h =
    let less : n ≤ frame_size x + total xs = h in
    ap (λ k. if nat_lt 0 n then length (packet_in x) + k else 0) (begun_cut xs ys (n - frame_size x) (omega arith))

data Last (xs : List (List ℕ)) : Type 0 where
  nothing : xs ≡ [] → Last xs
  one_more : (before : List (List ℕ)) (last : List ℕ) → xs ≡ before ++ last ∷ [] → Last xs

last_of : (xs : List (List ℕ)) → Last xs
last_of [] = nothing refl
last_of (x ∷ xs) = with_first x xs (last_of xs)
  where
    with_first : (x : List ℕ) (xs : List (List ℕ)) → Last xs → Last (x ∷ xs)
    with_first x xs (nothing e) = one_more [] x (ap (λ ys. x ∷ ys) e)
    with_first x xs (one_more before last e) = one_more (x ∷ before) last (ap (λ ys. x ∷ ys) e)

begun_first : (n : ℕ) → begun_within n (first_frames [] true) ≡ 0
unfolding begun_within
begun_first n = by_test (nat_lt 0 n)
  where
    by_test : (b : Bool) → (if b then 0 + 0 else 0) ≡ 0
    by_test true = refl
    by_test false = refl

carried-first : (ps : List (List ℕ)) (fcs : Bool) → carried (first_frames ps fcs) ≡ length ps
unfolding carried
carried-first ps fcs = (let e : 0 + carried (clients ps fcs) ≡ carried (clients ps fcs) = omega arith in e) ∙ carried-clients ps fcs

-- the packets whose frames' first bytes are all among the first n bytes of the text
pub all_begun : (packets : List (List ℕ)) (fcs : Bool) (n : ℕ) → ((before : List (List ℕ)) (last : List ℕ) → packets ≡ before ++ last ∷ [] → gfp_length before fcs < n)
    → begun_within n (first_frames packets fcs) ≡ length packets
all_begun packets fcs n h = by_last (last_of packets)
  where
    by_last : Last packets → begun_within n (first_frames packets fcs) ≡ length packets
    by_last (nothing e) = ap (λ ps. begun_within n (first_frames ps fcs)) e ∙ begun_first n ∙ sym (ap length e)
    by_last (one_more before last e) =
        let all : first_frames packets fcs ≡ first_frames before fcs ++ Client last fcs ∷ [] = ap (λ ps. first_frames ps fcs) e ∙ ap (λ fs. Idle ∷ fs) (clients-append before (last ∷ []) fcs) in
        let less : total (first_frames before fcs) < n = (let a = h before last e in let b = gfp_length-is before fcs in omega arith) in
        ap (begun_within n) all ∙ begun_all (first_frames before fcs) (Client last fcs) n less ∙ ap carried (sym all) ∙ carried-first packets fcs

-- the same where more packets follow, which these bytes do not reach
pub all_begun_of : (packets later : List (List ℕ)) (fcs : Bool) (n : ℕ) → n ≤ gfp_length packets fcs → begun_within n (stream_frames (packets ++ later) fcs 0) ≡ begun_within n (first_frames packets fcs)
all_begun_of packets later fcs n h =
    ap (begun_within n) (no_idles (packets ++ later) fcs ∙ ap (λ fs. Idle ∷ fs) (clients-append packets later fcs))
    ∙ begun_cut (first_frames packets fcs) (clients later fcs) n (let b = gfp_length-is packets fcs in omega arith)

-- the text of more packets is no shorter
pub longer : (packets later : List (List ℕ)) (fcs : Bool) → gfp_length packets fcs ≤ gfp_length (packets ++ later) fcs
longer packets later fcs =
    let a = gfp_length-is packets fcs in
    let b = gfp_length-is (packets ++ later) fcs in
    let more = length-more (first_frames packets fcs) (clients later fcs) in
    let all : first_frames (packets ++ later) fcs ≡ first_frames packets fcs ++ clients later fcs = ap (λ fs. Idle ∷ fs) (clients-append packets later fcs) in
    let c : total (first_frames (packets ++ later) fcs) ≡ length (text_of (first_frames packets fcs ++ clients later fcs)) = sym (length-text (first_frames (packets ++ later) fcs)) ∙ ap (λ fs. length (text_of fs)) all in
    let d = length-text (first_frames packets fcs) in
    omega arith

-- as far as the packets' frames reach, the stream does not depend on what follows
pub text_of_more : (packets later : List (List ℕ)) (fcs : Bool) (n : ℕ) → n ≤ gfp_length packets fcs → gfp_text (packets ++ later) fcs n ≡ take n (text_of (first_frames packets fcs))
unfolding gfp_text
text_of_more packets later fcs n h =
    let front = first_frames packets fcs in
    let tail = clients later fcs ++ replicate n Idle in
    let all : stream_frames (packets ++ later) fcs n ≡ front ++ tail = ap (λ fs. Idle ∷ fs) (ap (λ fs. fs ++ replicate n Idle) (clients-append packets later fcs) ∙ append_assoc (clients packets fcs) (clients later fcs) (replicate n Idle)) in
    let more = text-more front tail in
    let within : n ≤ length (text_of front) = (let a = gfp_length-is packets fcs in let b = length-text front in omega arith) in
    ap (λ fs. take n (text_of fs)) all ∙ ap (take n) more.parts ∙ take-append-le n (text_of front) more.rest within
