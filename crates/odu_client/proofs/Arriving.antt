-- What arrives, without a count of places.
use Rattle.std.proofs.Common.{◌≡◌, ◌<◌, ◌≤◌, ℕ, zero, suc, false, if◌then◌else◌, List, [], ◌∷◌, length, drop, arith, refl, sym, ap, ◌∙◌, length-drop}
use Rattle.odu_client.specs.AlignedRuns.{has_fas, misses_after, whole_frame, next_frame, searching, framing}
use Rattle.odu_client.specs.Aligner.{from_search, from_frame}

nothing_found : has_fas [] ≡ false
unfolding has_fas
nothing_found = refl

search_nothing : (places : ℕ) → searching places [] ≡ []
unfolding searching
search_nothing zero = refl
search_nothing (suc places) = rw nothing_found (search_nothing places)

frame_nothing : (places misses : ℕ) → framing places misses [] ≡ []
unfolding searching
frame_nothing zero misses = refl
frame_nothing (suc places) misses = refl

record Same (f g : ℕ) (bytes : List ℕ) : Type 0 where
  search : searching f bytes ≡ searching g bytes
  frame : (misses : ℕ) → framing f misses bytes ≡ framing g misses bytes

same_nothing : (f g : ℕ) → Same f g []
same_nothing f g = record {
  search = search_nothing f ∙ sym (search_nothing g);
  frame = λ misses. frame_nothing f misses ∙ sym (frame_nothing g misses);
}

shorter : (n f : ℕ) (bytes : List ℕ) → length bytes ≤ suc f → 0 < n → length (drop n bytes) ≤ f
shorter n f bytes h some = let e = length-drop n bytes in omega arith

enough : (f g : ℕ) (bytes : List ℕ) → length bytes ≤ f → length bytes ≤ g → Same f g bytes
unfolding searching
enough zero g [] hf hg = same_nothing zero g
enough zero g (x ∷ bytes) hf hg = absurd (omega arith)
enough (suc f) zero [] hf hg = same_nothing (suc f) zero
enough (suc f) zero (x ∷ bytes) hf hg = absurd (omega arith)
enough (suc f) (suc g) bytes hf hg =
    let frame = enough f g (drop 15296 bytes) (shorter 15296 f bytes hf (omega arith)) (shorter 15296 g bytes hg (omega arith)) in
    let six = enough f g (drop 6 bytes) (shorter 6 f bytes hf (omega arith)) (shorter 6 g bytes hg (omega arith)) in
    let one = enough f g (drop 1 bytes) (shorter 1 f bytes hf (omega arith)) (shorter 1 g bytes hg (omega arith)) in
    record {
      search = ap (λ later. if has_fas bytes then whole_frame bytes later else searching f (drop 1 bytes)) (frame.frame 0) ∙ ap (λ later. if has_fas bytes then whole_frame bytes (framing g 0 (drop 15296 bytes)) else later) one.search;
      frame = λ misses. ap (λ later. next_frame misses bytes (whole_frame bytes later) (searching f (drop 6 bytes))) (frame.frame (misses_after misses bytes)) ∙ ap (λ later. next_frame misses bytes (whole_frame bytes (framing g (misses_after misses bytes) (drop 15296 bytes))) later) six.search;
    }

pub search_enough : (f : ℕ) (bytes : List ℕ) → length bytes ≤ f → searching f bytes ≡ from_search bytes
search_enough f bytes h = (enough f (length bytes) bytes h (omega arith)).search

frame_enough : (f misses : ℕ) (bytes : List ℕ) → length bytes ≤ f → framing f misses bytes ≡ from_frame misses bytes
frame_enough f misses bytes h = (enough f (length bytes) bytes h (omega arith)).frame misses

-- a search at the front of a list
pub search_step : (bytes : List ℕ) → from_search bytes ≡ (if has_fas bytes then whole_frame bytes (from_frame 0 (drop 15296 bytes)) else from_search (drop 1 bytes))
unfolding searching
search_step [] = rw nothing_found refl
search_step (x ∷ xs) =
    let frame = frame_enough (length xs) 0 (drop 15296 (x ∷ xs)) (shorter 15296 (length xs) (x ∷ xs) (omega arith) (omega arith)) in
    ap (λ later. if has_fas (x ∷ xs) then whole_frame (x ∷ xs) later else searching (length xs) xs) frame

-- a frame at the front of a list
pub frame_step : (misses : ℕ) (bytes : List ℕ) → from_frame misses bytes ≡ next_frame misses bytes (whole_frame bytes (from_frame (misses_after misses bytes) (drop 15296 bytes))) (from_search (drop 6 bytes))
unfolding searching
frame_step misses [] = refl
frame_step misses (x ∷ xs) =
    let bytes = x ∷ xs in
    let count = misses_after misses bytes in
    let frame = frame_enough (length xs) count (drop 15296 bytes) (shorter 15296 (length xs) bytes (omega arith) (omega arith)) in
    let six = search_enough (length xs) (drop 6 bytes) (shorter 6 (length xs) bytes (omega arith) (omega arith)) in
    ap (λ later. next_frame misses bytes (whole_frame bytes later) (searching (length xs) (drop 6 bytes))) frame ∙ ap (λ later. next_frame misses bytes (whole_frame bytes (from_frame count (drop 15296 bytes))) later) six
