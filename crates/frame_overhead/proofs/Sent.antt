-- One frame more.
use Rattle.std.proofs.Common.{◌≡◌, ℕ, ◌+◌, ◌-◌, ◌^◌, List, [], ◌∷◌, ◌++◌, refl, ap, sym, ◌∙◌, arith}
use Rattle.std.specs.Prelude.{min, reverse, Some, option_map, slice_index}
use Rattle.frame_overhead.specs.Parity.{parity_of}
use Rattle.std.proofs.lemmas.List.{reverse-append}
use Rattle.frame_geometry.specs.Places.{place_of}
use Rattle.frame_overhead.specs.TwoBefore.{first, second, parity_due, wrong_one, wrong_back, wrong_parities, Kept, HasSent, Checked, HasChecked}
use Rattle.otn_base.specs.Counts.{saturated}

-- none of no frames
pub none_wrong : (cols row col : ℕ) → wrong_parities cols row col [] ≡ 0
unfolding wrong_back
none_wrong cols row col = refl

wrong_more : (cols row col : ℕ) (frames : List (List ℕ)) (frame : List ℕ)
    → wrong_parities cols row col (frames ++ frame ∷ []) ≡ wrong_one (parity_due cols frames) (slice_index frame (place_of cols row col)) + wrong_parities cols row col frames
unfolding wrong_back
wrong_more cols row col frames frame = ap (wrong_back cols row col) (reverse-append frames (frame ∷ []))

-- a count that stops, and more
pub stopped_more : (a b : ℕ) → min (min a (2 ^ 64 - 1) + b) (2 ^ 64 - 1) ≡ min (b + a) (2 ^ 64 - 1)
stopped_more a b = omega arith

pub checked_more : (cols row col carried wrong : ℕ) (frames : List (List ℕ)) (frame : List ℕ) (old : Checked) (kept : Kept)
    → HasChecked cols row col frames old → HasSent cols (frames ++ frame ∷ []) kept
    → carried ≡ slice_index frame (place_of cols row col) → wrong ≡ saturated (old.wrong + wrong_one (parity_due cols frames) carried)
    → HasChecked cols row col (frames ++ frame ∷ []) (record { kept = kept; wrong = wrong })
checked_more cols row col carried wrong frames frame old kept has sent byte is = record {
  kept = sent;
  wrong = is ∙ ap (λ w. saturated (w + wrong_one (parity_due cols frames) carried)) has.wrong
      ∙ stopped_more (wrong_parities cols row col frames) (wrong_one (parity_due cols frames) carried)
      ∙ ap (λ b. saturated (wrong_one (parity_due cols frames) b + wrong_parities cols row col frames)) byte
      ∙ sym (ap saturated (wrong_more cols row col frames frame));
}

same_before : (cols : ℕ) (a b : List ℕ) (back : List (List ℕ)) → option_map (parity_of cols) (second (a ∷ back)) ≡ option_map (parity_of cols) (second (b ∷ back))
same_before cols a b [] = refl
same_before cols a b (last ∷ back) = refl

-- what is kept of the last frame is its parity
pub sent_as : (cols : ℕ) (frames : List (List ℕ)) (a b : List ℕ) (kept : Kept) → parity_of cols a ≡ parity_of cols b → HasSent cols (frames ++ a ∷ []) kept
    → HasSent cols (frames ++ b ∷ []) kept
sent_as cols frames a b kept same sent =
    let is : reverse (frames ++ a ∷ []) ≡ a ∷ reverse frames = reverse-append frames (a ∷ []) in
    let to : reverse (frames ++ b ∷ []) ≡ b ∷ reverse frames = reverse-append frames (b ∷ []) in record {
      last = sent.last ∙ ap (λ back. option_map (parity_of cols) (first back)) is ∙ ap Some same ∙ sym (ap (λ back. option_map (parity_of cols) (first back)) to);
      before = sent.before ∙ ap (λ back. option_map (parity_of cols) (second back)) is ∙ same_before cols a b (reverse frames)
          ∙ sym (ap (λ back. option_map (parity_of cols) (second back)) to);
    }
