-- One frame more was taken.
use Rattle.std.proofs.Common.{◌≡◌, ℕ, ◌+◌, List, [], ◌∷◌, ◌++◌, refl, ap, sym, ◌∙◌, arith}
use Rattle.frame_overhead.specs.TwoBefore.{Checked, HasChecked}
use Rattle.otn_base.specs.Counts.{saturated}
use Rattle.frame_overhead.proofs.Sent.{stopped_more}
use Rattle.otu_overhead.specs.Section.{fas_wrong, wrong_fas, Taken, HasTaken}

-- no frame has a wrong FAS among none
pub none_wrong : wrong_fas [] ≡ 0
unfolding wrong_fas
none_wrong = refl

more_wrong : (frames : List (List ℕ)) (frame : List ℕ) → wrong_fas (frames ++ frame ∷ []) ≡ fas_wrong frame + wrong_fas frames
unfolding wrong_fas
more_wrong [] frame = refl
more_wrong (first ∷ frames) frame = let h = more_wrong frames frame in omega (arith, h)

pub taken_more : (frames : List (List ℕ)) (frame : List ℕ) (old : Taken) (fas : ℕ) (sm : Checked) → HasTaken frames old
    → fas ≡ saturated (old.fas + fas_wrong frame) → HasChecked 4080 1 9 (frames ++ frame ∷ []) sm
    → HasTaken (frames ++ frame ∷ []) (record { fas = fas; sm = sm })
taken_more frames frame old fas sm has is checked = record {
  fas = is ∙ ap (λ n. saturated (n + fas_wrong frame)) has.fas ∙ stopped_more (wrong_fas frames) (fas_wrong frame) ∙ sym (ap saturated (more_wrong frames frame));
  sm = checked;
}
