-- Bytes outside a tributary's own places change nothing.
use Rattle.std.proofs.Common.{◌≡◌, ◌∙◌, ℕ, List, [], ◌∷◌, ◌++◌, refl, ap}
use Rattle.std.specs.List.{flat_map}
use Rattle.otn_base.specs.SlotList.{IsSlotList}
use Rattle.line_side.specs.LineFile.{mfas_of}
use Rattle.tributary_model.specs.Laws.{IsTributary}
use Rattle.tributary_model.specs.Places.{Tributary}
use Rattle.device_model.proofs.LineViews.{same_emitted}
use Rattle.device_model.specs.Agreements.{AgreeOnTributary}
use Rattle.device_model.specs.LineViews.{emitted_at}
use Rattle.line_commands.specs.PullReport.{tributary, pull_report}
use Rattle.tributary_line.specs.TurnsDone.{turns_of}

-- eight slots share the payload columns evenly
pub is_tributary : (port : ℕ) (slots : List ℕ) → IsSlotList 8 slots → IsTributary (tributary port slots)
is_tributary port slots h = record { slots = h; even = refl }

-- what is made of each number, one after another, is the same where it is the same at each number
pub same_flat : (f g : ℕ → List ℕ) (xs : List ℕ) → ((x : ℕ) → f x ≡ g x) → flat_map f xs ≡ flat_map g xs
same_flat f g [] same = refl
same_flat f g (x ∷ xs) same = ap (λ ys. ys ++ flat_map f xs) (same x) ∙ ap (λ ys. g x ++ ys) (same_flat f g xs same)

-- and all that is written is the same
same_written : (own : Tributary) (one other : List ℕ) → IsTributary own → AgreeOnTributary own one other → pull_report own one ≡ pull_report own other
unfolding pull_report
same_written own one other is agree =
    same_flat (emitted_at own one) (emitted_at own other) (turns_of 8 (mfas_of one)) (λ t. same_emitted own one other t is agree)
    ∙ ap (λ ms. flat_map (emitted_at own other) (turns_of 8 ms)) agree.mfas

-- lines that agree on a tributary give one report
pub same_pull : (port : ℕ) (slots one other : List ℕ) → IsSlotList 8 slots → AgreeOnTributary (tributary port slots) one other
    → pull_report (tributary port slots) one ≡ pull_report (tributary port slots) other
same_pull port slots one other list agree = same_written (tributary port slots) one other (is_tributary port slots list) agree
