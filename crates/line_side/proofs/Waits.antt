-- The frames of an output line that wait, and those that leave.
use Rattle.std.proofs.Common.{◌≡◌, ◌≢◌, ◌/◌, ◌≤◌, ℕ, List, [], length, take, drop, refl, sym, ap, ◌∙◌, arith}
use Rattle.std.proofs.lemmas.List.{drop_all, length-take-le, take-append-drop}
use Rattle.port_base.specs.Given.{Gained}
use Rattle.port_base.specs.Views.{State, Empty, Live, Dead, OutView}
use Rattle.port_base.specs.Writes.{IsWriting, state_after_write}
use Rattle.port_base.specs.declared.drain.Written.{Written}
use Rattle.port_base.specs.declared.drain.Written.TheVariants as written
use Rattle.port_base.proofs.GivenLaws.{gained_none}
use Rattle.line_side.proofs.Giving.{dead_not_live}
use Rattle.line_side.specs.LineOutput.{counted_now}
use Rattle.line_side.specs.Steps.LineOutput.{Leaves}

-- ---- those that leave

part_counted : (was : OutView) (frames : List ℕ) (n : ℕ) → was.state ≡ Live → n ≤ length frames → n / 16320 ≡ counted_now was.state (take n frames)
part_counted was frames n live within = rw live (ap (λ k. k / 16320) (sym (length-take-le n frames within)))

live_leaves : (was is : OutView) (frames : List ℕ) (result : Written) (n : ℕ) → was.state ≡ Live → is.state ≡ state_after_write Live result → IsWriting result n (length frames) → Gained was (take n frames) is
    → Leaves was frames is (n / 16320)
live_leaves was is frames written.Whole n live state all gained = record {
  sent = record { written = take n frames; rest = drop n frames; parts = take-append-drop n frames; gained = gained; whole = λ _. drop_all n frames (omega (arith, all)) };
  counted = part_counted was frames n live (omega (arith, all));
}
live_leaves was is frames written.Lost n live state less gained = record {
  sent = record { written = take n frames; rest = drop n frames; parts = take-append-drop n frames; gained = gained; whole = λ l. absurd (dead_not_live (sym state ∙ l)) };
  counted = part_counted was frames n live (omega (arith, less));
}

dead_counts : (s : State) → s ≡ Dead → 0 ≡ counted_now s []
dead_counts s e = rw e refl

-- a place that is neither empty nor live takes nothing
dead_leaves : (was is : OutView) (frames : List ℕ) (n : ℕ) → was.state ≡ Dead → is ≡ was → n ≡ 0 → Leaves was frames is (n / 16320)
dead_leaves was is frames n dead same none = rw (same, none) (record {
  sent = record { written = []; rest = frames; parts = refl; gained = gained_none was; whole = λ l. absurd (dead_not_live (sym dead ∙ l)) };
  counted = dead_counts was.state dead;
})

-- what a write of frames says of a place that is not empty
pub leaves_by : (was is : OutView) (frames : List ℕ) (result : Written) (n : ℕ) → was.state ≢ Empty → is.state ≡ state_after_write was.state result → (was.state ≡ Live → IsWriting result n (length frames))
    → (was.state ≢ Live → (is ≡ was) × (n ≡ 0)) → Gained was (take n frames) is → Leaves was frames is (n / 16320)
leaves_by was is frames result n some state writing idle gained = by_state was.state refl
  where
    by_state : (s : State) → was.state ≡ s → Leaves was frames is (n / 16320)
    by_state Empty e = absurd (some e)
    by_state Live e = live_leaves was is frames result n e (state ∙ ap (λ s. state_after_write s result) e) (writing e) gained
    by_state Dead e = (let i = idle (λ l. dead_not_live (sym e ∙ l)) in dead_leaves was is frames n e i.0 i.1)
