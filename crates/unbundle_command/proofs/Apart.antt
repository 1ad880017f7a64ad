-- What arrives on the channels of a line hangs on slot 1 alone.
use Rattle.std.proofs.Common.{◌≡◌, ◌<◌, ◌≤◌, ◌+◌, ℕ, zero, suc, List, [], ◌∷◌, ◌++◌, refl, sym, ap, ◌∙◌, arith}
use Rattle.std.specs.Prelude.{slice_index}
use Rattle.otn_base.specs.SlotList.{IsSlotList}
use Rattle.tributary_model.specs.Laws.{IsTributary}
use Rattle.tributary_model.proofs.OnLine.{is_tributary}
use Rattle.otn_base.specs.declared.line_kind.LineKind.TheVariants.{Otu2}
use Rattle.device_model.specs.Agreements.{AgreeOnTributary}
use Rattle.device_model.specs.LineViews.{emitted_at}
use Rattle.device_model.proofs.LineViews.{same_emitted}
use Rattle.unbundle_command.specs.Unbundled.{first_slot, emitted_before, client_arrivals}
use Rattle.unbundle_command.specs.Laws.{IsApart}
use Rattle.unbundle_command.proofs.Turns.{emitted_more}

low_slot : (i : ℕ) → i < 1 → 1 ≤ slice_index (1 ∷ []) i
low_slot zero h = omega arith
low_slot (suc i) h = absurd (omega (arith, h))

high_slot : (i : ℕ) → i < 1 → slice_index (1 ∷ []) i ≤ 8
high_slot zero h = omega arith
high_slot (suc i) h = absurd (omega (arith, h))

one_slot : IsSlotList 8 (1 ∷ [])
one_slot = record { taken = omega arith; low = low_slot; high = high_slot; rising = λ i next. absurd (omega (arith, next)) }

pub first_is : IsTributary first_slot
first_is = is_tributary (record { kind = Otu2; list = 1 ∷ [] }) 1 one_slot

emitted_apart : (line other : List ℕ) (t : ℕ) → AgreeOnTributary first_slot line other → emitted_before line t ≡ emitted_before other t
emitted_apart line other zero agree = refl
emitted_apart line other (suc t) agree =
    emitted_more line t ∙ ap (λ xs. xs ++ emitted_at first_slot line t) (emitted_apart line other t agree)
    ∙ ap (λ xs. emitted_before other t ++ xs) (same_emitted first_slot line other t first_is agree) ∙ sym (emitted_more other t)

pub arrived_apart : IsApart
arrived_apart line other turns agree = ap client_arrivals (emitted_apart line other turns agree)
