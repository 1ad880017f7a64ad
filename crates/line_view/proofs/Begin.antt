-- A view before its line's first turn.
use Rattle.std.proofs.Common.{◌≡◌, ◌<◌, ◌∙◌, ℕ, zero, suc, List, [], ◌∷◌, Some, length, slice_get, refl, sym, ap, subst, arith}
use Rattle.std.specs.Prelude.{map}
use Rattle.std.specs.List.{flat_map}
use Rattle.std.proofs.lemmas.Option.{slice_get_within}
use Rattle.port_base.specs.Views.{InView}
use Rattle.line_side.specs.LineForm.{LineForm, size_of}
use Rattle.line_side.specs.LineStands.{LineView, LineStands, frames_taken}
use Rattle.tributary_model.specs.Places.{msi_in}
use Rattle.trib_sink.specs.Sink.{StandsAfter}
use Rattle.device_model.proofs.TurnFrames.{frames_none}
use Rattle.device_model.specs.TurnFrames.{frames_in}
use Rattle.line_view.specs.ViewText.{all_slots, views_from}
use Rattle.line_view.specs.Steps.Viewing.{ViewStands, frames_by, taken_by}
use Rattle.line_view.specs.Watching.{IsOnLine, asked_of}
use Rattle.line_view.specs.Steps.Watching.{AreNew, IsNew, begun, own_of, showing_of}
use Rattle.line_view.specs.declared.shown.Shown.{Shown}
use Rattle.line_view.specs.declared.watched.Watched.{Watched}
use Rattle.line_view.proofs.Begun.{none_by, views_waits, zero_by}

there : {A : Type 0} (xs : List A) (i : ℕ) → i < length xs → (x : A) × (slice_get xs i ≡ Some x)
there [] i less = absurd (omega (arith, less))
there (x ∷ xs) zero less = (x, refl)
there (x ∷ xs) (suc i) less = there xs i (omega (arith, less))

asked_there : (shown : List Shown) (watched : List Watched) → AreNew shown watched → (i : ℕ) (one : Watched) → slice_get watched i ≡ Some one
    → (asked : Shown) × ((slice_get shown i ≡ Some asked) × IsNew asked one)
asked_there shown watched h i one at =
    let within = slice_get_within watched i one at in
    let count = h.count in
    let k = there shown i (omega (arith, within, count)) in
    (k.0, (k.1, h.each i one at k.0 k.1))

-- the tributaries are those asked for
pub new_shows : (shown : List Shown) (watched : List Watched) → AreNew shown watched → map showing_of watched ≡ map asked_of shown
new_shows shown watched h = go shown watched h.count h.each
  where
    go : (shown : List Shown) (watched : List Watched) → length watched ≡ length shown
        → ((i : ℕ) (one : Watched) → slice_get watched i ≡ Some one → (asked : Shown) → slice_get shown i ≡ Some asked → IsNew asked one) → map showing_of watched ≡ map asked_of shown
    go [] [] count each = refl
    go [] (one ∷ watched) count each = absurd (omega (arith, count))
    go (asked ∷ shown) [] count each = absurd (omega (arith, count))
    go (asked ∷ shown) (one ∷ watched) count each =
        ap (λ o. o ∷ map showing_of watched) (each 0 one refl asked refl).showing
        ∙ ap (λ os. asked_of asked ∷ os) (go shown watched (omega (arith, count)) (λ i a at b at_b. each (suc i) a at b at_b))

-- before the first turn
pub view_begins : (form : LineForm) (line : LineView) (shown : List Shown) (watched : List Watched) → line.pieces ≡ 0 → frames_taken line ≡ 0 → line.kind ≡ form.kind
    → ((first : InView) → LineStands form first first [] 0 line) → AreNew shown watched → ((i : ℕ) (asked : Shown) → slice_get shown i ≡ Some asked → IsOnLine form.kind asked)
    → (first : InView) → ViewStands form first first [] 0 line watched []
view_begins form line shown watched pieces untaken kind stands new on first = record {
  line_is = stands first;
  step = λ i one at.
      let k = asked_there shown watched new i one at in
      let n = k.1.1 in
      record {
        kind = n.kind ∙ (on i k.0 k.1.0).kind_is ∙ sym kind;
        taken = n.taken ∙ sym (ap (taken_by (begun one 0)) untaken ∙ zero_by (begun one 0));
        port = n.port;
      };
  sinks = λ available may i one at.
      let k = asked_there shown watched new i one at in
      let n = k.1.1 in
      let frames : frames_in (size_of form) available 0 line.pieces ≡ [] = ap (frames_in (size_of form) available 0) pieces ∙ frames_none (size_of form) available 0 in
      subst (λ fs. StandsAfter (own_of one) (views_from (own_of one) one.first available 0) fs one.sink) (sym (ap (frames_by (begun one 0)) frames ∙ none_by (begun one 0)))
      (subst (λ vs. StandsAfter (own_of one) vs [] one.sink) (sym (views_waits (own_of one) one.first available 0 (omega arith))) n.stands);
  msi_is = λ available may. sym (ap (flat_map (msi_in (all_slots form))) (ap (frames_in (size_of form) available 0) pieces ∙ frames_none (size_of form) available 0));
}
