use Rattle.std.proofs.Common.{◌≡◌, ◌∙◌, Some, slice_get, length, sym, subst, arith}
use Rattle.std.proofs.lemmas.Grind.{common_steps}
use Rattle.std.proofs.lemmas.Option.{same_Some}
use Rattle.line_view.specs.Steps.Watching.{IsNew}
use Rattle.line_view.specs.declared.shown.Shown.{Shown}
use Rattle.line_view.proofs.Steps.{each_more}
use Rattle.line_view.proofs.Texts.{known_item}
use Rattle.line_view.proofs.watched.new_watched.Goals as goal

pub loop-i-preserved : goal.loop-i-preserved
loop-i-preserved c =
    let items = c.loop-i.watched.items in
    let i = c.loop-i.invariant in
    let len : length items ≡ c.loop-i.i = omega (arith, i.len, c.loop-i.watched.ok) in
    let at : slice_get c.args.shown.now c.loop-i.i ≡ Some c.index-shown-i.result = known_item c.args.shown.now c.loop-i.i c.index-shown-i.result (omega (arith, c.loop-i-test.true)) c.index-shown-i.is in
    record {
      len = grind (arith, common_steps);
      each = rw c.in_ok-push.ensures.items (each_more (λ k one. (asked : Shown) → slice_get c.args.shown.now k ≡ Some asked → IsNew asked one) items _ c.loop-i.i len i.each
          (λ asked known. subst (λ a. IsNew a c.in_ok-new.field-0) (same_Some c.index-shown-i.result asked (sym at ∙ known)) c.in_ok-new.ensures));
    }
