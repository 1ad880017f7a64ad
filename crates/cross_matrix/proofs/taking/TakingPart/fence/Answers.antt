use Rattle.std.proofs.Common.{◌≡◌, ◌+◌, ◌∙◌, suc, false, [], take, sym, ap, subst}
use Rattle.maintenance_signals.specs.Emitted.{HasEmitted}
use Rattle.maintenance_signals.specs.Stream.{signal_bytes}
use Rattle.odu_client.specs.ClientInput.{emitted_before}
use Rattle.device_model.specs.Through.{emits_by}
use Rattle.cross_matrix.specs.Parts.{TakesFrom, TakingStands}
use Rattle.cross_matrix.specs.declared.taking.TakingPart.TheVariants as taking
use Rattle.cross_matrix.proofs.PartMoves.{front_of, on_signal, signal_from, emitted_next}
use Rattle.cross_matrix.proofs.taking.TakingPart.fence.Goals as goal

pub returns-in-Signal-clause-stands : goal.returns-in-Signal-clause-stands
returns-in-Signal-clause-stands c = λ from x input j ended e over h.
    on_signal (λ from input. TakingStands from x input (suc j) [] false (taking.Signal c.next_front.new.stream)) from x input j [] ended c.in-Signal.stream
    (λ signal s. subst (λ k. HasEmitted signal k c.next_front.new.stream) (ap (λ k. emitted_before x.pace j + k) e ∙ sym (emitted_next x.pace j)) (c.next_front.ensures.emitted signal (emitted_before x.pace j) s))
    (subst (TakingStands from x input j [] ended) c.in-Signal.is h)

pub returns-in-Signal-clause-bytes : goal.returns-in-Signal-clause-bytes
returns-in-Signal-clause-bytes c = λ from x input j ended e over h kept.
    let out = c.hand_out-buffer.result.0 in
    let put : c.exchange.new.self.bytes ≡ take c.args.count c.next_front.new.into =
    front_of c.args.count out.len c.next_front.new.into out.items c.exchange.new.self _ c.exchange.ensures.state (c.next_front.ensures.size ∙ c.deref_mut.ensures.len) in
    on_signal (λ from input. c.exchange.new.self.bytes ≡ emits_by from x input j) from x input j [] ended c.in-Signal.stream
    (λ signal s. put ∙ c.next_front.ensures.bytes signal (emitted_before x.pace j) s ∙ ap (signal_bytes signal (emitted_before x.pace j)) e)
    (subst (TakingStands from x input j [] ended) c.in-Signal.is h)

pub returns-in-Signal-clause-entry : goal.returns-in-Signal-clause-entry
returns-in-Signal-clause-entry c = λ from x h. signal_from from x c.args.count c.in-Signal.stream c.next_front.new.stream c.next_front.ensures.emitted (subst (TakesFrom from x) c.in-Signal.is h)
