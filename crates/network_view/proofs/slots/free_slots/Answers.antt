use Rattle.std.proofs.Common.{◌≡◌, ◌∙◌, ap, arith}
use Rattle.std.specs.Prelude.{filter, not}
use Rattle.std.specs.List.{range_with_len}
use Rattle.otn_base.specs.LineSlots.{slots_of}
use Rattle.network_view.specs.Slots.{free_slots, is_used}
use Rattle.network_view.proofs.Lists.{filter_more}
use Rattle.network_view.proofs.slots.free_slots.Goals as goal

pub loop-k-preserved : goal.loop-k-preserved
loop-k-preserved c =
    filter_more (λ k. not (is_used c.args.plan.now c.args.line k)) c.loop-k.k c.loop-k.free.items c.add_free.new.free.items c.loop-k.invariant
    c.in_ok-add_free.ensures

pub returns : goal.returns
unfolding free_slots
returns c =
    let last : c.loop-k.k ≡ c.slots-k-end.result = let low = c.loop-k-test.false in let high = c.loop-k.auto.k-end in omega arith in
    let slots = last ∙ c.slots-k-end.ensures.slots ∙ ap slots_of c.kind_out.ensures in
    record { free = c.loop-k.invariant ∙ ap (λ n. filter (λ k. not (is_used c.args.plan.now c.args.line k)) (range_with_len 1 n)) slots }
