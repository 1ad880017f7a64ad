use Rattle.std.proofs.Common.{◌≡◌, ◌∙◌, ap, sym, subst, [], ◌∷◌}
use Rattle.std.specs.Prelude.{replicate}
use Rattle.std.specs.List.{each_same}
use Rattle.otn_base.specs.LineSlots.{LineSlots, slots_of}
use Rattle.otn_base.specs.SlotList.{IsSlotList}
use Rattle.trib_sink.proofs.Stands.{stands_start, none_taken}
use Rattle.trib_sink.proofs.sink.TribSink.new.Goals as goal

same_slots : {a b : LineSlots} → a.kind ≡ b.kind → a.list ≡ b.list → a ≡ b
same_slots {a = a} {b = b} kind list = ap (λ k. record { kind = k; list = a.list }) kind ∙ ap (λ xs. record { kind = b.kind; list = xs }) list

pub returns-clause-slots : goal.returns-clause-slots
returns-clause-slots c =
    let k = c.in_ok-slots.ensures.cases in
    sym k.3 ∙ same_slots k.4.0 (each_same _ _ k.4.1) ∙ k.2

pub returns-clause-stands : goal.returns-clause-stands
returns-clause-stands c =
    let k = c.in_ok-slots.ensures.cases in
    let same : c.in_ok-slots.slots ≡ c.args.slots.now = sym k.3 ∙ same_slots k.4.0 (each_same _ _ k.4.1) ∙ k.2 in
    let w = c.new-2.result in
    let list : IsSlotList (slots_of c.in_ok-slots.slots.kind) c.in_ok-slots.slots.list = subst (λ (x : LineSlots). IsSlotList (slots_of x.kind) x.list) (sym same) c.count.ensures.list in
    rw (c.new-3.ensures, ← same)
    (stands_start c.in_ok-slots.slots (0 ∷ 0 ∷ 0 ∷ 0 ∷ 0 ∷ 0 ∷ []) c.args.port c.in_ok-follower.follower (replicate 32 w)
    list c.in_ok-follower.ensures.at c.in_ok-follower.ensures.fresh c.in_ok-follower.ensures.cm (none_taken c.args.port w c.new-2.ensures))
