use Rattle.std.proofs.Common.{◌≡◌, ◌∙◌, ◌+◌, ◌-◌, ◌*◌, ◌/◌, ◌<◌, ◌∷◌, [], refl, ap, sym, subst, get_or}
use Rattle.frame_geometry.specs.Places.{payload_row_of}
use Rattle.otn_base.specs.LineSlots.{slots_of}
use Rattle.odtu_columns.specs.Payload.{payload_group}
use Rattle.odtu_columns.proofs.SlotRuns.{only_slot, in_line, own_group}
use Rattle.odtu_columns.proofs.split_frame.SplitFrameTakeFrame.own_bytes.Goals as goal

pub returns-then-is_otu2_slot-clause-groups : goal.returns-then-is_otu2_slot-clause-groups
returns-then-is_otu2_slot-clause-groups c = λ row cycle low high below.
    let list = c.args.slots.now.list in
    let k = c.last.result in
    let frame = c.self.inside.frame.now in
    let own = c.slot.result.now in
    let line = c.if-is_otu2_slot.ensures.line refl in
    let only = only_slot list k (c.if-is_otu2_slot.ensures.one refl) c.last.ensures.last in
    let inside = in_line (slots_of c.args.slots.now.kind) k list c.last.ensures.list only line in
    let cycles : 3808 / slots_of c.args.slots.now.kind ≡ 476 = ap (λ s. 3808 / s) line in
    ap (λ n. get_or own (n * (row - 1) + cycle) 0 ∷ []) cycles
    ∙ own_group frame c.self.inside.slots.now own k row cycle inside.0 inside.1 low high (subst (λ n. cycle < n) cycles below) c.self.invariant c.slot.ensures.bytes
    ∙ ap (λ f. payload_group 8 (payload_row_of 4080 row f) (k ∷ []) cycle) c.self.view_is
    ∙ ap (λ xs. payload_group 8 (payload_row_of 4080 row c.args.self.now) xs cycle) (sym only)
    ∙ ap (λ s. payload_group s (payload_row_of 4080 row c.args.self.now) list cycle) (sym line)
