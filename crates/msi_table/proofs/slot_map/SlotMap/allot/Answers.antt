use Rattle.std.proofs.Common.{◌≡◌, ap, sym, ◌∙◌, length, arith}
use Rattle.otn_base.specs.LineSlots.{slots_of}
use Rattle.msi_table.proofs.Given.{given_of, ports_length}
use Rattle.msi_table.proofs.slot_map.SlotMap.allot.Goals as goal

pub returns-clause-given : goal.returns-clause-given
returns-clause-given c =
    let inside = c.self.inside in
    let size : length inside.ports ≡ 32 = omega arith in
    let same : slots_of inside.kind ≡ slots_of c.args.slots.now.kind =
    sym (ports_length inside.kind inside.ports size) ∙ ap length c.self.view_is ∙ c.requires.kind in
    rw (sym c.self.view_is) (given_of (slots_of inside.kind) c.args.port c.args.slots.now.list inside.ports c.give.new.ports (rw (sym same) at c.give.ensures.within) c.give.ensures.given)
