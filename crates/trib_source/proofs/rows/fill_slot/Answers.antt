use Rattle.std.proofs.Common.{◌∙◌, ap, sym, length}
use Rattle.trib_source.proofs.RowsLaid.{length-groups_laid, slot_put}
use Rattle.trib_source.proofs.rows.fill_slot.Goals as goal

pub lay_slot-requires-clause-size : goal.lay_slot-requires-clause-size
lay_slot-requires-clause-size g c = ap length c.new-groups.ensures ∙ length-groups_laid 1 c.args.cm c.args.asked 1904 c.args.fresh.now

pub lay_slot-requires-clause-scratch : goal.lay_slot-requires-clause-scratch
lay_slot-requires-clause-scratch g c =
    c.requires.scratch ∙ sym (length-groups_laid 1 c.args.cm c.args.asked 1904 c.args.fresh.now) ∙ sym (ap length c.new-groups.ensures)

pub returns : goal.returns
returns g c =
    slot_put c.args.slots.now.list c.new-groups.result c.args.fresh.now (g.F.FillFrame.bytes c.args.frame.now) (g.F.FillFrame.bytes c.lay_slot.new.self) c.args.cm c.args.asked c.requires.one c.new-groups.ensures c.lay_slot.ensures
