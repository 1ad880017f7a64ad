use Rattle.otn_base.specs.LineSlots.{slots_of}
use Rattle.trib_source.specs.Steps.Rows.{byte_laid}
use Rattle.trib_source.proofs.RowsPut.{no_rows}
use Rattle.trib_source.proofs.rows.fill_each_row.Goals as goal

pub returns : goal.returns
returns g c =
    let before = g.F.FillFrame.bytes c.args.frame.now in
    c.fill_row-end.ensures.rows before (c.fill_row-three.ensures.rows before (c.fill_row-two.ensures.rows before
    (c.fill_row-one.ensures.rows before (no_rows (slots_of c.args.slots.now.kind) c.args.slots.now.list (byte_laid c.args.m c.args.cm c.args.asked c.args.fresh.now) before))))
