use Rattle.std.proofs.Common.{rules}
use Rattle.otn_c.proofs.Filling.{next_line, view}
use Rattle.otn_c.proofs.places.fill_lines.Goals as goal

pub loop-n-preserved : goal.loop-n-preserved
loop-n-preserved c =
    next_line c.args.present.now c.args.block.now c.args.ends.now (view c.args.bays.now) c.loop-n.bays c.set_line_in.new.self c.set_line_out.new.self c.loop-n.n c.in-Some.place c.output.result
    (search rules) c.loop-n.invariant (search rules) (search rules) c.output.ensures c.set_line_in.ensures c.set_line_out.ensures
