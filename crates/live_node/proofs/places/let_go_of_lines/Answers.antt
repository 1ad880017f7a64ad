use Rattle.std.proofs.Common.{◌∙◌}
use Rattle.live_node.proofs.Handing.{line_out_still}
use Rattle.live_node.proofs.places.let_go_of_lines.Goals as goal

pub loop-b-preserved : goal.loop-b-preserved
loop-b-preserved c =
    line_out_still c.loop-b.bays c.loop-b.b c.line_out_mut.result.now c.let_go.new.place c.line_out_mut.ensures.value c.let_go.ensures
    ∙ c.loop-b.invariant
