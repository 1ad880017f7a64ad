use Rattle.std.proofs.Common.{◌∙◌}
use Rattle.network_run.proofs.Lent.{line_out_still}
use Rattle.network_run.proofs.site.let_go_lines.Goals as goal

pub loop-b-preserved : goal.loop-b-preserved
loop-b-preserved g c =
    line_out_still g.P.Source g.K.Sink c.loop-b.bays c.loop-b.b c.line_out_mut.result.now c.let_go_line.new.place c.line_out_mut.ensures.value
    c.let_go_line.ensures ∙ c.loop-b.invariant
