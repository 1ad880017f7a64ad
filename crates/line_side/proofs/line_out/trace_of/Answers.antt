use Rattle.line_side.proofs.line_out.trace_of.Goals as goal

pub returns : goal.returns
returns c = c.in-Some.ensures.same
