use Rattle.std.proofs.Common.{refl}
use Rattle.line_side.proofs.Made.{new_made}
use Rattle.line_side.proofs.line_out.LineOut.new.Goals as goal

pub returns : goal.returns
returns c = λ first. new_made _ _ _ _ first _ refl c.in_ok-new.ensures c.trace_of.ensures c.new-3.ensures (c.new-4.ensures 4080) c.in_ok-new-3.ensures refl
