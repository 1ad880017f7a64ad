use Rattle.line_side.proofs.line_out.LineOut.payload_parity.Goals as goal

pub returns : goal.returns
returns c = rw (← c.self.view_is) c.payload_parity.ensures
