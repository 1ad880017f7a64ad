use Rattle.line_side.proofs.line_out.LineOut.finish.Goals as goal

pub finish_with-requires : goal.finish_with-requires
finish_with-requires g c = record { payload = c.payload_parity-payload.ensures }
