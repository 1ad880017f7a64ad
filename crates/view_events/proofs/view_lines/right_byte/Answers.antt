use Rattle.std.proofs.Common.{◌+◌, ap, arith}
use Rattle.view_events.proofs.Reading.{tributary_word}
use Rattle.view_events.proofs.view_lines.right_byte.Goals as goal

pub returns : goal.returns
returns c x h is = ap (λ n. n + 127) (c.slot_at.ensures.slot x.port h.port (tributary_word x h c.args.line.now is 3 (omega arith)))
