use Rattle.std.proofs.Common.{◌∙◌, ap, arith, bit_and, ◌/◌, ◌^◌}
use Rattle.crc_small.specs.Steps.Shifted.{after_byte}
use Rattle.crc_small.proofs.Header.{right_iff}
use Rattle.crc_small.proofs.header_check.is_right.Goals as goal

pub returns : goal.returns
returns c =
    right_iff c.args.header c.byte16-2.result (omega arith)
    (c.byte16-2.ensures ∙ ap (λ r. after_byte 15 0x11021 r (bit_and (c.args.header / 2 ^ 16) 255)) c.byte16.ensures)
