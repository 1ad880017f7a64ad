use Rattle.std.proofs.Common.{◌∙◌, sym, slice_index}
use Rattle.cnd_codec.proofs.HeardRest.{hears_right, hears_wrong, hears_great}
use Rattle.cnd_codec.proofs.remainder.hear_d.Goals.{else-bytes-crc5-via-then-bytes-crc5+else-d-m, else-bytes-crc5-via-else-bytes-crc5}
use Rattle.cnd_codec.proofs.remainder.hear_d.Goals as goal

pub returns-then-d-m-clause-heard : goal.returns-then-d-m-clause-heard
returns-then-d-m-clause-heard c =
    let b = slice_index c.args.bytes in
    sym (hears_right c.args.m (b 0) (b 1) (b 2) (c.if-bytes-crc5.true ∙ c.crc5.ensures.check) c.if-d-m.true)

pub returns-else-bytes-crc5-clause-heard : goal.returns-else-bytes-crc5-clause-heard
returns-else-bytes-crc5-clause-heard c =
    let b = slice_index c.args.bytes in
    elim c.else-bytes-crc5.branch [
      | else-bytes-crc5-via-then-bytes-crc5+else-d-m w ↦ sym (hears_great c.args.m (b 0) (b 1) (b 2) w.if-d-m.false)
      | else-bytes-crc5-via-else-bytes-crc5 w ↦ sym (hears_wrong c.args.m (b 0) (b 1) (b 2) (λ e. w.if-bytes-crc5.false (e ∙ sym c.crc5.ensures.check)))
    ]
