use Rattle.std.proofs.Common.{◌≡◌, ◌+◌, ◌-◌, ◌*◌, take, drop, arith, ap, ◌∙◌}
use Rattle.frame_geometry.proofs.frame.Frame.payload_row.Goals as goal

pub returns-clause-bytes : goal.returns-clause-bytes
returns-clause-bytes g c =
    let start = g.row.COLS * (c.args.row - 1) + 16 in
    let columns : start + 3808 - start ≡ 3808 = omega arith in
    ap (λ n. take n (drop start c.as_bytes-bytes.result.now)) columns ∙ ap (λ bytes. take 3808 (drop start bytes)) c.as_bytes-bytes.ensures.bytes
