use Rattle.std.proofs.Common.{◌+◌, ◌*◌, refl, arith}
use Rattle.frame_overhead.proofs.Rows.{by_rows, opu_row_is}
use Rattle.frame_overhead.proofs.opu.parity.Goals as goal

pub returns : goal.returns
returns g c =
    let cols = g.row.COLS in
    let bytes = c.as_bytes-bytes.result.now in
    let frame = c.args.frame.now in
    let is = c.as_bytes-bytes.ensures.bytes in
    by_rows cols c.parity-one.result c.parity-two.result c.parity-three.result c.parity-four.result _ _ _ _ frame
    (opu_row_is cols 1 14 3824 bytes frame is (omega arith) refl)
    (opu_row_is cols 2 (cols + 14) (cols + 3824) bytes frame is (omega arith) (omega arith))
    (opu_row_is cols 3 (2 * cols + 14) (2 * cols + 3824) bytes frame is (omega arith) (omega arith))
    (opu_row_is cols 4 (3 * cols + 14) (3 * cols + 3824) bytes frame is (omega arith) (omega arith))
    c.parity-one.ensures c.parity-two.ensures c.parity-three.ensures c.parity-four.ensures
