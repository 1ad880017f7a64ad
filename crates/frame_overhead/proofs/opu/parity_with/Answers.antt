use Rattle.std.proofs.Common.{◌+◌, ◌*◌, ap, sym, ◌∙◌, arith, length}
use Rattle.frame_overhead.proofs.Rows.{with_payload, pair_is, wide_enough}
use Rattle.frame_overhead.proofs.opu.parity_with.Goals as goal

pub returns : goal.returns
returns g c =
    let cols = g.row.COLS in
    let frame = c.args.frame.now in
    let bytes = c.as_bytes-bytes.result.now in
    let is = c.as_bytes-bytes.ensures.bytes in
    with_payload cols c.beside_payload-one.result c.beside_payload-two.result c.beside_payload-three.result c.beside_payload-four.result c.args.payload frame
    (wide_enough cols c.as_bytes-bytes.ensures.width) (ap length (sym is) ∙ c.as_bytes-bytes.ensures.size)
    (c.beside_payload-one.ensures ∙ pair_is cols 1 14 bytes frame is (omega arith))
    (c.beside_payload-two.ensures ∙ pair_is cols 2 (cols + 14) bytes frame is (omega arith))
    (c.beside_payload-three.ensures ∙ pair_is cols 3 (2 * cols + 14) bytes frame is (omega arith))
    (c.beside_payload-four.ensures ∙ pair_is cols 4 (3 * cols + 14) bytes frame is (omega arith))
    c.requires.payload
