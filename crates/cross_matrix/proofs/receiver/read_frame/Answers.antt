use Rattle.std.proofs.Common.{◌++◌}
use Rattle.port_base.specs.OutPlace.{out_view}
use Rattle.cross_matrix.proofs.Runs.{frame_read}
use Rattle.cross_matrix.proofs.receiver.read_frame.Goals as goal

pub returns : goal.returns
returns g c = λ first earlier read h.
    let a = c.payload_row.result.now in
    let b = c.payload_row-2.result.now in
    let third = c.payload_row-3.result.now in
    let d = c.payload_row-4.result.now in
    let last = c.read_bytes-4.new in
    frame_read first (out_view g.K.Sink last.place) earlier read c.args.frame.now a b third d last.reader last.lines c.payload_row.ensures.bytes c.payload_row-2.ensures.bytes c.payload_row-3.ensures.bytes c.payload_row-4.ensures.bytes
    (c.read_bytes-4.ensures first earlier (read ++ a ++ b ++ third) (c.read_bytes-3.ensures first earlier (read ++ a ++ b) (c.read_bytes-2.ensures first earlier (read ++ a) (c.read_bytes.ensures first earlier read h))))
