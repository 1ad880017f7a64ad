use Rattle.std.proofs.Common.{◌++◌}
use Rattle.port_base.specs.Racks.{bays_view}
use Rattle.unbundle_command.proofs.Holding.{clients_twice}
use Rattle.unbundle_command.proofs.Runs.{frame_read}
use Rattle.unbundle_command.proofs.receiving.read_frame.Goals as goal

pub returns-clause-read : goal.returns-clause-read
returns-clause-read g c = λ first earlier read h.
    let a = c.payload_row.result.now in
    let b = c.payload_row-2.result.now in
    let third = c.payload_row-3.result.now in
    let d = c.payload_row-4.result.now in
    let last = c.read_bytes-4.new in
    frame_read first (bays_view g.I.Source g.O.Sink last.bays) earlier read c.args.frame.now a b third d last.reader last.outputs c.payload_row.ensures.bytes c.payload_row-2.ensures.bytes c.payload_row-3.ensures.bytes c.payload_row-4.ensures.bytes
    (c.read_bytes-4.ensures.read first earlier (read ++ a ++ b ++ third) (c.read_bytes-3.ensures.read first earlier (read ++ a ++ b) (c.read_bytes-2.ensures.read first earlier (read ++ a) (c.read_bytes.ensures.read first earlier read h))))

pub returns-clause-alone : goal.returns-clause-alone
returns-clause-alone g c = clients_twice _ _ _ (clients_twice _ _ _ (clients_twice _ _ _ c.read_bytes.ensures.alone c.read_bytes-2.ensures.alone) c.read_bytes-3.ensures.alone) c.read_bytes-4.ensures.alone
