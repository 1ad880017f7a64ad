use denote.Param.{number}
use Rattle.bounded_ports.proofs.Full.{place_full}
use Rattle.bounded_ports.proofs.laws.full_where_failed.Goals as goal

pub returns : goal.returns
returns g c = record {
  line = λ b got. place_full (number g.row.ROOM) c.args._bays.now.line_out.items b got;
  client = λ n got. place_full (number g.row.ROOM) c.args._bays.now.client_out.items n got;
}
