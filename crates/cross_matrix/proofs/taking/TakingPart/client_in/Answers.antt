use Rattle.std.proofs.Common.{subst}
use Rattle.packet_text.specs.LinesStand.{lines_view}
use Rattle.device_model.specs.Through.{of_client}
use Rattle.cross_matrix.specs.Parts.{ClientInStands, MayShow}
use Rattle.cross_matrix.proofs.PartMoves.{text_counted}
use Rattle.cross_matrix.proofs.taking.TakingPart.client_in.Goals as goal

pub returns-in-Client : goal.returns-in-Client
returns-in-Client c = λ x first now read n input h may.
    let client = c.in-Client.client in
    let view = lines_view client.lines in
    text_counted x first now read n input client c.packets.result c.spent.result c.bad.result
    (λ emitted text. c.packets.ensures first now read emitted view text)
    (λ emitted died text. c.spent.ensures first now read emitted view died text)
    (λ emitted died text. c.bad.ensures first now read emitted view died text)
    (subst (ClientInStands x first now read n) c.in-Client.is h) (subst (λ part. MayShow part read (of_client input)) c.in-Client.is may)
