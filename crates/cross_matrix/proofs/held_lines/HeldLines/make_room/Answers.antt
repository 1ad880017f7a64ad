use Rattle.port_base.specs.OutPlace.{out_view}
use Rattle.cross_matrix.proofs.LineCounts.{none_held}
use Rattle.cross_matrix.proofs.held_lines.HeldLines.make_room.Goals as goal

pub returns-then-self-packet-gt-ROOM-clause-held : goal.returns-then-self-packet-gt-ROOM-clause-held
returns-then-self-packet-gt-ROOM-clause-held g c = λ first packets h. none_held first (out_view g.K.Sink c.flush.new.place) packets c.flush.new.self c.flush.ensures.none (c.flush.ensures.sent first packets h)
