use Rattle.std.proofs.Common.{sym, ◌∙◌}
use Rattle.port_base.specs.OutPlace.{out_view}
use Rattle.port_base.proofs.GivenLaws.{dead_of}
use Rattle.cross_matrix.proofs.LineCounts.{held_dead, held_more}
use Rattle.cross_matrix.proofs.held_lines.HeldLines.add.Goals as goal

pub returns-then-is_dead_out : goal.returns-then-is_dead_out
returns-then-is_dead_out g c = λ first packets h.
    let now = out_view g.K.Sink c.args.place.now in
    held_dead first now packets c.args.packet.now c.args.self.now (dead_of now.state (sym c.is_dead_out.ensures ∙ c.if-is_dead_out.true)) h

pub returns : goal.returns
returns g c = λ first packets h.
    let e = c.hold.ensures in
    held_more first (out_view g.K.Sink c.args.place.now) packets c.args.packet.now c.args.self.now c.hold.new.self (sym c.is_dead_out.ensures ∙ c.if-is_dead_out.false) e.text e.count e.packets h
