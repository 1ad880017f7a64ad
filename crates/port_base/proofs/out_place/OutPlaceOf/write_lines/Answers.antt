use Rattle.std.proofs.Common.{◌≡◌, refl, ap, rules}
use Rattle.port_base.specs.OutPlace.{out_view, live_out}
use Rattle.port_base.specs.declared.drain.Written.TheVariants.{Lost}
use Rattle.port_base.proofs.SentLaws.{lost_sent, lost_writes, part_lost}
use Rattle.port_base.proofs.out_place.OutPlaceOf.write_lines.Goals as goal

pub returns-then-eq-clause-live : goal.returns-then-eq-clause-live
returns-then-eq-clause-live g c = λ live.
    let lost : c.lines_counted.result.0 ≡ Lost = search rules in
    let was : out_view g.K.Sink c.args.self.now ≡ live_out g.K.Sink c.in-Live.port c.in-Live.number = ap (out_view g.K.Sink) c.in-Live.is in
    let old = live_out g.K.Sink c.in-Live.port c.in-Live.number in
    let mid = live_out g.K.Sink c.lines_counted.new.port c.lines_counted.new.number in
    let e = c.lines_counted.ensures in
    rw (was, lost) (lost_writes old mid (out_view g.K.Sink c.die.new.self) c.args.lines.now (part_lost old mid c.args.lines.now c.lines_counted.result.0 c.lines_counted.result.1 lost e.sends e.writing e.cause) (c.die.ensures refl))

pub returns-then-eq-clause-sent : goal.returns-then-eq-clause-sent
returns-then-eq-clause-sent g c =
    let lost : c.lines_counted.result.0 ≡ Lost = search rules in
    let was : out_view g.K.Sink c.args.self.now ≡ live_out g.K.Sink c.in-Live.port c.in-Live.number = ap (out_view g.K.Sink) c.in-Live.is in
    let old = live_out g.K.Sink c.in-Live.port c.in-Live.number in
    let mid = live_out g.K.Sink c.lines_counted.new.port c.lines_counted.new.number in
    let e = c.lines_counted.ensures in
    rw was (lost_sent old mid (out_view g.K.Sink c.die.new.self) c.args.lines.now refl (part_lost old mid c.args.lines.now c.lines_counted.result.0 c.lines_counted.result.1 lost e.sends e.writing e.cause) (c.die.ensures refl))
