use Rattle.std.proofs.Common.{◌≡◌, refl, ap, rules}
use Rattle.port_base.specs.OutPlace.{out_view, live_out}
use Rattle.port_base.specs.Writes.{Writes}
use Rattle.port_base.specs.declared.drain.Written.TheVariants.{Lost}
use Rattle.port_base.proofs.SentLaws.{lost_sent}
use Rattle.port_base.proofs.out_place.OutPlaceOf.write_all.Goals as goal

pub returns-then-eq-clause-sent : goal.returns-then-eq-clause-sent
returns-then-eq-clause-sent g c =
    let lost : c.drain_counted-ending.result ≡ Lost = search rules in
    let was : out_view g.K.Sink c.args.self.now ≡ live_out g.K.Sink c.in-Live.port c.in-Live.number = ap (out_view g.K.Sink) c.in-Live.is in
    let writes : Writes Lost (live_out g.K.Sink c.in-Live.port c.in-Live.number) c.args.bytes.now (live_out g.K.Sink c.drain_counted-ending.new.port c.drain_counted-ending.new.number) = rw lost at c.drain_counted-ending.ensures.writes in
    rw was
    (lost_sent (live_out g.K.Sink c.in-Live.port c.in-Live.number) (live_out g.K.Sink c.drain_counted-ending.new.port c.drain_counted-ending.new.number) (out_view g.K.Sink c.die.new.self) c.args.bytes.now refl writes (c.die.ensures refl))
