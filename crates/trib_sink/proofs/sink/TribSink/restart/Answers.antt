use Rattle.std.specs.Prelude.{replicate}
use Rattle.trib_sink.proofs.Stands.{stands_start, none_taken}
use Rattle.trib_sink.proofs.sink.TribSink.restart.Goals as goal

pub returns-clause-stands : goal.returns-clause-stands
returns-clause-stands c =
    let i = c.self.inside in
    let w = c.new-watches.result in
    rw (c.clear.ensures, ← c.self.view_is)
    (stands_start i.slots i.message i.port c.restart.new.self (replicate 32 w) c.self.invariant.list
    c.restart.ensures.at c.restart.ensures.fresh c.restart.ensures.cm (none_taken i.port w c.new-watches.ensures))
