use Rattle.std.proofs.Common.{arith}
use Rattle.std.proofs.lemmas.List.{drop_all}
use Rattle.odu_client.proofs.Framing.{fresh_view, fresh_from}
use Rattle.odu_client.proofs.framer.ClientFramer.restart.Goals as goal

pub returns-clause-fresh : goal.returns-clause-fresh
returns-clause-fresh c =
    fresh_view _ _ c.args.fcs _ _ _ _ c.same_trace-self-inside.ensures c.restart.ensures c.new-self-inside.ensures.sent c.new-self-inside.ensures.mfas
    (drop_all 15296 c.self.inside.frame (let size = c.self.invariant.1 in omega arith))

pub returns-clause-stands : goal.returns-clause-stands
returns-clause-stands c = λ first. fresh_from first c.args.trace.now c.args.fcs _
    (fresh_view _ _ c.args.fcs _ _ _ _ c.same_trace-self-inside.ensures c.restart.ensures c.new-self-inside.ensures.sent c.new-self-inside.ensures.mfas
    (drop_all 15296 c.self.inside.frame (let size = c.self.invariant.1 in omega arith)))
