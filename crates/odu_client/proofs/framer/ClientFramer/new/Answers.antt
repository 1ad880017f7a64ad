use Rattle.std.proofs.Common.{[], true, arith}
use Rattle.std.proofs.lemmas.List.{drop_all}
use Rattle.odu_client.proofs.Framing.{fresh_view, fresh_from}
use Rattle.odu_client.proofs.framer.ClientFramer.new.Goals as goal

pub returns-clause-fresh : goal.returns-clause-fresh
returns-clause-fresh c =
    fresh_view [] _ true _ _ _ _ c.no_trace.ensures c.in_ok-new.ensures c.new-2.ensures.sent c.new-2.ensures.mfas (drop_all 15296 c.in_ok-new-2.field-0 (let size = c.in_ok-new-2.ensures.size in omega arith))

pub returns-clause-stands : goal.returns-clause-stands
returns-clause-stands c = λ first. fresh_from first [] true _
    (fresh_view [] _ true _ _ _ _ c.no_trace.ensures c.in_ok-new.ensures c.new-2.ensures.sent c.new-2.ensures.mfas (drop_all 15296 c.in_ok-new-2.field-0 (let size = c.in_ok-new-2.ensures.size in omega arith)))
