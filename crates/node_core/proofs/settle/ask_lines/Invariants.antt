use Rattle.port_base.specs.Racks.{bays_view}
use Rattle.node_core.specs.Steps.Asking.{LinesAnswer}
use Rattle.node_core.proofs.settle.ask_lines.Given as goal

-- so many lines were asked
abbrev pub invariant-loop-a : goal.invariant-loop-a
invariant-loop-a g l = LinesAnswer l.a l.pieces l.lines (bays_view g.P.Source g.K.Sink l.fn.bays) (bays_view g.P.Source g.K.Sink l.bays) l.more
