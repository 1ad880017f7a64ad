use Rattle.packet_text.proofs.Lists.{carried}
use Rattle.packet_text.proofs.cutter.carry.Goals as goal

pub returns-in-Some-clause-line : goal.returns-in-Some-clause-line
returns-in-Some-clause-line c = carried _ _ _ _ c.append.ensures.items c.in-Some.ensures

pub returns-in-None-clause-line : goal.returns-in-None-clause-line
returns-in-None-clause-line c = record { line = c.append-in-None.ensures.items; clean = c.in-None.ensures }
