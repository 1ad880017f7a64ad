use Rattle.std.proofs.Common.{rules}
use Rattle.packet_text.proofs.StandingLines.{fresh_stands}
use Rattle.packet_text.proofs.packet_lines.PacketLines.restart.Goals as goal

pub returns-clause-stands : goal.returns-clause-stands
returns-clause-stands c = λ first. fresh_stands first _ (search rules)
