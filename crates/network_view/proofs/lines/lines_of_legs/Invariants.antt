use Rattle.std.proofs.Common.{◌≡◌, take}
use Rattle.std.specs.Prelude.{string_bytes}
use Rattle.network_view.specs.NetworkText.{leg_line, numbered}
use Rattle.network_view.proofs.lines.lines_of_legs.Given as goal

-- the lines so far
abbrev pub invariant-loop-i : goal.invariant-loop-i
invariant-loop-i l = string_bytes l.text ≡ numbered (leg_line l.named l.way) 1 (take l.i l.legs)
