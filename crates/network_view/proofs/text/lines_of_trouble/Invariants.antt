use Rattle.std.proofs.Common.{◌≡◌, length, take, flat_map}
use Rattle.std.specs.Prelude.{string_bytes}
use Rattle.network_view.specs.NetworkText.{trouble_line}
use Rattle.network_view.proofs.text.lines_of_trouble.Given as goal

-- the lines so far
abbrev pub invariant-loop-leg : goal.invariant-loop-leg
invariant-loop-leg l = string_bytes l.text ≡ flat_map (trouble_line l.named (length l.legs) l.trouble) (take l.leg-index l.legs)
