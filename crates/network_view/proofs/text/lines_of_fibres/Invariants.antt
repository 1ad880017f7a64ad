use Rattle.std.proofs.Common.{◌≡◌, take}
use Rattle.std.specs.Prelude.{string_bytes}
use Rattle.network_view.specs.NetworkText.{fibre_line, numbered}
use Rattle.network_view.proofs.text.lines_of_fibres.Given as goal

-- the lines so far
abbrev pub invariant-loop-i : goal.invariant-loop-i
invariant-loop-i l = string_bytes l.text ≡ numbered (fibre_line l.named) 1 (take l.i l.fibres)
