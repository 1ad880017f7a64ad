use Rattle.std.proofs.Common.{◌≡◌, drop, take}
use Rattle.std.specs.List.{list_any}
use Rattle.network_file.specs.Rules.{lead_to_one_line}
use Rattle.network_file.proofs.rules.fibres.is_line_taken.Given as goal

abbrev pub invariant-loop-i : goal.invariant-loop-i
invariant-loop-i l =
    list_any (λ earlier. lead_to_one_line earlier l.later) (take l.count l.fibres)
    ≡ list_any (λ earlier. lead_to_one_line earlier l.later) (drop l.i (take l.count l.fibres))
