use Rattle.std.proofs.Common.{◌≡◌, drop, take}
use Rattle.std.specs.List.{list_any}
use Rattle.network_file.specs.Rules.{have_one_name}
use Rattle.network_file.proofs.rules.names.has_name_before.Given as goal

abbrev pub invariant-loop-i : goal.invariant-loop-i
invariant-loop-i l =
    list_any (λ earlier. have_one_name earlier l.later) (take l.count l.nodes)
    ≡ list_any (λ earlier. have_one_name earlier l.later) (drop l.i (take l.count l.nodes))
