use Rattle.std.proofs.Common.{◌≡◌, drop}
use Rattle.network_file.specs.Rules.{names}
use Rattle.network_file.proofs.rules.fibres.names.Given as goal

abbrev pub invariant-loop-node : goal.invariant-loop-node
invariant-loop-node l = names l.nodes l.name ≡ names (drop l.node-index l.nodes) l.name
