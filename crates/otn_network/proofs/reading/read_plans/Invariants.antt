use Rattle.std.proofs.Common.{◌≡◌, length}
use Rattle.otn_network.proofs.reading.read_plans.Given as goal

-- a plan for each node so far
abbrev pub invariant-loop-i : goal.invariant-loop-i
invariant-loop-i l = length l.plans.items ≡ l.i
