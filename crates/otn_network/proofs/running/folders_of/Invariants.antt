use Rattle.std.proofs.Common.{◌≡◌, length}
use Rattle.otn_network.proofs.running.folders_of.Given as goal

-- a folder for each node so far
abbrev pub invariant-loop-i : goal.invariant-loop-i
invariant-loop-i l = length l.folders.items ≡ l.i
