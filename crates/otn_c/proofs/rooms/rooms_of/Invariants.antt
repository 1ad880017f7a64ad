use Rattle.std.proofs.Common.{◌≡◌, length}
use Rattle.otn_c.proofs.rooms.rooms_of.Given as goal

abbrev pub invariant-loop-output : goal.invariant-loop-output
invariant-loop-output l = length l.rooms.items ≡ l.output
