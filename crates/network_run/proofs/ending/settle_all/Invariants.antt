use Rattle.std.proofs.Common.{◌≡◌, ◌≤◌}
use Rattle.std.specs.Vec.{vec_capacity}
use Rattle.network_run.proofs.Settling.{SettledBelow}
use Rattle.network_run.proofs.ending.settle_all.Given as goal

-- the nodes so far were settled, and there is still the room that there was
abbrev pub invariant-loop-i : goal.invariant-loop-i
invariant-loop-i g l = record {
  below : SettledBelow g.P.Source g.K.Sink l.i l.fn.sites.items l.sites.items l.numbers.items;
  room : vec_capacity l.fn.room ≤ vec_capacity l.numbers;
}
