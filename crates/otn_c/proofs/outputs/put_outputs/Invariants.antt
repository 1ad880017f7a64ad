use Rattle.std.proofs.Common.{◌≡◌, length}
use Rattle.otn_c.specs.Places.{OutUpTo}
use Rattle.otn_c.proofs.Filling.{view}
use Rattle.otn_c.proofs.outputs.put_outputs.Given as goal

abbrev pub invariant-loop-n : goal.invariant-loop-n
invariant-loop-n l = record {
  block : length l.block ≡ length l.initial.block;
  ends : length l.ends ≡ 20;
  out : OutUpTo l.n (view l.bays) l.block l.ends l.total;
}
