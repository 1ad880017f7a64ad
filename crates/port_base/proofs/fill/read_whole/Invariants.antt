use Rattle.std.proofs.Common.{length, ◌-◌, ◌≡◌, ◌≤◌, take}
use Rattle.port_base.specs.Bytes.{before}
use Rattle.port_base.proofs.fill.read_whole.Given as goal

abbrev pub invariant-loop-done : goal.invariant-loop-done
invariant-loop-done g l = record {
  within : l.done ≤ length l.into;
  bytes : g.S.Source.left l.fn.source ≡ before (take l.done l.into) (g.S.Source.left l.source);
  ended : g.S.Source.ended l.source ≡ g.S.Source.ended l.fn.source;
  same : g.S.Source.boxed l.source ≡ g.S.Source.boxed l.fn.source;
  well : g.S.Source.faults l.source ≡ g.S.Source.faults l.fn.source;
  later : g.S.Source.faults l.fn.source ≤ g.S.Source.faults l.source;
}

abbrev pub decreases-loop-done : goal.decreases-loop-done
decreases-loop-done g l = length l.initial.into - l.done
