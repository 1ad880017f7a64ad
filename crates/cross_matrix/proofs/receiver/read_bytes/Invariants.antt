use Rattle.std.proofs.Common.{◌≤◌, ◌++◌, ◌-◌, ℕ, List, length, take}
use Rattle.port_base.specs.OutPlace.{out_view}
use Rattle.port_base.specs.Views.{OutView}
use Rattle.cross_matrix.specs.Steps.Receiving.{RunRead}
use Rattle.cross_matrix.proofs.receiver.read_bytes.Given as goal

abbrev pub invariant-loop-done : goal.invariant-loop-done
invariant-loop-done g l = record {
  within : l.done ≤ length l.bytes;
  stands : (first : OutView) (earlier : List (List ℕ)) (read : List ℕ) → RunRead first (out_view g.K.Sink l.fn.place) earlier read l.fn.reader l.fn.lines
      → RunRead first (out_view g.K.Sink l.place) earlier (read ++ take l.done l.bytes) l.reader l.lines;
}

abbrev pub decreases-loop-done : goal.decreases-loop-done
decreases-loop-done g l = length l.bytes - l.done
