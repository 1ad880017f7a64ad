use Rattle.std.proofs.Common.{◌≤◌, ◌++◌, ◌-◌, ℕ, List, length, take}
use Rattle.odu_client.specs.View.{aligner_state}
use Rattle.port_base.specs.OutPlace.{out_view}
use Rattle.port_base.specs.Views.{OutView}
use Rattle.cross_matrix.specs.Steps.Receiving.{HoldsAfter}
use Rattle.cross_matrix.proofs.receiver.take_all.Given as goal

abbrev pub invariant-loop-done : goal.invariant-loop-done
invariant-loop-done g l = record {
  within : l.done ≤ length l.bytes;
  holds : (first : OutView) (arrived : List ℕ) → HoldsAfter first (out_view g.K.Sink l.fn.place) arrived (aligner_state l.fn.aligner) l.fn.aligner.frames l.fn.reader l.fn.lines
      → HoldsAfter first (out_view g.K.Sink l.place) (arrived ++ take l.done l.bytes) (aligner_state l.aligner) l.aligner.frames l.reader l.lines;
}

abbrev pub decreases-loop-done : goal.decreases-loop-done
decreases-loop-done g l = length l.bytes - l.done
