use Rattle.std.proofs.Common.{◌≡◌, ◌≤◌, ◌-◌, ℕ, List, length, take}
use Rattle.odu_client.specs.Aligner.{HasAligned, AlignsBy}
use Rattle.odu_client.specs.View.{aligner_state, handed}
use Rattle.odu_client.specs.declared.aligned.Aligned.TheVariants.{Nothing}
use Rattle.odu_client.proofs.aligner.ClientAligner.take_some.Given as goal

abbrev pub invariant-loop-done : goal.invariant-loop-done
invariant-loop-done l = record {
  within : l.done ≤ length l.bytes;
  aligned : (read : List ℕ) → HasAligned read (aligner_state l.fn.self) → AlignsBy read (take l.done l.bytes) Nothing (handed l.self) (aligner_state l.self);
  kept : handed l.self ≡ handed l.fn.self;
  frames : l.self.frames ≡ l.fn.self.frames;
}

abbrev pub decreases-loop-done : goal.decreases-loop-done
decreases-loop-done l = length l.bytes - l.done
