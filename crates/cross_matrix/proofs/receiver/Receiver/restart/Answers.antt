use Rattle.odu_client.specs.View.{aligner_state}
use Rattle.cross_matrix.proofs.Runs.{stands_none}
use Rattle.cross_matrix.proofs.receiver.Receiver.restart.Goals as goal

pub returns : goal.returns
returns c = λ first.
    let aligner = c.restart.new.self in
    stands_none first (aligner_state aligner) c.restart-2.new.self aligner.frames c.restart-3.new.self.packets c.restart.ensures.aligned c.restart-2.ensures.read c.restart.ensures.frames c.restart-3.ensures.packets
