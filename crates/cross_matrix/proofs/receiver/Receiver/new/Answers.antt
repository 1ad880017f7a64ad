use Rattle.odu_client.specs.View.{aligner_state}
use Rattle.cross_matrix.proofs.Runs.{stands_none}
use Rattle.cross_matrix.proofs.receiver.Receiver.new.Goals as goal

pub returns : goal.returns
returns c = λ first.
    let aligner = c.in_ok-new.field-0 in
    let lines = c.in_ok-new-3.field-0 in
    stands_none first (aligner_state aligner) c.in_ok-new-2.field-0 aligner.frames lines.packets c.in_ok-new.ensures.aligned c.in_ok-new-2.ensures.read c.in_ok-new.ensures.frames c.in_ok-new-3.ensures.packets
