use Rattle.std.proofs.Common.{ap, sym}
use Rattle.otn_base.specs.Counts.{saturated}
use Rattle.frame_overhead.proofs.Sent.{none_wrong}
use Rattle.frame_overhead.proofs.check.ParityCheck.new.Goals as goal

pub returns : goal.returns
returns c = λ cols row col. record { kept = c.new.ensures cols; wrong = sym (ap saturated (none_wrong cols row col)) }
