use Rattle.std.proofs.Common.{rules}
use Rattle.frame_geometry.specs.Loans.{after_loan}
use Rattle.frame_geometry.proofs.frame.Frame.as_bytes_mut.Goals as goal

pub returns : goal.returns
unfolding after_loan
returns g c = search rules
