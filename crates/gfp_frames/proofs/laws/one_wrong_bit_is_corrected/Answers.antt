use Rattle.gfp_frames.proofs.Near.{near_corrected, near_none}
use Rattle.gfp_frames.proofs.laws.one_wrong_bit_is_corrected.Goals as goal

pub returns-clause-corrected : goal.returns-clause-corrected
returns-clause-corrected c = near_corrected

pub returns-clause-refused : goal.returns-clause-refused
returns-clause-refused c = near_none
