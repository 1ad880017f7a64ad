use Rattle.gfp_frames.proofs.BitLists.{made_of_bits, read_of_bits}
use Rattle.gfp_frames.proofs.laws.areas_are_one_list_of_bits.Goals as goal

pub returns-clause-made : goal.returns-clause-made
returns-clause-made c = made_of_bits

pub returns-clause-read : goal.returns-clause-read
returns-clause-read c = read_of_bits
