use Rattle.std.proofs.Common.{refl}
use Rattle.crc_small.specs.Steps.Shifted.{take_in, after_byte}
use Rattle.crc_small.specs.LongDivision.{low_bits}
use Rattle.crc_small.specs.Steps.Folding.{after_some, sum_at, pending}
use Rattle.crc_small.proofs.long_message.Window.start.Goals as goal

pub returns-clause-ones : goal.returns-clause-ones
unfolding pending after_some sum_at after_byte take_in low_bits
returns-clause-ones c = refl
