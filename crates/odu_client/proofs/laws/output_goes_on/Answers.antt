use Rattle.odu_client.proofs.PuttingOut.{output_starts, output_goes_on, output_goes_on_by_byte, output_text_goes_on, frames_go_on}
use Rattle.odu_client.proofs.laws.output_goes_on.Goals as goal

pub returns-clause-starts : goal.returns-clause-starts
returns-clause-starts c = output_starts

pub returns-clause-bytes : goal.returns-clause-bytes
returns-clause-bytes c = output_goes_on

pub returns-clause-byte : goal.returns-clause-byte
returns-clause-byte c = output_goes_on_by_byte

pub returns-clause-text : goal.returns-clause-text
returns-clause-text c = output_text_goes_on

pub returns-clause-frames : goal.returns-clause-frames
returns-clause-frames c = frames_go_on
