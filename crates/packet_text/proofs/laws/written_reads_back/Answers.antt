use Rattle.packet_text.proofs.ReadingBack.{reads_back}
use Rattle.packet_text.proofs.laws.written_reads_back.Goals as goal

pub returns : goal.returns
returns c = reads_back
