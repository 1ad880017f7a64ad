use Rattle.pcap_packets.proofs.DecodedDigits.{decoded_none}
use Rattle.pcap_packets.proofs.decoding.decode_some.Goals as goal

pub returns-then-buffer-at-lt-BLOCK_BYTES-clause-decoded : goal.returns-then-buffer-at-lt-BLOCK_BYTES-clause-decoded
returns-then-buffer-at-lt-BLOCK_BYTES-clause-decoded c = decoded_none c.args.text.now c.args.buffer.now c.args.at c.requires.at
