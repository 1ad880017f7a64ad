use Rattle.pcap_packets.proofs.DecodedDigits.{decoded_last}
use Rattle.pcap_packets.proofs.decoding.decode_last.Goals as goal

pub returns : goal.returns
returns c = decoded_last c.args.text.now c.copy_from_slice.new.self c.args.buffer.now c.decode_some.new.buffer c.args.at c.decode_some.result c.requires.text c.copy_from_slice.ensures.after c.decode_some.ensures.decoded
