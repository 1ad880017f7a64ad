use Rattle.std.proofs.Common.{◌≡◌, take}
use Rattle.pcap_packets.specs.Written.{all_lower}
use Rattle.pcap_packets.proofs.leading.all_digits.Given as goal

abbrev pub invariant-loop-byte : goal.invariant-loop-byte
invariant-loop-byte l = record { all : l.all ≡ all_lower (take l.byte-index l.bytes) }
