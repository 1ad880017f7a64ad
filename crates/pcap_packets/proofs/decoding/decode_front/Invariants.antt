use Rattle.std.proofs.Common.{◌≡◌, ◌-◌, ◌%◌, length}
use Rattle.pcap_packets.specs.Decoding.{Decoded}
use Rattle.pcap_packets.proofs.decoding.decode_front.Given as goal

abbrev pub invariant-loop-count : goal.invariant-loop-count
invariant-loop-count l = record {
  decoded : Decoded l.text l.count l.fn.buffer l.buffer l.at;
  even : l.count % 2 ≡ 0;
}

abbrev pub decreases-loop-count : goal.decreases-loop-count
decreases-loop-count l = length l.text - l.count
