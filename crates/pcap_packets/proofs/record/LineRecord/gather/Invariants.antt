use Rattle.std.proofs.Common.{◌≡◌, ◌≤◌, ◌+◌, ◌-◌, [], length, take}
use Rattle.pcap_packets.specs.HeldBytes.{held}
use Rattle.pcap_packets.specs.Steps.Gathering.{Gathered}
use Rattle.pcap_packets.proofs.record.LineRecord.gather.Given as goal

abbrev pub invariant-loop-more : goal.invariant-loop-more
invariant-loop-more l = record {
  within : l.done + l.more ≤ length l.bytes;
  gathered : Gathered (take (l.done + l.more) l.bytes) (held l.self.rest);
  line : held l.self.line ≡ [];
  front : l.self.rest.at ≡ 0;
  begun : l.self.begun ≡ l.fn.self.begun;
}

abbrev pub decreases-loop-more : goal.decreases-loop-more
decreases-loop-more l = length l.bytes - l.done
