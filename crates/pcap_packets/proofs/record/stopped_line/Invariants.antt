use Rattle.std.proofs.Common.{◌≡◌, ◌<◌, ◌≤◌, ◌+◌, ℕ, List, length, drop}
use Rattle.pcap_packets.specs.Written.{digits_in_front}
use Rattle.pcap_packets.specs.Steps.Gathering.{IsCut}
use Rattle.pcap_packets.proofs.ManyLines.{Within}
use Rattle.pcap_packets.proofs.record.stopped_line.Given as goal

abbrev pub invariant-loop-count : goal.invariant-loop-count
invariant-loop-count l = record {
  walked : (all : List (List ℕ)) → IsCut all l.lines l.fn.sent → Within all l.lines l.fn.sent l.done l.left;
  next : l.count ≡ digits_in_front (drop l.done l.lines);
  some : 0 < l.count;
  room : l.done + (l.count + 1) ≤ length l.lines;
}

abbrev pub decreases-loop-count : goal.decreases-loop-count
decreases-loop-count l = l.left
