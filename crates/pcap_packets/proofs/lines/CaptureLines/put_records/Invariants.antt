use Rattle.std.proofs.Common.{◌≡◌, ◌≤◌, ◌-◌, ◌++◌, ℕ, List, [], length, take}
use Rattle.pcap_packets.specs.HeldBytes.{held}
use Rattle.pcap_packets.specs.Captures.{lines_left}
use Rattle.pcap_packets.specs.declared.lines.Stage.TheVariants.{Records}
use Rattle.pcap_packets.proofs.lines.CaptureLines.put_records.Given as goal

abbrev pub invariant-loop-order : goal.invariant-loop-order
invariant-loop-order l = record {
  within : l.done ≤ length l.into;
  bytes : (coming : List ℕ) → lines_left l.fn.self coming ≡ take l.done l.into ++ lines_left l.self coming;
  records : l.self.stage ≡ Records l.order;
  empty : held l.self.line ≡ [];
}

abbrev pub decreases-loop-order : goal.decreases-loop-order
decreases-loop-order l = length l.initial.into - l.done
