use Rattle.std.proofs.Common.{◌≡◌, ◌+◌, ◌-◌, ◌*◌, ◌≤◌, ◌++◌, length, take}
use Rattle.frame_geometry.specs.Places.{payload_row_of}
use Rattle.otn_base.specs.LineSlots.{slots_of}
use Rattle.trib_sink.specs.Steps.Rows.{row_data}
use Rattle.trib_sink.proofs.extract.take_row.Given as goal

abbrev pub invariant-loop-cycle : goal.invariant-loop-cycle
invariant-loop-cycle g l = record {
  cycles : l.cycle ≤ l.groups;
  runner : l.runner ≡ record l.initial.runner { asked = l.initial.runner.asked + l.cycle };
  few : l.end ≤ l.at + length l.slots.list * l.cycle;
  bytes : take l.end l.into ≡ take l.at l.initial.into ++ row_data (slots_of l.slots.kind) l.initial.runner.cm l.initial.runner.asked (payload_row_of 4080 l.row (g.F.TakeFrame.bytes l.frame)) l.slots.list l.cycle;
}

abbrev pub decreases-loop-cycle : goal.decreases-loop-cycle
decreases-loop-cycle g l = l.groups - l.cycle
