use Rattle.std.proofs.Common.{◌≡◌, ◌+◌, ◌*◌, ◌++◌, length, take}
use Rattle.frame_geometry.specs.Places.{payload_row_of}
use Rattle.otn_base.specs.LineSlots.{slots_of}
use Rattle.odtu_columns.specs.Payload.{run_groups}
use Rattle.trib_sink.proofs.extract.put_few.Given as goal

-- the cycles so far
abbrev pub invariant-loop-i : goal.invariant-loop-i
invariant-loop-i g l = record {
  end : l.end ≡ l.at + length l.slots.list * l.i;
  bytes : take l.end l.into ≡ take l.at l.fn.into ++ run_groups (slots_of l.slots.kind) (payload_row_of 4080 l.row (g.F.TakeFrame.bytes l.frame)) l.slots.list l.first l.i;
}
