use Rattle.std.proofs.Common.{length, ◌-◌, ◌≡◌, ◌≤◌, take}
use Rattle.std.specs.Io.KnownBytes.{Appends}
use Rattle.otn_ports.specs.Adapters.{writer_faults, has_writer, writer_bytes}
use Rattle.otn_ports.proofs.writer_sink.WriterSink.write_on.Given as goal

abbrev pub invariant-loop-done : goal.invariant-loop-done
invariant-loop-done g l = record {
  within : l.done ≤ length l.bytes;
  system : Appends (writer_bytes g.W.Write.contents l.fn.self) (writer_bytes g.W.Write.contents l.self) (take l.done l.bytes);
  well : writer_faults l.self ≡ writer_faults l.fn.self;
  later : writer_faults l.fn.self ≤ writer_faults l.self;
  writer : has_writer l.self ≡ has_writer l.fn.self;
}

abbrev pub decreases-loop-done : goal.decreases-loop-done
decreases-loop-done g l = length l.bytes - l.done
