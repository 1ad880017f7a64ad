-- API: what is seen of a bounded sink.
use Rattle.std.specs.Prelude.{ℕ, List}
use Rattle.port_base.specs.Memory.{memory_got, memory_faults}
use Rattle.bounded_ports.specs.declared.bounded_sink.BoundedSink.{BoundedSink}

-- the bytes that it got
abbrev pub bounded_got : {room : ℕ} → BoundedSink room → List ℕ
bounded_got sink = memory_got sink.memory

-- how often it was full
abbrev pub bounded_faults : {room : ℕ} → BoundedSink room → ℕ
bounded_faults sink = memory_faults sink.memory
