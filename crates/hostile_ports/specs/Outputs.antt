-- API: how often an output has failed: its file, and where it is a capture, the capture by itself.
use Rattle.std.specs.Prelude.{ℕ}
use Rattle.pcap_packets.specs.Sinks.{written_faults}
use Rattle.hostile_ports.specs.Ports.{file_faults}
use Rattle.hostile_ports.specs.declared.ports.OutputSink.{OutputSink}
use Rattle.hostile_ports.specs.declared.ports.OutputSink.TheVariants as sink
use Rattle.hostile_ports.specs.declared.ports.OutputPort.{OutputPort}

-- how often what an output writes to has failed
abbrev pub sink_faults : OutputSink → ℕ
sink_faults (sink.Plain s) = file_faults s
sink_faults (sink.Capture s) = written_faults file_faults s

-- how often an output has failed
abbrev pub output_faults : OutputPort → ℕ
output_faults port = sink_faults port.sink
