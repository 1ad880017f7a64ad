-- API: what is seen of the ports of a trial: how often each has failed, and of an input whether it has answered that it
-- ended. They tell no bytes.
use Rattle.std.specs.Prelude.{ℕ, Bool}
use Rattle.otn_ports.specs.Listed.{listed_ended, read_faults}
use Rattle.pcap_packets.specs.Captures.{capture_ended, capture_faults}
use Rattle.hostile_ports.specs.declared.ports.InputSource.{InputSource}
use Rattle.hostile_ports.specs.declared.ports.InputSource.TheVariants as source
use Rattle.hostile_ports.specs.declared.ports.InputPort.{InputPort}
use Rattle.hostile_ports.specs.declared.ports.OutputFile.{OutputFile}

-- how often what an input reads has failed
abbrev pub source_faults : InputSource → ℕ
source_faults (source.Plain s) = read_faults s
source_faults (source.Capture s) = capture_faults read_faults s

-- whether it has answered that it ended
abbrev pub source_ended : InputSource → Bool
source_ended (source.Plain s) = listed_ended s
source_ended (source.Capture s) = capture_ended s

-- how often an input has failed
abbrev pub input_faults : InputPort → ℕ
input_faults port = source_faults port.source

-- whether an input has answered that it ended
abbrev pub input_ended : InputPort → Bool
input_ended port = source_ended port.source

-- how often the file of an output has failed
abbrev pub file_faults : OutputFile → ℕ
file_faults port = port.failed
