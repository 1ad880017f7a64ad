-- API: the meanings of a file's port are those of what it holds.
use Rattle.std.specs.Prelude.{ℕ, Bool, false, List, [], Option}
use Rattle.port_base.specs.declared.sink.Sink.{Ghosts}
use Rattle.pcap_packets.specs.Captures.{capture_left, capture_ended, capture_faults}
use Rattle.pcap_packets.specs.Sinks.{written_got, written_faults}
use Rattle.program_words.specs.declared.ports.InputPort.{InputPort}
use Rattle.program_words.specs.declared.ports.InputPort.TheVariants as input
use Rattle.program_words.specs.declared.ports.OutputPort.{OutputPort}
use Rattle.program_words.specs.declared.ports.OutputPort.TheVariants as output

-- the bytes still to come, of a capture those of its text
abbrev pub input_left : {S : Type 0} → (S → Option (List ℕ)) → InputPort S → Option (List ℕ)
input_left left (input.Plain source) = left source
input_left left (input.Capture source) = capture_left left source

-- the bytes at hand: a capture has none
abbrev pub input_at_hand : {S : Type 0} → (S → List ℕ) → InputPort S → List ℕ
input_at_hand at_hand (input.Plain source) = at_hand source
input_at_hand at_hand (input.Capture source) = []

-- whether it has answered that it ended
abbrev pub input_ended : {S : Type 0} → (S → Bool) → InputPort S → Bool
input_ended ended (input.Plain source) = ended source
input_ended ended (input.Capture source) = capture_ended source

abbrev pub input_faults : {S : Type 0} → (S → ℕ) → InputPort S → ℕ
input_faults faults (input.Plain source) = faults source
input_faults faults (input.Capture source) = capture_faults faults source

abbrev pub is_input_boxed : {S : Type 0} → (S → Bool) → InputPort S → Bool
is_input_boxed boxed (input.Plain source) = boxed source
is_input_boxed boxed (input.Capture source) = false

-- the bytes that came, of a capture its text
abbrev pub output_got : {S : Type 0} {g : Ghosts S} → (S → Option (List ℕ)) → OutputPort S g → Option (List ℕ)
output_got got (output.Plain sink) = got sink
output_got got (output.Capture sink) = written_got got sink

abbrev pub output_faults : {S : Type 0} {g : Ghosts S} → (S → ℕ) → OutputPort S g → ℕ
output_faults faults (output.Plain sink) = faults sink
output_faults faults (output.Capture sink) = written_faults faults sink

abbrev pub output_keeps : {S : Type 0} {g : Ghosts S} → (S → Bool) → OutputPort S g → Bool
output_keeps keeps (output.Plain sink) = keeps sink
output_keeps keeps (output.Capture sink) = false

abbrev pub is_output_boxed : {S : Type 0} {g : Ghosts S} → (S → Bool) → OutputPort S g → Bool
is_output_boxed boxed (output.Plain sink) = boxed sink
is_output_boxed boxed (output.Capture sink) = false
