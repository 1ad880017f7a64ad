-- API: the meanings of what a place of a node holds are those of the port at the edge, or of the end of a fibre.
use Rattle.std.specs.Prelude.{ℕ, Bool, false, List, [], Option, Some}
use Rattle.filled_ports.specs.Filled.{filled_left, filled_ended}
use Rattle.network_run.specs.FibreSinks.{fibre_got, fibre_faults}
use Rattle.network_run.specs.declared.ports.NetIn.{NetIn}
use Rattle.network_run.specs.declared.ports.NetIn.TheVariants as input
use Rattle.network_run.specs.declared.ports.NetOut.{NetOut}
use Rattle.network_run.specs.declared.ports.NetOut.TheVariants as output

-- ---- inputs

-- the bytes still to come; of a fibre those that were handed over and not taken yet
abbrev pub edge_left : {P : Type 0} → (P → Option (List ℕ)) → NetIn P → Option (List ℕ)
edge_left left (input.Edge source) = left source
edge_left left (input.Fibre source) = Some (filled_left source)

-- whether it has answered that it ended
abbrev pub edge_ended : {P : Type 0} → (P → Bool) → NetIn P → Bool
edge_ended ended (input.Edge source) = ended source
edge_ended ended (input.Fibre source) = filled_ended source

-- the bytes at hand: a fibre has none
abbrev pub edge_at_hand : {P : Type 0} → (P → List ℕ) → NetIn P → List ℕ
edge_at_hand at_hand (input.Edge source) = at_hand source
edge_at_hand at_hand (input.Fibre source) = []

-- how often it failed: a fibre never does
abbrev pub edge_faults : {P : Type 0} → (P → ℕ) → NetIn P → ℕ
edge_faults faults (input.Edge source) = faults source
edge_faults faults (input.Fibre source) = 0

abbrev pub is_edge_boxed : {P : Type 0} → (P → Bool) → NetIn P → Bool
is_edge_boxed boxed (input.Edge source) = boxed source
is_edge_boxed boxed (input.Fibre source) = false

-- ---- outputs

-- the bytes that it got
abbrev pub edge_got : {K : Type 0} → (K → Option (List ℕ)) → NetOut K → Option (List ℕ)
edge_got got (output.Edge sink) = got sink
edge_got got (output.Fibre sink) = Some (fibre_got sink)

abbrev pub edge_out_faults : {K : Type 0} → (K → ℕ) → NetOut K → ℕ
edge_out_faults faults (output.Edge sink) = faults sink
edge_out_faults faults (output.Fibre sink) = fibre_faults sink

-- whether it gives back what it got: a fibre does not
abbrev pub edge_keeps : {K : Type 0} → (K → Bool) → NetOut K → Bool
edge_keeps keeps (output.Edge sink) = keeps sink
edge_keeps keeps (output.Fibre sink) = false

abbrev pub is_edge_out_boxed : {K : Type 0} → (K → Bool) → NetOut K → Bool
is_edge_out_boxed boxed (output.Edge sink) = boxed sink
is_edge_out_boxed boxed (output.Fibre sink) = false
