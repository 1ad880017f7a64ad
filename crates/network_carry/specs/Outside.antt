-- API: the ends of a fibre that is cut: what goes over it, and the meanings of ports outside a network, of which some
-- are such ends.
use Rattle.std.specs.Prelude.{ℕ, ◌+◌, ◌/◌, Bool, false, List, [], drop, length, replicate, Option, None, if◌then◌else◌}
use Rattle.network_file.specs.Cuts.{is_dark}
use Rattle.network_carry.specs.declared.cut_ends.CutSink.{CutSink}
use Rattle.network_carry.specs.declared.cut_ends.CutSource.{CutSource}
use Rattle.network_carry.specs.declared.outside.Outside.{Outside}
use Rattle.network_carry.specs.declared.outside.Outside.TheVariants as input
use Rattle.network_carry.specs.declared.outside.OutsideSink.{OutsideSink}
use Rattle.network_carry.specs.declared.outside.OutsideSink.TheVariants as output
use Rattle.network_carry.specs.declared.passing.Passing.{Passing}

-- ---- over the fibre

-- what comes of bytes that are written: in a dark turn zeros, as many
abbrev pub passed : (dark : Bool) → List ℕ → List ℕ
passed dark bytes = if dark then replicate (length bytes) 0 else bytes

-- the bytes that came and were not taken yet
abbrev pub passing_left : Passing → List ℕ
passing_left passing = drop passing.at passing.bytes.items

-- ---- its ends: they tell no bytes

-- the turn in which the next byte is written, from 1
abbrev pub turn_of : CutSink → ℕ
turn_of sink = sink.total / sink.turn_bytes + 1

-- whether it is dark then
abbrev pub is_dark_at : CutSink → Bool
is_dark_at sink = is_dark sink.cuts sink.number (turn_of sink)

abbrev pub cut_got_faults : CutSink → ℕ
cut_got_faults sink = sink.failed

abbrev pub cut_faults : CutSource → ℕ
cut_faults source = source.failed

-- whether it has answered that it ended
abbrev pub cut_ended : CutSource → Bool
cut_ended source = source.ended

-- ---- ports outside: each meaning is that of the port, or of the end of a cut fibre

abbrev pub outside_left : {P : Type 0} → (P → Option (List ℕ)) → Outside P → Option (List ℕ)
outside_left left (input.Port source) = left source
outside_left left (input.Cut source) = None

abbrev pub outside_ended : {P : Type 0} → (P → Bool) → Outside P → Bool
outside_ended ended (input.Port source) = ended source
outside_ended ended (input.Cut source) = cut_ended source

abbrev pub outside_at_hand : {P : Type 0} → (P → List ℕ) → Outside P → List ℕ
outside_at_hand at_hand (input.Port source) = at_hand source
outside_at_hand at_hand (input.Cut source) = []

abbrev pub outside_faults : {P : Type 0} → (P → ℕ) → Outside P → ℕ
outside_faults faults (input.Port source) = faults source
outside_faults faults (input.Cut source) = cut_faults source

abbrev pub is_outside_boxed : {P : Type 0} → (P → Bool) → Outside P → Bool
is_outside_boxed boxed (input.Port source) = boxed source
is_outside_boxed boxed (input.Cut source) = false

abbrev pub outside_got : {K : Type 0} → (K → Option (List ℕ)) → OutsideSink K → Option (List ℕ)
outside_got got (output.Port sink) = got sink
outside_got got (output.Cut sink) = None

abbrev pub outside_out_faults : {K : Type 0} → (K → ℕ) → OutsideSink K → ℕ
outside_out_faults faults (output.Port sink) = faults sink
outside_out_faults faults (output.Cut sink) = cut_got_faults sink

abbrev pub outside_keeps : {K : Type 0} → (K → Bool) → OutsideSink K → Bool
outside_keeps keeps (output.Port sink) = keeps sink
outside_keeps keeps (output.Cut sink) = false

abbrev pub is_outside_out_boxed : {K : Type 0} → (K → Bool) → OutsideSink K → Bool
is_outside_out_boxed boxed (output.Port sink) = boxed sink
is_outside_out_boxed boxed (output.Cut sink) = false
