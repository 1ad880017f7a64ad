-- API: the meanings of a port are those of what it holds.
use Rattle.std.specs.Prelude.{ℕ, List, [], Option, Some, Bool, true, false}
use Rattle.std.specs.declared.alloc.Global.{Global}
use Rattle.std.specs.declared.dyn_box.DynBox.{DynBox}
use Rattle.port_base.specs.Memory.{memory_left, memory_ended, memory_got, memory_room, memory_faults}
use Rattle.port_base.specs.declared.in_port.InPort.{InPort}
use Rattle.port_base.specs.declared.in_port.InPort.TheVariants as input
use Rattle.port_base.specs.declared.out_port.OutPort.{OutPort}
use Rattle.port_base.specs.declared.out_port.OutPort.TheVariants as output

-- the bytes still to come of what an input port holds, where that tells them
abbrev pub in_left : {X : Type 0} {F : X → Type 0} → (DynBox X Global F → Option (List ℕ)) → InPort X F
    → Option (List ℕ)
in_left left (input.Boxed b) = left b
in_left left (input.Held m) = Some (memory_left m)

-- the bytes that what an input port holds has at hand: a source in memory has none
abbrev pub in_at_hand : {X : Type 0} {F : X → Type 0} → (DynBox X Global F → List ℕ) → InPort X F → List ℕ
in_at_hand at_hand (input.Boxed b) = at_hand b
in_at_hand at_hand (input.Held m) = []

-- whether what an input port holds has answered that it ended
abbrev pub in_ended : {X : Type 0} {F : X → Type 0} → (DynBox X Global F → Bool) → InPort X F → Bool
in_ended ended (input.Boxed b) = ended b
in_ended ended (input.Held m) = memory_ended m

-- the bytes still to come of a port in memory
abbrev pub held_left : {X : Type 0} {F : X → Type 0} → InPort X F → List ℕ
held_left (input.Boxed b) = []
held_left (input.Held m) = memory_left m

-- the count of faults of what it holds: a source in memory has none
abbrev pub in_faults : {X : Type 0} {F : X → Type 0} → (DynBox X Global F → ℕ) → InPort X F → ℕ
in_faults faults (input.Boxed b) = faults b
in_faults faults (input.Held m) = 0

-- whether it holds a box
abbrev pub is_in_boxed : {X : Type 0} {F : X → Type 0} → InPort X F → Bool
is_in_boxed (input.Boxed b) = true
is_in_boxed (input.Held m) = false

-- the bytes that what an output port holds got, where that tells them
abbrev pub out_got : {X : Type 0} {F : X → Type 0} → (DynBox X Global F → Option (List ℕ)) → OutPort X F
    → Option (List ℕ)
out_got got (output.Boxed b) = got b
out_got got (output.Held m) = Some (memory_got m)

-- how many bytes a port in memory has room for yet
abbrev pub held_room : {X : Type 0} {F : X → Type 0} → OutPort X F → ℕ
held_room (output.Boxed b) = 0
held_room (output.Held m) = memory_room m

-- the count of faults of what it holds
abbrev pub out_faults : {X : Type 0} {F : X → Type 0} → (DynBox X Global F → ℕ) → OutPort X F → ℕ
out_faults faults (output.Boxed b) = faults b
out_faults faults (output.Held m) = memory_faults m

-- whether what it holds gives back what it got, as a sink in memory does
abbrev pub out_keeps : {X : Type 0} {F : X → Type 0} → (DynBox X Global F → Bool) → OutPort X F → Bool
out_keeps keeps (output.Boxed b) = keeps b
out_keeps keeps (output.Held m) = true

-- whether it holds a box
abbrev pub is_out_boxed : {X : Type 0} {F : X → Type 0} → OutPort X F → Bool
is_out_boxed (output.Boxed b) = true
is_out_boxed (output.Held m) = false
