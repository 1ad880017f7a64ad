-- What a number that a call answers says of what was answered.
use Rattle.std.proofs.Common.{◌≡◌, ◌≢◌, Option, None, Some, Result, Ok, Err, refl, ap}
use Rattle.otn_base.specs.declared.memory.Memory.{Memory}
use Rattle.live_node.specs.declared.live_node.Turned.{Turned}
use Rattle.live_node.specs.declared.live_node.Turned.TheVariants as turned
use Rattle.live_node.specs.declared.places.HandedIn.{HandedIn}
use Rattle.live_node.specs.declared.places.HandedIn.TheVariants as handed
use Rattle.live_calls.specs.declared.held.HeldNode.{HeldNode}
use Rattle.node_handle.specs.Calls.{IsNew, Moves, Owns}
use Rattle.node_handle.specs.Codes.{done, handed_code, no_memory, over, turned_code}

-- the number of bytes taken, and of a turn done
pub is_taken : (answer : Result HandedIn Memory) → handed_code answer ≡ done → answer ≡ Ok handed.Taken
is_taken (Ok handed.Taken) e = refl
is_taken (Ok handed.NoInput) e = cc
is_taken (Ok handed.NotWhole) e = cc
is_taken (Err memory) e = cc

pub is_done : (answer : Result Turned Memory) → turned_code answer ≡ done → answer ≡ Ok turned.Done
is_done (Ok turned.Done) e = refl
is_done (Ok (turned.Waits port)) e = cc
is_done (Ok turned.Over) e = cc
is_done (Err memory) e = cc

-- another number than that of bytes taken
pub not_taken : (answer : Result HandedIn Memory) → handed_code answer ≢ done → answer ≢ Ok handed.Taken
not_taken answer not e = not (ap handed_code e)

-- another number than those of a turn done, and of no memory
pub not_done : (answer : Result Turned Memory) (P : Type 0) → ((it : Turned) → answer ≡ Ok it → it ≢ turned.Done → P)
    → turned_code answer ≢ done → turned_code answer ≢ no_memory → P
not_done (Ok turned.Done) P still one two = absurd (one refl)
not_done (Ok (turned.Waits port)) P still one two = still (turned.Waits port) refl (λ e. cc)
not_done (Ok turned.Over) P still one two = still turned.Over refl (λ e. cc)
not_done (Err memory) P still one two = absurd (two refl)

-- the number of turns that are over
pub is_over : (answer : Result Turned Memory) → turned_code answer ≡ over → answer ≡ Ok turned.Over
is_over (Ok turned.Done) e = cc
is_over (Ok (turned.Waits port)) e = cc
is_over (Ok turned.Over) e = refl
is_over (Err memory) e = cc

-- a handle owns a node
pub owns : (P : HeldNode → Type 0) (handle : Option HeldNode) (held : HeldNode) → handle ≡ Some held → P held → Owns P handle
owns P handle held owned is = record { held = held; owned = owned; is = is }

-- a node was put into an empty handle
pub is_new : (P : HeldNode → Type 0) (old new : Option HeldNode) (node : HeldNode) → old ≡ None → new ≡ Some node → P node → IsNew P old new
is_new P old new node before after is = record { node = node; before = before; after = after; is = is }

-- a node went on
pub moved : (R : HeldNode → HeldNode → Type 0) (old new : Option HeldNode) (was is : HeldNode) → old ≡ Some was → new ≡ Some is → R was is → Moves R old new
moved R old new was is before after does = record { was = was; is = is; before = before; after = after; does = does }
