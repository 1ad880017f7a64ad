-- API: what a handle owns: at null nothing, and else the box at its pointer.
use Rattle.std.specs.Prelude.{◌≡◌, Option, Some, None}
use base.Fml.{Fml, ftrue, fex}
use base.Stored.{Coded}
use denote.RawPtr.{Ptr, block_ptr, null_ptr}
use Rattle.std.specs.Box.Ownership.{box_owns}
use Rattle.std.specs.Global.{Global}
use Rattle.std_heap.specs.contracts.GlobalAllocator.TheImpl.{ghosts}
use Rattle.live_calls.specs.contracts.held.HeldNode.{the_row}

-- a box with this node at the pointer
abbrev pub boxed : Global → Ptr → the_row.Denot → Fml
boxed alloc = box_owns (ghosts.dealloc_token alloc) the_row

-- what a handle owns, by its pointer: it is empty at null
abbrev pub handle_owns : Global → Ptr → Option the_row.Denot → Fml
handle_owns alloc null_ptr value = fex (value ≡ None) (λ _. ftrue)
handle_owns alloc (block_ptr b o) value =
    fex the_row.Denot (λ x. fex (value ≡ Some x) (λ _. boxed alloc (block_ptr b o) x))

-- how the logic stores a node
abbrev pub node_coded : Coded the_row.Denot
node_coded = the_row.coded
