-- API: what a source over a reader has read ahead of what it gave.
use Rattle.std.specs.Prelude.{◌≡◌, ◌≢◌, ◌<◌, ◌≤◌, ◌-◌, ℕ, ⊤, List, [], ◌∷◌, take, drop, Option, None, Some, IfSome, Result, IsErr, Vec, vec_len}
use Rattle.std.specs.declared.io.ErrorKind.{ErrorKind}
use Rattle.std.specs.declared.io.ErrorKind.TheVariants.{Interrupted}
use Rattle.port_base.specs.declared.source.Failed.{Failed}

-- the bytes at hand, and why its reader refused to give more, where it did and no read has answered so yet
pub record ReadAhead : Type 0 where
  pub bytes : List ℕ
  pub refused : Option ErrorKind

-- nothing is read ahead
abbrev pub nothing_ahead : ReadAhead
nothing_ahead = record { bytes = []; refused = None }

-- the bytes of a block from one place up to another; none where there is no block
abbrev pub part_of : {A : Type 0} → Option (Vec ℕ A) → ℕ → ℕ → List ℕ
part_of None from to = []
part_of (Some block) from to = take (to - from) (drop from block.items)

-- these places are in order, and in the block, which has room
abbrev pub IsWithin : {A : Type 0} → Option (Vec ℕ A) → ℕ → ℕ → Type 0
IsWithin None from to = ⊤
IsWithin (Some block) from to = (from ≤ to) × (to ≤ vec_len block) × (0 < vec_len block)

-- a refusal is a fault: a signal that interrupts a call is none
abbrev pub IsRefusal : Option ErrorKind → Type 0
IsRefusal None = ⊤
IsRefusal (Some kind) = kind ≢ Interrupted

-- what a read makes of a refusal that stands: it answers the refusal, once; but bytes at hand come first
abbrev pub RefusalAfter : Option ErrorKind → List ℕ → Result ℕ Failed → Option ErrorKind → Option ErrorKind → Type 0
RefusalAfter refused [] result fault left = IfSome refused (λ kind. IsErr result × (fault ≡ Some kind)) × (left ≡ None)
RefusalAfter refused (byte ∷ bytes) result fault left = left ≡ refused
