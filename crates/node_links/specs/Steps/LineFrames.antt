-- Steps of `slot_map`, `allot_own` and others: what private contracts alone cite, beside the definitions of
-- `LineFrames`.
use Rattle.std.specs.Prelude.{◌≡◌, ◌<◌, ◌≤◌, ℕ, suc, Bool, true, false, List, [], ◌∷◌, slice_index}
use Rattle.otn_base.specs.LineSlots.{LineSlots, slots_of}
use Rattle.otn_base.specs.declared.line_kind.LineKind.{LineKind}
use Rattle.msi_table.specs.Psi.{IsGiven}
use Rattle.plan_file.specs.declared.connection.Connection.{Connection}
use Rattle.plan_file.specs.declared.connection.ToEnd.TheVariants as to_end
use Rattle.tributary_model.specs.Places.{Taken, tributary_of}
use Rattle.tributary_model.specs.Puts.{WasPut}
use Rattle.device_model.specs.Through.{OwnInput, got_by}
use Rattle.cross_matrix.specs.Pipes.{PipeStands}
use Rattle.node_links.specs.declared.link.Link.{Link}

-- from one list to another by one step for each connection, in their order
abbrev pub LinkByLink : (Step : Link → List ℕ → List ℕ → Type 0) → List Link → (old new : List ℕ) → Type 0
LinkByLink Step [] old new = new ≡ old
LinkByLink Step (link ∷ links) old new = (next : List ℕ) × (Step link old next × LinkByLink Step links next new)

-- What a connection puts into a frame: nothing where it does not give to the line; else its own part of the next frame
-- of its turn.
pub record PutsOwn (gives : Bool) (link : Link) (before now : List ℕ) : Type 0 where
  pub other : gives ≡ false → now ≡ before
  pub put : gives ≡ true → (x : Connection) (b number : ℕ) (slots : LineSlots) (input : OwnInput) (j n : ℕ)
      (frames : List Taken) (ended : Bool) → x.to ≡ to_end.Line b number slots
      → n < slots_of slots.kind → PipeStands x input j frames ended n link.pipe
      → WasPut (tributary_of slots number) (got_by x input (suc j)) j n before now

-- What a connection does to the ports of the slots of a line of this kind: nothing where it does not give to the line;
-- else its slots, which are of such a line, get its tributary port, which is one of the line's.
pub record AllotsOwn (kind : LineKind) (gives : Bool) (link : Link) (before now : List ℕ) : Type 0 where
  pub other : gives ≡ false → now ≡ before
  pub given : gives ≡ true → (b number : ℕ) (slots : LineSlots) → link.entry.to ≡ to_end.Line b number slots
      → slots.kind ≡ kind → 1 ≤ number → number ≤ slots_of kind
      → IsGiven slots.list number before now

-- every byte is 0, or every slot is free
pub record IsBlank (list : List ℕ) : Type 0 where
  pub zero : (i : ℕ) → slice_index list i ≡ 0

-- from a blank list
pub record FromBlank (Step : Link → List ℕ → List ℕ → Type 0) (links : List Link) (new : List ℕ) : Type 0 where
  pub first : List ℕ
  pub blank : IsBlank first
  pub steps : LinkByLink Step links first new
