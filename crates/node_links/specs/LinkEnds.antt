-- API: a connection at the end of a turn: it ends the turn, and begins where the next one is its first.
use Rattle.std.specs.Prelude.{◌≡◌, ◌≢◌, ◌+◌, ℕ, Bool, false, List, [], get_or}
use Rattle.port_base.specs.Views.{InView, OutView}
use Rattle.plan_file.specs.declared.connection.Connection.{Connection}
use Rattle.plan_file.specs.declared.connection.FromEnd.{FromEnd}
use Rattle.plan_file.specs.declared.connection.FromEnd.TheVariants as from_end
use Rattle.plan_file.specs.declared.connection.ToEnd.TheVariants as to_end
use Rattle.device_model.specs.Through.{OwnInput}
use Rattle.cross_matrix.specs.Parts.{ClientInStands, ClientOutStands, IsInputOf}
use Rattle.cross_matrix.specs.Pipes.{PipeStands}
use Rattle.node_links.specs.Links.{IsLinkOf, SameEntry}
use Rattle.node_links.specs.Moves.{Fences}
use Rattle.node_links.specs.declared.link.Link.{Link}

-- a connection whose first turn is turn past + 1 begins
pub record Starts (past : ℕ) (old new : Link) : Type 0 where
  pub same : SameEntry old new
  pub other : old.entry.start ≢ past + 1 → new ≡ old
  pub stands : old.entry.start ≡ past + 1 → (x : Connection) (input : OwnInput) → IsLinkOf x old
      → IsInputOf x.from input → PipeStands x input 0 [] false 0 new.pipe
  pub client_in : old.entry.start ≡ past + 1 → (x : Connection) (n : ℕ) (first : InView) → IsLinkOf x old
      → x.from ≡ from_end.Client n → ClientInStands x first first [] 0 new.pipe.taking
  pub client_out : old.entry.start ≡ past + 1 → (x : Connection) (n : ℕ) (input : OwnInput) (first : OutView)
      → IsLinkOf x old → x.to ≡ to_end.Client n
      → ClientOutStands x input first first 0 new.pipe.giving

-- whether the line that a connection comes from has a multiframe in the turn
abbrev pub whole_for : FromEnd → (wholes : List Bool) → Bool
whole_for (from_end.Line a port slots) wholes = get_or wholes a false
whole_for (from_end.Client n) wholes = false
whole_for (from_end.Signal signal) wholes = false

-- a connection ends turn past + 1, and begins where turn past + 2 is its first
pub record TurnsOver (past : ℕ) (wholes : List Bool) (old new : Link) : Type 0 where
  pub between : Link
  pub fences : Fences past (whole_for old.entry.from wholes) old between
  pub starts : Starts (past + 1) between new
