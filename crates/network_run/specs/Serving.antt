-- API: what leaves on the lines of a node in a turn, before anything else is done in it.
use Rattle.std.specs.Prelude.{◌≡◌, ℕ, false}
use Rattle.otn_base.specs.declared.kind.PortName.{PortName}
use Rattle.port_base.specs.Views.{BaysView, line_in_at, client_in_at, client_out_at}
use Rattle.node_moments.specs.NodeView.{NodeView, is_ready}

-- no input was asked for anything, and no client got anything
pub record Unasked (old new : BaysView) : Type 0 where
  pub line_in : (a : ℕ) → line_in_at new a ≡ line_in_at old a
  pub client_in : (n : ℕ) → client_in_at new n ≡ client_in_at old n
  pub client_out : (n : ℕ) → client_out_at new n ≡ client_out_at old n

-- a port that had no piece left has none
abbrev pub StaysShut : (old new : NodeView) → Type 0
StaysShut old new = (name : PortName) → is_ready old name ≡ false → is_ready new name ≡ false
