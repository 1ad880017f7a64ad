-- API: ports of a node that have no piece left in a turn.
use Rattle.std.specs.Prelude.{◌≡◌, false}
use Rattle.otn_base.specs.declared.kind.PortName.{PortName}
use Rattle.node_moments.specs.NodeView.{NodeView, is_ready}

-- a port that had no piece left has none
abbrev pub StaysServed : (old new : NodeView) → Type 0
StaysServed old new = (name : PortName) → is_ready old name ≡ false → is_ready new name ≡ false
