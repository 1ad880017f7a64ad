-- Ports that have no piece left have none when another port has done one.
use Rattle.std.proofs.Common.{◌≡◌, ◌≢◌, ◌&&◌, ℕ, true, false, ap, ◌∙◌}
use Rattle.std.specs.Prelude.{nat_lt}
use Rattle.otn_base.specs.declared.kind.PortName.{PortName}
use Rattle.turn_pieces.specs.Ports.{index_of}
use Rattle.turn_pieces.specs.Pieces.{done_of, wanted_of, IsCounted}
use Rattle.turn_pieces.proofs.PieceCounts.{opened, done_same, wants_same}
use Rattle.node_moments.specs.NodeView.{NodeView, is_ready}
use Rattle.node_moments.proofs.Later.{ready_open}
use Rattle.live_node.specs.Served.{StaysServed}

as_ready : (past past' turns turns' i done done' wants wants' : ℕ) → past' ≡ past → turns' ≡ turns → done' ≡ done → wants' ≡ wants
    → (nat_lt past' turns' && (nat_lt i 40 && nat_lt done' wants')) ≡ (nat_lt past turns && (nat_lt i 40 && nat_lt done wants))
as_ready past past' turns turns' i done done' wants wants' one two three four = cc

still_served : (name other : PortName) (old new : NodeView) → is_ready old name ≡ true → IsCounted name old.pieces new.pieces → new.turns ≡ old.turns
    → new.past ≡ old.past
    → is_ready old other ≡ false → is_ready new other ≡ false
still_served name other old new ready counted turns past shut =
    let apart : other ≢ name = λ e. (let same = ap (is_ready old) e in cc) in
    let o = opened old.pieces name (ready_open old name ready) in
    as_ready old.past new.past old.turns new.turns (index_of other) (done_of old.pieces other) (done_of new.pieces other) (wanted_of old.pieces other)
    (wanted_of new.pieces other)
    past turns (done_same name old.pieces new.pieces other counted o.within apart) (wants_same name old.pieces new.pieces other counted)
    ∙ shut

pub stays_step : (first old new : NodeView) (name : PortName) → StaysServed first old → is_ready old name ≡ true → IsCounted name old.pieces new.pieces
    → new.turns ≡ old.turns → new.past ≡ old.past
    → StaysServed first new
stays_step first old new name before ready counted turns past other shut = still_served name other old new ready counted turns past (before other shut)

pub stays_none : (node : NodeView) → StaysServed node node
stays_none node name shut = shut

pub stays_twice : (old mid new : NodeView) → StaysServed old mid → StaysServed mid new → StaysServed old new
stays_twice old mid new one two name shut = two name (one name shut)
