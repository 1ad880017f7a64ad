-- API: the pieces of a turn: how many each port has in it, and how many of them are done.
use Rattle.std.specs.Prelude.{◌≡◌, ◌<◌, ◌+◌, ◌-◌, ℕ, zero, suc, Bool, true, ◌&&◌, nat_lt, List, get_or, set, length}
use Rattle.otn_base.specs.declared.kind.PortName.{PortName}
use Rattle.multiframe.specs.LineTurns.{one_if}
use Rattle.turn_pieces.specs.Ports.{index_of, port_count}

-- by number of the port (`index_of`): how many pieces it has in a turn, and how many are done in this one
pub record PiecesView : Type 0 where
  pub wants : List ℕ
  pub done : List ℕ

-- how many pieces the port has in the turn, and how many of them are done
abbrev pub wanted_of : PiecesView → PortName → ℕ
wanted_of pieces name = get_or pieces.wants (index_of name) 0

abbrev pub done_of : PiecesView → PortName → ℕ
done_of pieces name = get_or pieces.done (index_of name) 0

-- the port has a piece to do in this turn
abbrev pub is_open : PiecesView → PortName → Bool
is_open pieces name = nat_lt (index_of name) port_count && nat_lt (done_of pieces name) (wanted_of pieces name)

-- f 0 + .. + f (n - 1)
unfoldable pub sum_below : (ℕ → ℕ) → (n : ℕ) → ℕ
sum_below f zero = 0
sum_below f (suc n) = sum_below f n + f n

-- one where the port of this number has a piece to do
abbrev pub open_at : PiecesView → (i : ℕ) → ℕ
open_at pieces i = one_if (nat_lt (get_or pieces.done i 0) (get_or pieces.wants i 0))

-- how many ports have one
abbrev pub open_count : PiecesView → ℕ
open_count pieces = sum_below (open_at pieces) port_count

-- a port that has one, before which i ports have, in the order of their numbers
pub record IsNth (pieces : PiecesView) (i : ℕ) (name : PortName) : Type 0 where
  pub ready : is_open pieces name ≡ true
  pub before : sum_below (open_at pieces) (index_of name) ≡ i

-- the pieces that are left in this turn, of all ports, and those of a turn
abbrev pub left_now : PiecesView → ℕ
left_now pieces = sum_below (λ i. get_or pieces.wants i 0 - get_or pieces.done i 0) port_count

abbrev pub in_a_turn : PiecesView → ℕ
in_a_turn pieces = sum_below (λ i. get_or pieces.wants i 0) port_count

-- one piece more of the port is done, and none of another
pub record IsCounted (name : PortName) (old new : PiecesView) : Type 0 where
  pub wants : new.wants ≡ old.wants
  pub done : new.done ≡ set old.done (index_of name) (done_of old name + 1)
  pub within : index_of name < length old.done

-- no piece is done
pub record IsFresh (pieces : PiecesView) : Type 0 where
  pub none : (i : ℕ) → get_or pieces.done i 0 ≡ 0
