-- How many ports have a piece to do, and how many pieces are left in a turn.
use Rattle.std.proofs.Common.{◌≡◌, ◌≢◌, ◌<◌, ◌≤◌, ◌+◌, ◌-◌, ℕ, Bool, true, false, nat_lt, get_or, arith, refl, sym, ap, ◌∙◌, inl, inr}
use Rattle.std.proofs.lemmas.Bool.Decides.{nat_tests, eqb_tells}
use Rattle.std.proofs.lemmas.List.{get_or-set_same, get_or-set_other}
use Rattle.otn_base.specs.declared.kind.PortName.{PortName}
use Rattle.device_model.specs.Moments.{over_ports}
use Rattle.turn_pieces.specs.Ports.{index_of, port_at}
use Rattle.multiframe.specs.LineTurns.{one_if}
use Rattle.turn_pieces.specs.Pieces.{PiecesView, wanted_of, done_of, is_open, open_at, open_count, left_now, in_a_turn, IsCounted, IsFresh}
use Rattle.turn_pieces.proofs.PortNumbers.{one_port, index_port_at, ports_by_number}
use Rattle.turn_pieces.proofs.Sums.{sum_same, sum_less, sum_none, none_of, sum_split}

-- what is open
pub record IsOpen (pieces : PiecesView) (name : PortName) : Type 0 where
  pub within : index_of name < 40
  pub wants : done_of pieces name < wanted_of pieces name

pub opened : (pieces : PiecesView) (name : PortName) → is_open pieces name ≡ true → IsOpen pieces name
opened pieces name h = record { within = grind (arith, nat_tests); wants = grind (arith, nat_tests) }

pub is_opened : (pieces : PiecesView) (name : PortName) → IsOpen pieces name → is_open pieces name ≡ true
is_opened pieces name h = let a = h.within in let b = h.wants in grind (arith, nat_tests)

-- what is not open has done its pieces
pub shut_done : (pieces : PiecesView) (name : PortName) → is_open pieces name ≡ false → index_of name < 40 → wanted_of pieces name ≤ done_of pieces name
shut_done pieces name h within = grind (arith, nat_tests)

-- ---- one piece more

-- of this port one more is done, and of another as many
pub done_more : (name : PortName) (old new : PiecesView) → IsCounted name old new → done_of new name ≡ done_of old name + 1
done_more name old new c = ap (λ d. get_or d (index_of name) 0) c.done ∙ get_or-set_same old.done (index_of name) (done_of old name + 1) 0 c.within

pub done_same : (name : PortName) (old new : PiecesView) (other : PortName) → IsCounted name old new → index_of name < 40 → other ≢ name → done_of new other ≡ done_of old other
done_same name old new other c within differ = elim (eqb_tells (index_of other) (index_of name)) [
  | inl t ↦ absurd (differ (one_port other name (omega arith) within t.1))
  | inr t ↦ ap (λ d. get_or d (index_of other) 0) c.done ∙ get_or-set_other old.done (index_of name) (index_of other) (done_of old name + 1) 0 t.1
]

pub wants_same : (name : PortName) (old new : PiecesView) (other : PortName) → IsCounted name old new → wanted_of new other ≡ wanted_of old other
wants_same name old new other c = ap (λ w. get_or w (index_of other) 0) c.wants

-- one less is left
pub left_counted : (name : PortName) (old new : PiecesView) → is_open old name ≡ true → IsCounted name old new → left_now new + 1 ≡ left_now old
left_counted name old new h c =
    let is = opened old name h in
    let now : get_or new.done (index_of name) 0 ≡ done_of old name + 1 = done_more name old new c in
    let here : get_or old.wants (index_of name) 0 - get_or old.done (index_of name) 0 ≡ (get_or new.wants (index_of name) 0 - get_or new.done (index_of name) 0) + 1 = (let less = is.wants in
    omega (arith, now, ap (λ w. get_or w (index_of name) 0) c.wants)) in
    sym (sum_less (λ i. get_or old.wants i 0 - get_or old.done i 0) (λ i. get_or new.wants i 0 - get_or new.done i 0) (index_of name) 40 is.within here (λ i other.
    let same : get_or new.done i 0 ≡ get_or old.done i 0 = ap (λ d. get_or d i 0) c.done ∙ get_or-set_other old.done (index_of name) i (done_of old name + 1) 0 other in
    omega (arith, same, ap (λ w. get_or w i 0) c.wants)))

-- a turn has as many
pub turn_counted : (name : PortName) (old new : PiecesView) → IsCounted name old new → in_a_turn new ≡ in_a_turn old
turn_counted name old new c = sum_same (λ i. get_or new.wants i 0) (λ i. get_or old.wants i 0) 40 (λ i lt. ap (λ w. get_or w i 0) c.wants)

-- ---- a new turn

pub left_fresh : (pieces : PiecesView) → IsFresh pieces → left_now pieces ≡ in_a_turn pieces
left_fresh pieces fresh = sum_same (λ i. get_or pieces.wants i 0 - get_or pieces.done i 0) (λ i. get_or pieces.wants i 0) 40 (λ i lt. omega (arith, fresh.none i))

pub turn_same : (old new : PiecesView) → new.wants ≡ old.wants → in_a_turn new ≡ in_a_turn old
turn_same old new e = sum_same (λ i. get_or new.wants i 0) (λ i. get_or old.wants i 0) 40 (λ i lt. ap (λ w. get_or w i 0) e)

-- ---- where no port is open

-- a port of this number that is not open wants no more
shut_at : (pieces : PiecesView) (i : ℕ) → i < 40 → is_open pieces (port_at i) ≡ false → get_or pieces.wants i 0 ≤ get_or pieces.done i 0
shut_at pieces i lt h =
    let same : index_of (port_at i) ≡ i = index_port_at i lt in
    let most : wanted_of pieces (port_at i) ≤ done_of pieces (port_at i) = shut_done pieces (port_at i) h (rw same lt) in
    rw same at most

pub none_left : (pieces : PiecesView) → ((name : PortName) → is_open pieces name ≡ false) → left_now pieces ≡ 0
none_left pieces none = sum_none (λ i. get_or pieces.wants i 0 - get_or pieces.done i 0) 40 (λ i lt. let most = shut_at pieces i lt (none (port_at i)) in omega arith)

one_open : (d w : ℕ) → one_if (nat_lt d w) ≡ 0 → w ≤ d
one_open d w h = go (nat_lt d w) refl
  where
    go : (b : Bool) → nat_lt d w ≡ b → w ≤ d
    go true e = absurd (cc (ap one_if e, h))
    go false e = grind (arith, nat_tests)

pub none_open : (pieces : PiecesView) → open_count pieces ≡ 0 → (name : PortName) → is_open pieces name ≡ false
none_open pieces none name = go (is_open pieces name) refl
  where
    go : (b : Bool) → is_open pieces name ≡ b → b ≡ false
    go false e = refl
    go true e =
        let is = opened pieces name e in
        let most : wanted_of pieces name ≤ done_of pieces name = one_open (done_of pieces name) (wanted_of pieces name) (none_of (open_at pieces) 40 (index_of name) none is.within) in
        let wants = is.wants in
        absurd (omega arith)

-- ---- all ports

-- the pieces of a turn, of all ports
pub ports_turn : (pieces : PiecesView) → over_ports (wanted_of pieces) ≡ in_a_turn pieces
ports_turn pieces = ports_by_number (λ i. get_or pieces.wants i 0)

-- those that are left, and those that are done
pub left_and_done : (pieces : PiecesView) → ((name : PortName) → done_of pieces name ≤ wanted_of pieces name) → left_now pieces + over_ports (done_of pieces) ≡ in_a_turn pieces
left_and_done pieces most =
    ap (λ n. left_now pieces + n) (ports_by_number (λ i. get_or pieces.done i 0))
    ∙ sum_split (λ i. get_or pieces.wants i 0 - get_or pieces.done i 0) (λ i. get_or pieces.done i 0) (λ i. get_or pieces.wants i 0) 40 (λ i lt.
    let at : get_or pieces.done i 0 ≤ get_or pieces.wants i 0 = (rw (index_port_at i lt) at (most (port_at i))) in omega arith)
