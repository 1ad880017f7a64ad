-- Later and later still; and how many pieces are left from one moment to the next.
use Rattle.std.proofs.Common.{◌≡◌, ◌<◌, ◌≤◌, ◌+◌, ◌-◌, ◌*◌, ℕ, suc, Bool, true, false, ◌&&◌, nat_lt, if◌then◌else◌, arith, refl, sym, ap, ◌∙◌, inl, inr}
use Rattle.std.proofs.lemmas.Bool.Decides.{nat_tests, eqb_tells}
use Rattle.otn_base.specs.declared.kind.PortName.{PortName}
use Rattle.port_base.specs.Bytes.{raised}
use Rattle.port_base.specs.Views.{BaysView}
use Rattle.plan_file.specs.declared.plan.Plan.{Plan}
use Rattle.node_moments.specs.NodeMoves.{FenceMove}
use Rattle.node_moments.specs.NodeView.{NodeView, is_ready, ready_number, left_of}
use Rattle.turn_pieces.specs.Pieces.{is_open, open_count, left_now, in_a_turn, IsCounted}
use Rattle.node_moments.specs.Stands.{InputBytes, StandsAt, Later}
use Rattle.turn_pieces.proofs.PieceCounts.{left_counted, turn_counted, left_fresh, turn_same, none_left, none_open}

-- ---- moments

pub later_none : (plan : Plan) (first : BaysView) (read : InputBytes) (node : NodeView) (now : BaysView) → StandsAt plan first read node now → Later plan first read node node now
later_none plan first read node now h = record { more = read; stands = h; earlier = λ inputs may. may }

pub later_twice : (plan : Plan) (first : BaysView) (read : InputBytes) (old mid new : NodeView) (was is : BaysView) → (l : Later plan first read old mid was)
    → (StandsAt plan first l.more mid was → Later plan first l.more mid new is) → Later plan first read old new is
later_twice plan first read old mid new was is l next =
    let k = next l.stands in
    record { more = k.more; stands = k.stands; earlier = λ inputs may. l.earlier inputs (k.earlier inputs may) }

-- ---- which ports are ready

pub ready_open : (node : NodeView) (name : PortName) → is_ready node name ≡ true → is_open node.pieces name ≡ true
ready_open node name h = go (nat_lt node.past node.turns) h
  where
    go : (b : Bool) → (b && is_open node.pieces name) ≡ true → is_open node.pieces name ≡ true
    go true e = e
    go false e = absurd (cc)

pub ready_going : (node : NodeView) (name : PortName) → is_ready node name ≡ true → node.past < node.turns
ready_going node name h = grind (arith, nat_tests)

pub shut_ports : (node : NodeView) → node.past < node.turns → ((name : PortName) → is_ready node name ≡ false) → (name : PortName) → is_open node.pieces name ≡ false
shut_ports node going none name = let on : nat_lt node.past node.turns ≡ true = grind (arith, nat_tests) in (rw on at (none name))

-- where none is counted none is ready
pub none_ready : (node : NodeView) → ready_number node ≡ 0 → (name : PortName) → is_ready node name ≡ false
none_ready node none name = go (nat_lt node.past node.turns) none
  where
    go : (b : Bool) → (if b then open_count node.pieces else 0) ≡ 0 → (b && is_open node.pieces name) ≡ false
    go false e = refl
    go true e = none_open node.pieces e name

-- ---- how many pieces are left

-- in a turn of the plan
pub left_going : (node : NodeView) → node.past < node.turns → left_of node ≡ left_now node.pieces + (node.turns - node.past - 1) * in_a_turn node.pieces
left_going node going = let on : nat_lt node.past node.turns ≡ true = grind (arith, nat_tests) in rw on refl

-- behind the last one
pub left_over : (node : NodeView) → node.turns ≤ node.past → left_of node ≡ 0
left_over node over = let off : nat_lt node.past node.turns ≡ false = grind (arith, nat_tests) in rw off refl

one_less : (r r' u u' k k' : ℕ) → r' + 1 ≡ r → u' ≡ u → k' ≡ k → (r' + k' * u') + 1 ≡ r + k * u
one_less r r' u u' k k' less same turns = rw (same, turns) (omega arith)

-- A piece leaves one less.
pub left_step : (name : PortName) (old new : NodeView) → is_ready old name ≡ true → IsCounted name old.pieces new.pieces → new.turns ≡ old.turns → new.past ≡ old.past → left_of new + 1 ≡ left_of old
left_step name old new ready counted turns past =
    let going = ready_going old name ready in
    let still : new.past < new.turns = omega (arith, turns, past) in
    let same : new.turns - new.past - 1 ≡ old.turns - old.past - 1 = omega (arith, turns, past) in
    ap (λ n. n + 1) (left_going new still)
    ∙ one_less (left_now old.pieces) (left_now new.pieces) (in_a_turn old.pieces) (in_a_turn new.pieces) (old.turns - old.past - 1) (new.turns - new.past - 1)
    (left_counted name old.pieces new.pieces (ready_open old name ready) counted) (turn_counted name old.pieces new.pieces counted) same
    ∙ sym (left_going old going)

next_turn : (r' u u' t : ℕ) → r' ≡ u → u' ≡ u → r' + t * u' ≡ 0 + suc t * u
next_turn r' u u' t e f = rw (e, f) (omega arith)

-- The end of a turn leaves as many.
pub left_fence : (old new : NodeView) → old.past < old.turns → ((name : PortName) → is_ready old name ≡ false) → FenceMove old new → left_of new ≡ left_of old
left_fence old new going none m =
    let spent : left_now old.pieces ≡ 0 = none_left old.pieces (shut_ports old going none) in
    let turn : in_a_turn new.pieces ≡ in_a_turn old.pieces = turn_same old.pieces new.pieces m.wants in
    let fresh : left_now new.pieces ≡ in_a_turn old.pieces = left_fresh new.pieces m.fresh ∙ turn in
    elim (eqb_tells (old.turns - old.past - 1) 0) [
      | inl t ↦
          let over : new.turns ≤ new.past = omega (arith, t.1, m.past, m.turns) in
          left_over new over ∙ sym (left_going old going ∙ rw (spent, t.1) (omega arith))
      | inr t ↦
          let going_on : new.past < new.turns = omega (arith, t.1, m.past, m.turns) in
          let turns : old.turns - old.past - 1 ≡ suc (new.turns - new.past - 1) = omega (arith, t.1, m.past, m.turns) in
          left_going new going_on ∙ next_turn (left_now new.pieces) (in_a_turn old.pieces) (in_a_turn new.pieces) (new.turns - new.past - 1) fresh turn
          ∙ sym (left_going old going ∙ rw (spent, turns) refl)
    ]

-- ---- how often the chooser was asked

pub asked_more : (a a' p p' all : ℕ) → a' ≡ raised a 1 → p' + 1 ≡ p → raised a p ≡ all → raised a' p' ≡ all
asked_more a a' p p' all e less h = omega arith

pub asked_same : (a p p' all : ℕ) → p' ≡ p → raised a p ≡ all → raised a p' ≡ all
asked_same a p p' all e h = rw e h

pub asked_none : (a p all : ℕ) → p ≡ 0 → raised a p ≡ all → a ≡ all
asked_none a p all e h = omega arith

-- what a run has before it grows less
pub step_smaller : (p p' t t' : ℕ) → p' + 1 ≡ p → t' ≡ t → p' + t' < p + t
step_smaller p p' t t' less same = omega arith

pub fence_smaller : (p p' t t' : ℕ) → p' ≡ p → t' < t → p' + t' < p + t
fence_smaller p p' t t' same less = omega arith
