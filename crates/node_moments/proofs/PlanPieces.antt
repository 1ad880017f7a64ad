-- The pieces that are left to a node are those of the moment of its plan; to a new one, all of its plan.
use Rattle.std.proofs.Common.{◌≡◌, ◌<◌, ◌≤◌, ◌-◌, ◌*◌, ◌+◌, ℕ, Bool, true, false, nat_lt, List, [], ◌∷◌, map, sum, arith, refl, sym, ap, ◌∙◌}
use Rattle.std.proofs.lemmas.Bool.Decides.{nat_tests}
use Rattle.std.specs.List.{range_with_len}
use Rattle.otn_base.specs.declared.kind.PortName.{PortName}
use Rattle.otn_base.specs.declared.kind.PortName.TheVariants as port
use Rattle.otn_base.specs.declared.limits.TheConstants.{CLIENTS, LINES}
use Rattle.plan_file.specs.declared.plan.Plan.{Plan}
use Rattle.device_model.specs.Moments.{over_ports, pieces_of}
use Rattle.node_moments.specs.NodeView.{NodeView, left_of, done_at}
use Rattle.turn_pieces.specs.Ports.{index_of}
use Rattle.turn_pieces.specs.Pieces.{left_now, in_a_turn, IsFresh}
use Rattle.node_moments.specs.Stands.{PlanStands}
use Rattle.node_moments.proofs.Later as later
use Rattle.turn_pieces.proofs.PiecesLeft.{left_moment, left_over, pieces_left}

pub left_pieces : (plan : Plan) (node : NodeView) → PlanStands plan node → left_of node ≡ pieces_left plan (record { past = node.past; done = done_at node })
left_pieces plan node stands = by_turn (nat_lt node.past node.turns) refl
  where
    by_turn : (going : Bool) → nat_lt node.past node.turns ≡ going → left_of node ≡ pieces_left plan (record { past = node.past; done = done_at node })
    by_turn true is =
        let less : node.past < node.turns = grind (arith, nat_tests) in
        let same = stands.turns in
        later.left_going node less
        ∙ ap (λ turns. left_now node.pieces + (turns - node.past - 1) * in_a_turn node.pieces) same
        ∙ sym (left_moment plan node.pieces node.past (record { wants = stands.wants; most = stands.most }) (omega arith))
    by_turn false is =
        let over : node.turns ≤ node.past = grind (arith, nat_tests) in
        let same = stands.turns in
        later.left_over node over ∙ sym (left_over plan node.pieces node.past (omega arith))

-- ---- of a node of which no piece is done

sum_of_none : (f : ℕ → ℕ) (xs : List ℕ) → ((n : ℕ) → f n ≡ 0) → sum (map f xs) ≡ 0
sum_of_none f [] h = refl
sum_of_none f (x ∷ xs) h = let rest = sum_of_none f xs h in let here = h x in rw (here, rest) refl

none_over_ports : (count : PortName → ℕ) → ((name : PortName) → count name ≡ 0) → over_ports count ≡ 0
unfolding over_ports
none_over_ports count h =
    let a = sum_of_none (λ n. count (port.LineIn n)) (range_with_len 0 LINES) (λ n. h (port.LineIn n)) in
    let b = sum_of_none (λ n. count (port.LineOut n)) (range_with_len 0 LINES) (λ n. h (port.LineOut n)) in
    let c = sum_of_none (λ n. count (port.ClientIn n)) (range_with_len 0 CLIENTS) (λ n. h (port.ClientIn n)) in
    let d = sum_of_none (λ n. count (port.ClientOut n)) (range_with_len 0 CLIENTS) (λ n. h (port.ClientOut n)) in
    rw (a, b, c, d) refl

nothing_less : (count turns : ℕ) → count * (turns - 0) - 0 ≡ count * turns
nothing_less count turns = let same : turns - 0 ≡ turns = omega arith in rw same (omega arith)

pub all_left : (plan : Plan) (node : NodeView) → PlanStands plan node → node.past ≡ 0 → IsFresh node.pieces → left_of node ≡ over_ports (pieces_of plan) * plan.turns
all_left plan node stands first fresh =
    let none : over_ports (done_at node) ≡ 0 = none_over_ports (done_at node) (λ name. fresh.none (index_of name)) in
    left_pieces plan node stands
    ∙ ap (λ past. over_ports (pieces_of plan) * (plan.turns - past) - over_ports (done_at node)) first
    ∙ ap (λ done. over_ports (pieces_of plan) * (plan.turns - 0) - done) none
    ∙ nothing_less (over_ports (pieces_of plan)) plan.turns
