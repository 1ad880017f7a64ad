-- The pieces of a plan's ports: which a turn has of each, and how many are left from a moment on.
use Rattle.std.proofs.Common.{◌≡◌, ◌<◌, ◌≤◌, ◌+◌, ◌-◌, ◌*◌, ℕ, suc, true, false, nat_lt, None, get_or, arith, refl, sym, ap, ◌∙◌, inl, inr}
use Rattle.std.proofs.lemmas.Bool.Decides.{eqb_tells}
use Rattle.std.proofs.lemmas.List.{get_or-set_other}
use Rattle.otn_base.specs.declared.kind.PortName.{PortName}
use Rattle.plan_file.specs.declared.plan.Plan.{Plan}
use Rattle.plan_file.specs.Answer.{fault_in}
use Rattle.device_model.specs.Moments.{uses, pieces_by, pieces_of, over_ports}
use Rattle.turn_pieces.specs.Ports.{index_of}
use Rattle.turn_pieces.specs.Pieces.{PiecesView, wanted_of, done_of, is_open, left_now, in_a_turn, IsCounted, IsFresh}
use Rattle.turn_pieces.proofs.PieceCounts.{opened, shut_done, done_more, wants_same, left_counted, turn_counted, left_fresh, none_left, left_and_done}
use Rattle.turn_pieces.proofs.UsedPorts.{used_within, used_pieces, pieces_used, plan_turn}

-- the moment in turn past + 1 at which each port has done so many pieces of the turn
pub record Moment : Type 0 where
  pub past : ℕ
  pub done : PortName → ℕ

-- the pieces that are left from a moment on, in this turn and all later ones
abbrev pub pieces_left : Plan → Moment → ℕ
pieces_left plan now = over_ports (pieces_of plan) * (plan.turns - now.past) - over_ports now.done

-- the pieces are those of a plan's turn, of which no more are done than there are
pub record Wants (plan : Plan) (pieces : PiecesView) : Type 0 where
  pub wants : (name : PortName) → wanted_of pieces name ≡ pieces_of plan name
  pub most : (name : PortName) → done_of pieces name ≤ wanted_of pieces name

-- ---- port by port

-- a port has pieces exactly where the plan uses it
pub used_wanted : (plan : Plan) (pieces : PiecesView) (name : PortName) → wanted_of pieces name ≡ pieces_of plan name → nat_lt 0 (wanted_of pieces name) ≡ uses plan name
used_wanted plan pieces name wants = ap (λ n. nat_lt 0 n) wants ∙ used_pieces plan name

-- a used port that is not open has done all its pieces
pub shut_all : (plan : Plan) (pieces : PiecesView) (name : PortName) → fault_in plan ≡ None → Wants plan pieces → is_open pieces name ≡ false → uses plan name ≡ true → done_of pieces name ≡ pieces_by plan name
shut_all plan pieces name accepted w h used =
    let least = shut_done pieces name h (used_within plan name accepted used) in
    let most = w.most name in
    let all : wanted_of pieces name ≡ pieces_by plan name = w.wants name ∙ pieces_used plan name used in
    omega arith

-- ---- from one moment to the next

-- no more are done than there are, after one piece more
pub most_counted : (name : PortName) (old new : PiecesView) → is_open old name ≡ true → IsCounted name old new → ((other : PortName) → done_of old other ≤ wanted_of old other) → (other : PortName)
    → done_of new other ≤ wanted_of new other
most_counted name old new h c most other =
    let is = opened old name h in
    let less = is.wants in
    let wants = wants_same name old new other c in
    elim (eqb_tells (index_of other) (index_of name)) [
      | inl t ↦
          let here : done_of new other ≡ done_of old name + 1 = rw t.1 (done_more name old new c) in
          let there : wanted_of old other ≡ wanted_of old name = rw t.1 refl in
          omega arith
      | inr t ↦
          let same : done_of new other ≡ done_of old other = ap (λ d. get_or d (index_of other) 0) c.done ∙ get_or-set_other old.done (index_of name) (index_of other) (done_of old name + 1) 0 t.1 in
          let before = most other in
          omega arith
    ]

pub wants_counted : (plan : Plan) (name : PortName) (old new : PiecesView) → Wants plan old → is_open old name ≡ true → IsCounted name old new → Wants plan new
wants_counted plan name old new w h c = record {
  wants = λ other. wants_same name old new other c ∙ w.wants other;
  most = most_counted name old new h c w.most;
}

-- and in a new turn
pub wants_fresh : (plan : Plan) (pieces : PiecesView) → ((name : PortName) → wanted_of pieces name ≡ pieces_of plan name) → IsFresh pieces → Wants plan pieces
wants_fresh plan pieces wants fresh = record { wants = wants; most = λ name. omega (arith, fresh.none (index_of name)) }

pub wants_cleared : (plan : Plan) (old new : PiecesView) → Wants plan old → new.wants ≡ old.wants → IsFresh new → Wants plan new
wants_cleared plan old new w e fresh = wants_fresh plan new (λ name. ap (λ ws. get_or ws (index_of name) 0) e ∙ w.wants name) fresh

-- ---- the pieces that are left

abbrev pub moment_of : (past : ℕ) → PiecesView → Moment
moment_of past pieces = record { past = past; done = done_of pieces }

rest_of : (t d l k : ℕ) → l + d ≡ t → t * suc k - d ≡ l + k * t
rest_of t d l k e = let all : t * suc k ≡ t + k * t = omega arith in omega arith

-- those of this turn, and all of the turns behind it
pub left_moment : (plan : Plan) (pieces : PiecesView) (past : ℕ) → Wants plan pieces → past < plan.turns
    → pieces_left plan (moment_of past pieces) ≡ left_now pieces + (plan.turns - past - 1) * in_a_turn pieces
left_moment plan pieces past w going =
    let turn : over_ports (pieces_of plan) ≡ in_a_turn pieces = plan_turn plan pieces w.wants in
    let sum : left_now pieces + over_ports (done_of pieces) ≡ in_a_turn pieces = left_and_done pieces w.most in
    let count : plan.turns - past ≡ suc (plan.turns - past - 1) = omega arith in
    ap (λ t. t * (plan.turns - past) - over_ports (done_of pieces)) turn
    ∙ ap (λ n. in_a_turn pieces * n - over_ports (done_of pieces)) count
    ∙ rest_of (in_a_turn pieces) (over_ports (done_of pieces)) (left_now pieces) (plan.turns - past - 1) sum

-- behind the last turn none are
pub left_over : (plan : Plan) (pieces : PiecesView) (past : ℕ) → plan.turns ≤ past → pieces_left plan (moment_of past pieces) ≡ 0
left_over plan pieces past over = let none : plan.turns - past ≡ 0 = omega arith in rw none (no_more (over_ports (pieces_of plan)) (over_ports (done_of pieces)))
  where
    no_more : (t d : ℕ) → t * 0 - d ≡ 0
    no_more t d = omega arith

one_less : (r r' u u' k : ℕ) → r' + 1 ≡ r → u' ≡ u → (r' + k * u') + 1 ≡ r + k * u
one_less r r' u u' k less same = rw same (omega (arith, less))

-- a piece leaves one less
pub left_step : (plan : Plan) (name : PortName) (old new : PiecesView) (past : ℕ) → Wants plan old → past < plan.turns → is_open old name ≡ true → IsCounted name old new
    → pieces_left plan (moment_of past new) + 1 ≡ pieces_left plan (moment_of past old)
left_step plan name old new past w going h c =
    ap (λ n. n + 1) (left_moment plan new past (wants_counted plan name old new w h c) going)
    ∙ one_less (left_now old) (left_now new) (in_a_turn old) (in_a_turn new) (plan.turns - past - 1) (left_counted name old new h c) (turn_counted name old new c)
    ∙ sym (left_moment plan old past w going)

next_turn : (t l d k : ℕ) → l ≡ t → l + d ≡ t → t * k - d ≡ 0 + k * t
next_turn t l d k e f = let none : d ≡ 0 = omega arith in rw none (go t k)
  where
    go : (t k : ℕ) → t * k - 0 ≡ 0 + k * t
    go t k = omega arith

-- the end of a turn, of which no piece is left, leaves as many
pub left_fence : (plan : Plan) (old new : PiecesView) (past : ℕ) → Wants plan old → past < plan.turns → ((name : PortName) → is_open old name ≡ false) → new.wants ≡ old.wants → IsFresh new
    → pieces_left plan (moment_of (past + 1) new) ≡ pieces_left plan (moment_of past old)
left_fence plan old new past w going none e fresh =
    let w' : Wants plan new = wants_cleared plan old new w e fresh in
    let turn : over_ports (pieces_of plan) ≡ in_a_turn new = plan_turn plan new w'.wants in
    let same : in_a_turn new ≡ in_a_turn old = sym turn ∙ plan_turn plan old w.wants in
    let count : plan.turns - (past + 1) ≡ plan.turns - past - 1 = omega arith in
    ap (λ t. t * (plan.turns - (past + 1)) - over_ports (done_of new)) turn
    ∙ ap (λ n. in_a_turn new * n - over_ports (done_of new)) count
    ∙ next_turn (in_a_turn new) (left_now new) (over_ports (done_of new)) (plan.turns - past - 1) (left_fresh new fresh) (left_and_done new w'.most)
    ∙ ap (λ t. 0 + (plan.turns - past - 1) * t) same
    ∙ sym (left_moment plan old past w going ∙ ap (λ l. l + (plan.turns - past - 1) * in_a_turn old) (none_left old none))
