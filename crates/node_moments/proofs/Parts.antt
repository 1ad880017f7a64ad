-- The parts of a moment whose ports and pieces are as they were.
use Rattle.std.proofs.Common.{◌≡◌, ◌<◌, ◌≤◌, ◌+◌, ℕ, Bool, true, false, ◌&&◌, List, Some, length, slice_get, get_or, set, nat_lt, arith, refl, ap, ◌∙◌, inl, inr, nat_le}
use Rattle.std.proofs.lemmas.Bool.Decides.{nat_tests, eqb_tells}
use Rattle.std.proofs.lemmas.List.{get_or-set_same, get_or-set_other}
use Rattle.std.proofs.lemmas.Option.{slice_get_within}
use Rattle.otn_base.specs.declared.kind.PortName.{PortName}
use Rattle.plan_file.specs.declared.connection.Connection.{Connection}
use Rattle.plan_file.specs.declared.plan.Plan.{Plan}
use Rattle.device_model.specs.Entries.{IsActive}
use Rattle.device_model.specs.Moments.{uses, pieces_by}
use Rattle.turn_pieces.specs.Ports.{index_of}
use Rattle.turn_pieces.specs.Pieces.{wanted_of, is_open, IsCounted}
use Rattle.node_links.specs.Links.{IsLinkOf, SameEntry, is_on}
use Rattle.node_moments.specs.NodeView.{NodeView, is_ready, done_at}
use Rattle.node_moments.specs.Stands.{PlanStands}
use Rattle.node_links.specs.Moves.{EachLink}
use Rattle.node_links.specs.declared.link.Link.{Link}
use Rattle.node_links.proofs.Senders.{element_at}
use Rattle.node_links.proofs.LinkLaws.{both_left, both_right, still_link, on_as}
use Rattle.turn_pieces.proofs.PieceCounts.{opened}
use Rattle.turn_pieces.proofs.UsedPorts.{pieces_unused, pieces_used}

-- ---- elements of lists

pub one_at : {A : Type 0} (xs : List A) (i : ℕ) (x y : A) → slice_get xs i ≡ Some x → slice_get xs i ≡ Some y → x ≡ y
one_at xs i x y e f = cc

pub and_none : (b c : Bool) → c ≡ false → (b && c) ≡ false
and_none true c h = h
and_none false c h = refl

-- ---- connections one by one

-- what a connection was before
pub record LinkBefore (Goes : Link → Link → Type 0) (olds : List Link) (i : ℕ) (new : Link) : Type 0 where
  pub old : Link
  pub known : slice_get olds i ≡ Some old
  pub goes : Goes old new

pub link_before : (Goes : Link → Link → Type 0) (olds news : List Link) (i : ℕ) (new : Link) → EachLink Goes olds news → slice_get news i ≡ Some new → LinkBefore Goes olds i new
link_before Goes olds news i new each is =
    let within : i < length news = slice_get_within news i new is in
    let k = element_at olds i (omega (arith, each.count)) in
    record { old = k.0; known = k.1; goes = each.each i k.0 new k.1 is }

-- what it is after
pub record LinkAfter (Goes : Link → Link → Type 0) (news : List Link) (i : ℕ) (old : Link) : Type 0 where
  pub new : Link
  pub known : slice_get news i ≡ Some new
  pub goes : Goes old new

pub link_after : (Goes : Link → Link → Type 0) (olds news : List Link) (i : ℕ) (old : Link) → EachLink Goes olds news → slice_get olds i ≡ Some old → LinkAfter Goes news i old
link_after Goes olds news i old each is =
    let within : i < length olds = slice_get_within olds i old is in
    let k = element_at news i (omega (arith, each.count)) in
    record { new = k.0; known = k.1; goes = each.each i old k.0 is k.1 }

pub each_goes : (Goes Then : Link → Link → Type 0) (olds news : List Link) → ((old new : Link) → Goes old new → Then old new) → EachLink Goes olds news → EachLink Then olds news
each_goes Goes Then olds news then h = record { count = h.count; each = λ i old new at_old at_new. then old new (h.each i old new at_old at_new) }

-- the link of a connection is active where the connection is
pub on_active : (x : Connection) (past : ℕ) (link : Link) → IsLinkOf x link → IsActive x past → is_on past link ≡ true
on_active x past link is active =
    let start = active.start in
    let stop = active.stop in
    let on : (nat_le x.start (past + 1) && nat_le (past + 1) x.stop) ≡ true = grind (arith, nat_tests) in
    on_as x past link is ∙ on

-- one whose last turn is done is not
pub off_stopped : (x : Connection) (past : ℕ) (link : Link) → IsLinkOf x link → x.stop ≡ past → is_on past link ≡ false
off_stopped x past link is stop =
    let late : nat_le (past + 1) x.stop ≡ false = grind (arith, nat_tests) in
    on_as x past link is ∙ and_none (nat_le x.start (past + 1)) (nat_le (past + 1) x.stop) late

pub none_and : (b c : Bool) → b ≡ false → (b && c) ≡ false
none_and true c h = cc
none_and false c h = refl

-- ---- a port that is ready

pub record IsReady (node : NodeView) (name : PortName) : Type 0 where
  pub going : node.past < node.turns
  pub within : index_of name < 40
  pub wants : done_at node name < wanted_of node.pieces name

pub ready : (node : NodeView) (name : PortName) → is_ready node name ≡ true → IsReady node name
ready node name h =
    let going = both_left (nat_lt node.past node.turns) (is_open node.pieces name) h in
    let open_is = opened node.pieces name (both_right (nat_lt node.past node.turns) (is_open node.pieces name) h) in
    record { going = grind (arith, nat_tests); within = open_is.within; wants = open_is.wants }

-- so the node is not past its last turn, before a piece and after it
pub not_over : (old new : NodeView) → old.past < old.turns → new.turns ≡ old.turns → new.past ≡ old.past → new.turns ≤ new.past → ⊥
not_over old new going turns past over = omega arith

-- the plan uses it
pub ready_used : (plan : Plan) (node : NodeView) (name : PortName) → PlanStands plan node → IsReady node name → uses plan name ≡ true
ready_used plan node name p r = go (uses plan name) refl
  where
    go : (b : Bool) → uses plan name ≡ b → b ≡ true
    go true e = refl
    go false e = let wants = r.wants in absurd (omega (arith, p.wants name, pieces_unused plan name e))

-- it has not done all its pieces
pub ready_less : (plan : Plan) (node : NodeView) (name : PortName) → PlanStands plan node → IsReady node name → done_at node name < pieces_by plan name
ready_less plan node name p r = let wants = r.wants in omega (arith, p.wants name, pieces_used plan name (ready_used plan node name p r))

-- ---- the parts

-- after a piece
pub plan_counted : (plan : Plan) (name : PortName) (old new : NodeView) → IsReady old name → IsCounted name old.pieces new.pieces → new.turns ≡ old.turns → new.past ≡ old.past
    → EachLink SameEntry old.links new.links → PlanStands plan old → PlanStands plan new
plan_counted plan name old new r c turns past each h = record {
  accepted = h.accepted;
  turns = turns ∙ h.turns;
  past = rw (turns, past) h.past;
  wants = λ other. ap (λ w. get_or w (index_of other) 0) c.wants ∙ h.wants other;
  most = λ other. elim (eqb_tells (index_of other) (index_of name)) [
    | inl t ↦
        let now : get_or (set old.pieces.done (index_of name) (done_at old name + 1)) (index_of name) 0 ≡ done_at old name + 1 = get_or-set_same old.pieces.done (index_of name) (done_at old name + 1) 0 c.within in
        let less = r.wants in
        rw (c.done, c.wants, t.1, now) (omega arith)
    | inr t ↦ rw (c.done, c.wants, get_or-set_other old.pieces.done (index_of name) (index_of other) (done_at old name + 1) 0 t.1) (h.most other)
  ];
  over = λ ended other. absurd (let going = r.going in omega (arith, past, turns));
  count = each.count ∙ h.count;
  links = λ i x link at_i has. let b = link_before SameEntry old.links new.links i link each has in still_link x b.old link b.goes (h.links i x b.old at_i b.known);
}
