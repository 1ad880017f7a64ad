-- The end of a turn leads to the next one.
use Rattle.std.proofs.Common.{◌≡◌, ◌≢◌, ◌<◌, ◌≤◌, ◌+◌, ◌*◌, ℕ, suc, Bool, true, false, ◌||◌, List, [], Some, slice_get, get_or, arith, refl, sym, ap, subst, ◌∙◌, inl, inr}
use Rattle.std.specs.Prelude.{is_some}
use Rattle.std.proofs.lemmas.Bool.Decides.{eqb_tells}
use Rattle.otn_base.specs.declared.kind.PortName.{PortName}
use Rattle.otn_base.specs.declared.kind.PortName.TheVariants as port
use Rattle.port_base.specs.Places.{Input, Output, place_at}
use Rattle.port_base.specs.Views.{BaysView, line_in_at, line_out_at, client_in_at, client_out_at, no_input, no_output}
use Rattle.line_side.specs.LineFile.{mfas_of}
use Rattle.line_side.specs.LineForm.{size_of}
use Rattle.line_side.specs.LineOutput.{LineMade}
use Rattle.line_side.specs.LineStands.{LineView, LineStands}
use Rattle.line_side.specs.MayBe.{MayBe}
use Rattle.multiframe.specs.LineTurns.{multiframe}
use Rattle.plan_file.specs.declared.connection.Connection.{Connection}
use Rattle.plan_file.specs.declared.connection.FromEnd.{FromEnd}
use Rattle.plan_file.specs.declared.connection.FromEnd.TheVariants as from_end
use Rattle.plan_file.specs.declared.connection.ToEnd.TheVariants as to_end
use Rattle.plan_file.specs.declared.plan.Plan.{Plan}
use Rattle.device_model.specs.Entries.{form_in, form_out, own_turn, IsActive}
use Rattle.device_model.specs.LineFiles.{AreFramesOf}
use Rattle.device_model.specs.Moments.{touches, uses, pieces_by}
use Rattle.device_model.specs.Through.{Inputs, of_client, own_input}
use Rattle.device_model.proofs.SoundPlans.{sound_plan}
use Rattle.cross_matrix.specs.Parts.{ClientInStands, ClientOutStands, MayShow}
use Rattle.cross_matrix.specs.Pipes.{PipeStands}
use Rattle.node_links.specs.Links.{joins}
use Rattle.node_links.specs.Retiring.{RetiredBy, ends_here}
use Rattle.node_moments.specs.NodeMoves.{FenceMove}
use Rattle.node_moments.specs.NodeView.{NodeView, HasLineIn, HasLineOut, HasLink, is_ready, done_at, taken_pieces, given_pieces}
use Rattle.turn_pieces.specs.Ports.{index_of}
use Rattle.device_model.specs.RetiredPlaces.{after_retire, out_after_retire}
use Rattle.node_moments.specs.Stands.{InputBytes, MayGive, PlanStands, PipesStand, LineInAt, LineOutAt, ClientAt, ClientStands, GivesText, GetsText, PortStands, StandsAt, Later}
use Rattle.node_links.specs.declared.link.Link.{Link}
use Rattle.node_moments.proofs.ClientTurns.{place_kept, client_starts, client_goes_on}
use Rattle.node_links.proofs.LinkLaws.{still_link, start_as, from_client, to_client}
use Rattle.node_moments.proofs.LinkPorts.{is_client_port, none_taken, none_given}
use Rattle.node_moments.proofs.Parts.{on_active}
use Rattle.node_moments.proofs.LinkTurns.{Turned, turned, not_started, all_done, some_wanted, used_line, input_kind, at_start, at_end, pieces_from, next_pipe, own_next}
use Rattle.node_moments.proofs.Retired.{some_passes, known_at, idle_passes, client_retires}
use Rattle.device_model.proofs.ConnectionPorts.{uses_at, from_line_used, from_client_used}
use Rattle.device_model.proofs.RetiredPlaces.{after_or, out_after_or}

-- a connection starts with this turn, or has started before
started_before : (start past now : ℕ) → now ≡ past + 1 → start ≤ now + 1 → start ≢ past + 1 + 1 → start ≤ past + 1
started_before start past now e le differ = elim (eqb_tells start (past + 1 + 1)) [
  | inl t ↦ absurd (differ t.1)
  | inr t ↦ let other = t.1 in omega arith
]

-- ---- what the inputs may be

line_before : (old new : NodeView) (wholes : List Bool) (plan : Plan) (read : InputBytes) (inputs : Inputs) → PlanStands plan old → FenceMove old new → MayGive plan read new inputs
    → (a : ℕ) (line : LineView) → HasLineIn old a line → uses plan (port.LineIn a) ≡ true → MayBe (form_in plan a).scrambled line.reader.ending (read.line a) (inputs.line a)
line_before old new wholes plan read inputs p m may a line had used =
    let next = known_at old.lines_in new.lines_in a line (sym m.count) had in
    let ends = m.used a line next.0 (some_wanted plan old (port.LineIn a) p used) had next.1 in
    subst (λ ending. MayBe (form_in plan a).scrambled ending (read.line a) (inputs.line a)) ends.ending (may.lines a next.0 next.1 used)

-- what a client has is as it was
same_taking : (old : NodeView) (wholes : List Bool) (i n : ℕ) (x : Connection) (link : Link) (t : Turned old wholes i x link) → x.start ≢ old.past + 1 + 1 → x.from ≡ from_end.Client n
    → link.pipe.taking ≡ t.before.pipe.taking
same_taking old wholes i n x link t differ from = ap (λ (l : Link). l.pipe.taking) (not_started old wholes i x link t differ) ∙ t.turns.fences.text x n t.was from

same_giving : (old : NodeView) (wholes : List Bool) (i n : ℕ) (x : Connection) (link : Link) (t : Turned old wholes i x link) → x.start ≢ old.past + 1 + 1 → x.to ≡ to_end.Client n
    → link.pipe.giving ≡ t.before.pipe.giving
same_giving old wholes i n x link t differ to = ap (λ (l : Link). l.pipe.giving) (not_started old wholes i x link t differ) ∙ t.turns.fences.receiver x n t.was to

client_before : (old new : NodeView) (plan : Plan) (read : InputBytes) (inputs : Inputs) → PlanStands plan old → FenceMove old new → MayGive plan read new inputs
    → (i n : ℕ) (x : Connection) (link : Link) → slice_get plan.connections i ≡ Some x → HasLink old i link → x.from ≡ from_end.Client n → x.start ≤ old.past + 1
    → MayShow link.pipe.taking (read.client n) (of_client (inputs.client n))
client_before old new plan read inputs p m may i n x link at had from start =
    let next = known_at old.links new.links i link (sym m.links.count) had in
    let t = m.links.each i link next.0 had next.1 in
    let was = p.links i x link at had in
    let mid : t.between.entry.start ≡ x.start = start_as x t.between (still_link x link t.between t.fences.same was) in
    let unstarted : next.0 ≡ t.between = t.starts.other (λ e. absurd (omega arith)) in
    let same : next.0.pipe.taking ≡ link.pipe.taking = ap (λ (l : Link). l.pipe.taking) unstarted ∙ t.fences.text x n was from in
    subst (λ part. MayShow part (read.client n) (of_client (inputs.client n))) same (may.clients i n x next.0 at next.1 from (let past = m.past in omega arith))

fence_earlier : (old new : NodeView) (plan : Plan) (read : InputBytes) → PlanStands plan old → FenceMove old new → (inputs : Inputs) → MayGive plan read new inputs → MayGive plan read old inputs
fence_earlier old new plan read p m inputs may = record {
  lines = line_before old new m.wholes plan read inputs p m may;
  clients = client_before old new plan read inputs p m may;
}

-- ---- the plan

none_done : (old new : NodeView) → FenceMove old new → (name : PortName) → done_at new name ≡ 0
none_done old new m name = m.fresh.none (index_of name)

fence_plan : (plan : Plan) (old new : NodeView) → old.past < old.turns → PlanStands plan old → FenceMove old new → PlanStands plan new
fence_plan plan old new going p m = record {
  accepted = p.accepted;
  turns = m.turns ∙ p.turns;
  past = omega (arith, m.past, m.turns);
  wants = λ name. ap (λ w. get_or w (index_of name) 0) m.wants ∙ p.wants name;
  most = λ name. omega (arith, m.fresh.none (index_of name));
  over = λ over name. m.fresh.none (index_of name);
  count = m.links.count ∙ p.count;
  links = λ i x link at has. (turned plan old new p m i x link at has).is;
}

-- all pieces of the turn, of what a connection comes from
taken_all : (plan : Plan) (old : NodeView) → ((name : PortName) → uses plan name ≡ true → done_at old name ≡ pieces_by plan name)
    → (i : ℕ) (x : Connection) → slice_get plan.connections i ≡ Some x → (from : FromEnd) → x.from ≡ from → taken_pieces old from ≡ pieces_from plan from
taken_all plan old done i x at (from_end.Line a number slots) e = done (port.LineIn a) (from_line_used plan i a number slots x at e)
taken_all plan old done i x at (from_end.Client n) e = done (port.ClientIn n) (from_client_used plan i n x at e)
taken_all plan old done i x at (from_end.Signal signal) e = refl

-- ---- pipes

-- whether a line has a multiframe in the turn is said of whatever the line may turn out to be
has_multiframe : (plan : Plan) (first : BaysView) (read : InputBytes) (old new : NodeView) (was : BaysView) (inputs : Inputs) → PlanStands plan old → (m : FenceMove old new) → ((a : ℕ) → LineInAt plan first read old was a)
    → MayGive plan read old inputs → (a : ℕ) → uses plan (port.LineIn a) ≡ true → get_or m.wholes a false ≡ is_some (multiframe (size_of (form_in plan a)) (mfas_of (inputs.line a)) old.past)
has_multiframe plan first read old new was inputs p m h may a u =
    let l = used_line plan old new p m a u in
    l.ends.multiframe (line_in_at was a) (form_in plan a) (line_in_at first a) (read.line a) old.past (h a l.line l.had u).0 (inputs.line a) (may.lines a l.line l.had u)

-- the pipe of a connection that is active in the next turn too
pipe_goes_on : (plan : Plan) (first : BaysView) (read : InputBytes) (old new : NodeView) (was : BaysView) (inputs : Inputs) → PlanStands plan old → (m : FenceMove old new)
    → ((name : PortName) → uses plan name ≡ true → done_at old name ≡ pieces_by plan name) → ((a : ℕ) → LineInAt plan first read old was a) → PipesStand plan read old → MayGive plan read old inputs
    → (i : ℕ) (x : Connection) (link : Link) → slice_get plan.connections i ≡ Some x → (t : Turned old m.wholes i x link) → IsActive x old.past
    → PipeStands x (own_input inputs x) (suc (own_turn x old.past)) [] false 0 t.turns.between.pipe
pipe_goes_on plan first read old new was inputs p m done lines pipes may i x link at t active =
    let sound = (sound_plan plan p.accepted).entries i x at in
    let stood = pipes.each inputs may i x t.before at t.had active in
    let pieces : taken_pieces old x.from ≡ pieces_from plan x.from = taken_all plan old done i x at x.from refl in
    let on = on_active x old.past t.before t.was active in
    next_pipe plan inputs x old.past (given_pieces old x.to) m.wholes t.before t.turns.between sound t.was on t.turns.fences
    (λ a number slots e. has_multiframe plan first read old new was inputs p m lines may a (from_line_used plan i a number slots x at e)) x.from refl
    (at_end plan inputs x old.past (own_turn x old.past) (given_pieces old x.to) (taken_pieces old x.from) x.from t.before.pipe refl pieces stood)

-- the pipe of any connection that is active in the next turn
pipe_next : (plan : Plan) (first : BaysView) (read : InputBytes) (old new : NodeView) (was : BaysView) (inputs : Inputs) → PlanStands plan old → (m : FenceMove old new)
    → ((name : PortName) → uses plan name ≡ true → done_at old name ≡ pieces_by plan name) → ((a : ℕ) → LineInAt plan first read old was a) → PipesStand plan read old → MayGive plan read old inputs
    → (i : ℕ) (x : Connection) (link : Link) → slice_get plan.connections i ≡ Some x → (t : Turned old m.wholes i x link) → IsActive x (old.past + 1)
    → PipeStands x (own_input inputs x) (own_turn x (old.past + 1)) [] false 0 link.pipe
pipe_next plan first read old new was inputs p m done lines pipes may i x link at t active = elim (eqb_tells x.start (old.past + 1 + 1)) [
  | inl e ↦
      let now : t.turns.between.entry.start ≡ old.past + 1 + 1 = start_as x t.turns.between t.mid ∙ e.1 in
      let zeroth : 0 ≡ own_turn x (old.past + 1) = (let s = e.1 in omega arith) in
      subst (λ j. PipeStands x (own_input inputs x) j [] false 0 link.pipe) zeroth (t.turns.starts.stands now x (own_input inputs x) t.mid (input_kind inputs x.from))
  | inr d ↦
      let start : x.start ≤ old.past + 1 = started_before x.start old.past (old.past + 1) refl active.start d.1 in
      let same : link ≡ t.turns.between = not_started old m.wholes i x link t d.1 in
      let before : IsActive x old.past = record { start = start; stop = (let a = active.stop in omega arith) } in
      subst (λ j. PipeStands x (own_input inputs x) j [] false 0 link.pipe) (own_next x old.past t.was.first start)
      (subst (λ (l : Link). PipeStands x (own_input inputs x) (suc (own_turn x old.past)) [] false 0 l.pipe) (sym same)
      (pipe_goes_on plan first read old new was inputs p m done lines pipes may i x link at t before))
]

-- the pipe of one whose last turn this was
pipe_last : (plan : Plan) (first : BaysView) (read : InputBytes) (old new : NodeView) (was : BaysView) (inputs : Inputs) → PlanStands plan old → (m : FenceMove old new)
    → ((name : PortName) → uses plan name ≡ true → done_at old name ≡ pieces_by plan name) → ((a : ℕ) → LineInAt plan first read old was a) → PipesStand plan read old → MayGive plan read old inputs
    → (i : ℕ) (x : Connection) (link : Link) → slice_get plan.connections i ≡ Some x → (t : Turned old m.wholes i x link) → x.stop ≡ old.past + 1
    → PipeStands x (own_input inputs x) (own_turn x (old.past + 1)) [] false 0 link.pipe
pipe_last plan first read old new was inputs p m done lines pipes may i x link at t stop =
    let start : x.start ≤ old.past + 1 = (let span = ((sound_plan plan p.accepted).entries i x at).span in omega arith) in
    let same : link ≡ t.turns.between = not_started old m.wholes i x link t (λ e. absurd (omega arith)) in
    let before : IsActive x old.past = record { start = start; stop = omega arith } in
    subst (λ j. PipeStands x (own_input inputs x) j [] false 0 link.pipe) (own_next x old.past t.was.first start)
    (subst (λ (l : Link). PipeStands x (own_input inputs x) (suc (own_turn x old.past)) [] false 0 l.pipe) (sym same)
    (pipe_goes_on plan first read old new was inputs p m done lines pipes may i x link at t before))

fence_pipes : (plan : Plan) (first : BaysView) (read : InputBytes) (old new : NodeView) (was : BaysView) → PlanStands plan old → FenceMove old new
    → ((name : PortName) → uses plan name ≡ true → done_at old name ≡ pieces_by plan name) → ((a : ℕ) → LineInAt plan first read old was a) → PipesStand plan read old → PipesStand plan read new
fence_pipes plan first read old new was p m done lines pipes = record {
  each = λ inputs may i x link at has active.
      let t = turned plan old new p m i x link at has in
      let on : IsActive x (old.past + 1) = subst (IsActive x) m.past active in
      let next = pipe_next plan first read old new was inputs p m done lines pipes (fence_earlier old new plan read p m inputs may) i x link at t on in
      at_start plan inputs x new.past (own_turn x new.past) (taken_pieces new x.from) (given_pieces new x.to) link.pipe (none_taken new (none_done old new m) x.from) (none_given new (none_done old new m) x.to)
      (subst (λ n. PipeStands x (own_input inputs x) (own_turn x n) [] false 0 link.pipe) (sym m.past) next);
  last = λ inputs may i x link at has stop.
      subst (λ n. PipeStands x (own_input inputs x) (own_turn x n) [] false 0 link.pipe) (sym m.past)
      (pipe_last plan first read old new was inputs p m done lines pipes (fence_earlier old new plan read p m inputs may) i x link at (turned plan old new p m i x link at has) (stop ∙ m.past));
}

-- ---- lines

fence_line_in : (plan : Plan) (first : BaysView) (read : InputBytes) (old new : NodeView) (was is : BaysView) (a : ℕ) → PlanStands plan old → FenceMove old new → RetiredBy old.past old.links was is
    → LineInAt plan first read old was a → PortStands plan first read new is (port.LineIn a)
fence_line_in plan first read old new was is a p m retired h = λ next has u.
    let line = known_at new.lines_in old.lines_in a next m.count has in
    let ends = m.used a line.0 next (some_wanted plan old (port.LineIn a) p u) line.1 has in
    let place : line_in_at is a ≡ line_in_at was a = ap (λ l. get_or l a no_input) retired.line_in in (
      subst (λ n. LineStands (form_in plan a) (line_in_at first a) (line_in_at is a) (read.line a) n next) (sym m.past)
          (subst (λ v. LineStands (form_in plan a) (line_in_at first a) v (read.line a) (old.past + 1) next) (sym place)
          (ends.stands (line_in_at was a) (form_in plan a) (line_in_at first a) (read.line a) old.past (h line.0 line.1 u).0)),
      ends.pieces ∙ sym (m.fresh.none (index_of (port.LineIn a))),
    )

frames_next : (size past now d d' : ℕ) → now ≡ past + 1 → d' ≡ 0 → d ≡ size → size * past + d ≡ size * now + d'
frames_next size past now d d' e none all = rw (e, none, all) (omega arith)

fence_line_out : (plan : Plan) (first : BaysView) (read : InputBytes) (old new : NodeView) (was is : BaysView) (b : ℕ) → PlanStands plan old → FenceMove old new → RetiredBy old.past old.links was is
    → ((name : PortName) → uses plan name ≡ true → done_at old name ≡ pieces_by plan name) → LineOutAt plan first read old was b → PortStands plan first read new is (port.LineOut b)
fence_line_out plan first read old new was is b p m retired done h = λ inputs may line has u.
    let had : HasLineOut old b line = ap (λ ls. slice_get ls b) (sym m.lines_out) ∙ has in
    let stood = h inputs (fence_earlier old new plan read p m inputs may) line had u in
    let place : line_out_at is b ≡ line_out_at was b = ap (λ l. get_or l b no_output) retired.line_out in
    let count = frames_next (size_of (form_out plan b)) old.past new.past (done_at old (port.LineOut b)) (done_at new (port.LineOut b)) m.past (m.fresh.none (index_of (port.LineOut b)))
    (done (port.LineOut b) u) in (
      stood.0,
      subst (λ n. AreFramesOf plan inputs b n stood.0) count stood.1,
      subst (λ v. LineMade b (form_out plan b) (line_out_at first b) v stood.0 line) (sym place) stood.2,
    )

-- ---- clients

-- A client's place is emptied where a connection that ends here is at it, which only its own may be.
fence_client : {P : Type 0} (plan : Plan) (name : PortName) (old new : NodeView) (first was is : P) (empties : Bool → P → P) (Part Then : Connection → Link → P → ℕ → Type 0) (read : List ℕ) → is_client_port name ≡ true
    → ((v : P) → empties false v ≡ v) → ((a b : Bool) (v : P) → empties (a || b) v ≡ empties b (empties a v)) → PlanStands plan old → (m : FenceMove old new) → (uses plan name ≡ true → done_at old name ≡ 1)
    → is ≡ empties (some_passes (ends_here old.past) (joins name) old.links) was
    → ((i : ℕ) (x : Connection) (link : Link) → (t : Turned old m.wholes i x link) → touches name x ≡ true → t.turns.between.entry.start ≡ old.past + 1 + 1 → read ≡ [] → Then x link first 0)
    → ((i : ℕ) (x : Connection) (link : Link) → (t : Turned old m.wholes i x link) → touches name x ≡ true → x.start ≢ old.past + 1 + 1 → (v : P) (k : ℕ) → Part x t.before v k → Then x link v k)
    → ClientStands plan old name first was empties Part read → ClientStands plan new name first is empties Then read
fence_client plan name old new first was is empties Part Then read client stays twice p m done gone starts goes_on h = record {
  started = λ i x link at has touched start.
      let t = turned plan old new p m i x link at has in
      let sound = (sound_plan plan p.accepted).entries i x at in
      let retires = client_retires plan old name i x t.before client p at t.had touched in
      subst (λ k. ClientAt empties (Then x link) is x k (done_at new name)) (sym m.past)
      (subst (λ k. ClientAt empties (Then x link) is x (old.past + 1) k) (sym (m.fresh.none (index_of name)))
      (elim (eqb_tells x.start (old.past + 1 + 1)) [
        | inl e ↦
            let late : old.past + 1 < x.start = (let s = e.1 in omega arith) in
            let w = h.waits i x at touched late in
            client_starts empties (Then x link) first was is old.past x ends stays retires late (let span = sound.span in omega arith) w.0 gone (starts i x link t touched (start_as x t.turns.between t.mid ∙ e.1) w.1)
        | inr d ↦
            client_goes_on empties (Part x t.before) (Then x link) was is old.past (done_at old name) x ends twice retires sound.start (done (uses_at plan name i x at touched)) gone (goes_on i x link t touched d.1)
            (h.started i x t.before at t.had touched (started_before x.start old.past new.past m.past start d.1))
      ]));
  waits = λ i x at touched late.
      let e = m.past in
      let span = ((sound_plan plan p.accepted).entries i x at).span in
      let link = known_at plan.connections old.links i x (sym p.count) at in
      let w = h.waits i x at touched (omega arith) in
      (place_kept empties x old.past ends was is stays (client_retires plan old name i x link.0 client p at link.1 touched) (omega arith) gone ∙ w.0, w.1);
}
  where
    ends : Bool
    ends = some_passes (ends_here old.past) (joins name) old.links

-- ---- all parts

fence_port : (plan : Plan) (first : BaysView) (read : InputBytes) (old new : NodeView) (was is : BaysView) → PlanStands plan old → FenceMove old new → RetiredBy old.past old.links was is
    → ((name : PortName) → uses plan name ≡ true → done_at old name ≡ pieces_by plan name) → (name : PortName) → PortStands plan first read old was name → PortStands plan first read new is name
fence_port plan first read old new was is p m retired done (port.LineIn a) h = fence_line_in plan first read old new was is a p m retired h
fence_port plan first read old new was is p m retired done (port.LineOut b) h = fence_line_out plan first read old new was is b p m retired done h
fence_port plan first read old new was is p m retired done (port.ClientIn n) h =
    fence_client plan (port.ClientIn n) old new (client_in_at first n) (client_in_at was n) (client_in_at is n) after_retire (GivesText first read n) (GivesText first read n) (read.client n) refl (λ v. refl) after_or p m
    (done (port.ClientIn n)) (retired.client_in n)
    (λ i x link t touched now none. subst (λ bytes. ClientInStands x (client_in_at first n) (client_in_at first n) bytes 0 link.pipe.taking) (sym none)
    (t.turns.starts.client_in now x n (client_in_at first n) t.mid (from_client n x.from touched)))
    (λ i x link t touched differ v k stood. subst (λ part. ClientInStands x (client_in_at first n) v (read.client n) k part) (sym (same_taking old m.wholes i n x link t differ (from_client n x.from touched))) stood) h
fence_port plan first read old new was is p m retired done (port.ClientOut n) h =
    fence_client plan (port.ClientOut n) old new (client_out_at first n) (client_out_at was n) (client_out_at is n) out_after_retire (GetsText plan first read old n) (GetsText plan first read new n) [] refl (λ v. refl) out_after_or p m
    (done (port.ClientOut n)) (retired.client_out n)
    (λ i x link t touched now none. λ inputs may. t.turns.starts.client_out now x n (own_input inputs x) (client_out_at first n) t.mid (to_client n x.to touched))
    (λ i x link t touched differ v k stood. λ inputs may. subst (λ part. ClientOutStands x (own_input inputs x) (client_out_at first n) v k part) (sym (same_giving old m.wholes i n x link t differ (to_client n x.to touched)))
    (stood inputs (fence_earlier old new plan read p m inputs may))) h

-- a place that is not used is not emptied
fence_idle : (plan : Plan) (old : NodeView) (was is : BaysView) → PlanStands plan old → RetiredBy old.past old.links was is → (name : PortName) → uses plan name ≡ false → place_at is name ≡ place_at was name
fence_idle plan old was is p retired (port.LineIn a) u = ap (λ l. Input (get_or l a no_input)) retired.line_in
fence_idle plan old was is p retired (port.LineOut b) u = ap (λ l. Output (get_or l b no_output)) retired.line_out
fence_idle plan old was is p retired (port.ClientIn n) u =
    ap Input (retired.client_in n ∙ ap (λ b. after_retire b (client_in_at was n)) (idle_passes (ends_here old.past) plan old (port.ClientIn n) p u))
fence_idle plan old was is p retired (port.ClientOut n) u =
    ap Output (retired.client_out n ∙ ap (λ b. out_after_retire b (client_out_at was n)) (idle_passes (ends_here old.past) plan old (port.ClientOut n) p u))

-- The end of a turn leads from any moment at which no port is ready to the first one of the next turn.
pub fence_moves : (plan : Plan) (first : BaysView) (read : InputBytes) (old new : NodeView) (was is : BaysView) → old.past < old.turns → ((name : PortName) → is_ready old name ≡ false) → FenceMove old new
    → RetiredBy old.past old.links was is → StandsAt plan first read old was → Later plan first read old new is
fence_moves plan first read old new was is going none m retired h =
    let p = h.plan_stands in
    let done = all_done plan old p going none in
    record {
      more = read;
      stands = record {
        plan_stands = fence_plan plan old new going p m;
        pipes = fence_pipes plan first read old new was p m done (λ a. h.ports (port.LineIn a)) h.pipes;
        ports = λ name. fence_port plan first read old new was is p m retired done name (h.ports name);
        idle = λ name u. fence_idle plan old was is p retired name u ∙ h.idle name u;
      };
      earlier = fence_earlier old new plan read p m;
    }
