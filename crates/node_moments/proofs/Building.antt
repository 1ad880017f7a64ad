-- A node before turn 1 of a plan stands at its first moment.
use Rattle.std.proofs.Common.{◌≡◌, ◌≤◌, ◌+◌, ◌*◌, ℕ, Bool, true, false, None, [], arith, refl, sym, ap, subst, ◌∙◌}
use Rattle.otn_base.specs.declared.kind.PortName.{PortName}
use Rattle.otn_base.specs.declared.kind.PortName.TheVariants as port
use Rattle.port_base.specs.Views.{BaysView, line_in_at, line_out_at, client_in_at, client_out_at}
use Rattle.line_side.specs.LineForm.{size_of}
use Rattle.line_side.specs.LineStands.{LineStands}
use Rattle.plan_file.specs.Answer.{fault_in}
use Rattle.plan_file.specs.declared.connection.Connection.{Connection}
use Rattle.plan_file.specs.declared.plan.Plan.{Plan}
use Rattle.device_model.specs.Entries.{form_in, form_out, own_turn}
use Rattle.device_model.specs.LineFiles.{AreFramesOf}
use Rattle.device_model.specs.Moments.{touches, pieces_of, turns_done}
use Rattle.device_model.specs.Through.{Inputs, own_input}
use Rattle.device_model.proofs.SoundPlans.{sound_plan}
use Rattle.cross_matrix.specs.Pipes.{PipeStands}
use Rattle.node_moments.specs.Built.{AreNewLinesIn, AreNewLinesOut, IsNewLink, AreNewLinks}
use Rattle.node_moments.specs.NodeView.{NodeView, done_at, taken_pieces, given_pieces}
use Rattle.turn_pieces.specs.Pieces.{wanted_of, IsFresh}
use Rattle.turn_pieces.specs.Ports.{index_of}
use Rattle.device_model.specs.RetiredPlaces.{after_retire, out_after_retire}
use Rattle.node_moments.specs.Stands.{PlanStands, PipesStand, ClientStands, GivesText, GetsText, PortStands, StandsAt, no_bytes}
use Rattle.node_links.specs.declared.link.Link.{Link}
use Rattle.node_moments.proofs.ClientTurns.{none_done}
use Rattle.node_links.proofs.LinkLaws.{still_link, start_as, from_client, to_client}
use Rattle.node_moments.proofs.LinkPorts.{none_taken, none_given}
use Rattle.node_moments.proofs.LinkTurns.{input_kind, at_start}
use Rattle.node_moments.proofs.Retired.{not_retired}

-- a node before turn 1 of the plan
pub record IsNewNode (plan : Plan) (node : NodeView) : Type 0 where
  pub turns : node.turns ≡ plan.turns
  pub past : node.past ≡ 0
  pub wants : (name : PortName) → wanted_of node.pieces name ≡ pieces_of plan name
  pub fresh : IsFresh node.pieces
  pub lines_in : AreNewLinesIn plan node.lines_in
  pub lines_out : AreNewLinesOut plan node.lines_out
  pub links : AreNewLinks plan node.links

-- of a new node no piece is done
none_yet : (plan : Plan) (node : NodeView) → IsNewNode plan node → (name : PortName) → done_at node name ≡ 0
none_yet plan node new name = new.fresh.none (index_of name)

first_plan : (plan : Plan) (node : NodeView) → fault_in plan ≡ None → IsNewNode plan node → PlanStands plan node
first_plan plan node accepted new = record {
  accepted = accepted;
  turns = new.turns;
  past = omega (arith, new.past);
  wants = new.wants;
  most = λ name. omega (arith, new.fresh.none (index_of name));
  over = λ over name. new.fresh.none (index_of name);
  count = new.links.count;
  links = λ i x link at has. let made = new.links.each i x link at has in still_link x made.made link made.starts.same made.is;
}

-- an active connection has started with turn 1
first_pipe : (inputs : Inputs) (x : Connection) (link : Link) → IsNewLink x link → x.start ≤ 1 → PipeStands x (own_input inputs x) 0 [] false 0 link.pipe
first_pipe inputs x link new start =
    let now : new.made.entry.start ≡ 0 + 1 = omega (arith, start_as x new.made new.is, new.is.first) in
    new.starts.stands now x (own_input inputs x) new.is (input_kind inputs x.from)

-- a plan has a turn, which a new node has not done
not_past : (plan : Plan) (node : NodeView) → fault_in plan ≡ None → IsNewNode plan node → node.turns ≤ node.past → ⊥
not_past plan node accepted new over = let some = (sound_plan plan accepted).turns_least in omega (arith, new.past, new.turns)

first_pipes : (plan : Plan) (node : NodeView) → fault_in plan ≡ None → IsNewNode plan node → PipesStand plan no_bytes node
first_pipes plan node accepted new = record {
  each = λ inputs may i x link at has active.
      let start : x.start ≤ 1 = (let a = active.start in let past = new.past in omega arith) in
      let zeroth : 0 ≡ own_turn x node.past = (let past = new.past in omega arith) in
      at_start plan inputs x node.past (own_turn x node.past) (taken_pieces node x.from) (given_pieces node x.to) link.pipe (none_taken node (none_yet plan node new) x.from) (none_given node (none_yet plan node new) x.to)
      (subst (λ j. PipeStands x (own_input inputs x) j [] false 0 link.pipe) zeroth (first_pipe inputs x link (new.links.each i x link at has) start));
  last = λ inputs may i x link at has stop.
      let first = (new.links.each i x link at has).is.first in
      let span = ((sound_plan plan accepted).entries i x at).span in
      absurd (omega (arith, stop, new.past));
}

no_frames_yet : (size past done : ℕ) → past ≡ 0 → done ≡ 0 → 0 ≡ size * past + done
no_frames_yet size past done e f = rw (e, f) (omega arith)

no_puts : (plan : Plan) (inputs : Inputs) (b count : ℕ) → 0 ≡ count → AreFramesOf plan inputs b count []
no_puts plan inputs b count e = record { many = e; each = λ f put at. absurd (cc) }

-- ---- ports

first_client : {P : Type 0} (plan : Plan) (node : NodeView) (name : PortName) (first : P) (empties : Bool → P → P) (Part : Connection → Link → P → ℕ → Type 0) → ((v : P) → empties false v ≡ v) → fault_in plan ≡ None → IsNewNode plan node
    → ((x : Connection) (link : Link) → touches name x ≡ true → (new : IsNewLink x link) → new.made.entry.start ≡ 0 + 1 → Part x link first 0) → ClientStands plan node name first first empties Part []
first_client plan node name first empties Part stays accepted new starts = record {
  started = λ i x link at has touched start.
      let made = new.links.each i x link at has in
      let past = new.past in
      let least = made.is.first in
      let span = ((sound_plan plan accepted).entries i x at).span in
      let now : made.made.entry.start ≡ 0 + 1 = (let same = start_as x made.made made.is in omega arith) in
      let none : 0 ≡ turns_done x node.past (done_at node name) = sym (ap (turns_done x node.past) (none_yet plan node new name) ∙ none_done x node.past (omega arith)) in
      record {
        was = first;
        stands = subst (λ k. Part x link first k) none (starts x link touched made now);
        place = sym (ap (λ b. empties b first) (not_retired x node.past (omega arith)) ∙ stays first);
      };
  waits = λ i x at touched late. (refl, refl);
}

first_port : (plan : Plan) (node : NodeView) (first : BaysView) → fault_in plan ≡ None → IsNewNode plan node → (name : PortName) → PortStands plan first no_bytes node first name
first_port plan node first accepted new (port.LineIn a) = λ line has u. (
  subst (λ t. LineStands (form_in plan a) (line_in_at first a) (line_in_at first a) [] t line) (sym new.past) (new.lines_in.stands a line has (line_in_at first a)),
  new.lines_in.pieces a line has ∙ sym (none_yet plan node new (port.LineIn a)),
)
first_port plan node first accepted new (port.LineOut b) = λ inputs may line has u. (
  [],
  no_puts plan inputs b (size_of (form_out plan b) * node.past + done_at node (port.LineOut b))
      (no_frames_yet (size_of (form_out plan b)) node.past (done_at node (port.LineOut b)) new.past (none_yet plan node new (port.LineOut b))),
  new.lines_out.made b line has (line_out_at first b),
)
first_port plan node first accepted new (port.ClientIn n) = first_client plan node (port.ClientIn n) (client_in_at first n) after_retire (GivesText first no_bytes n) (λ v. refl) accepted new
    (λ x link touched made now. made.starts.client_in now x n (client_in_at first n) made.is (from_client n x.from touched))
first_port plan node first accepted new (port.ClientOut n) = first_client plan node (port.ClientOut n) (client_out_at first n) out_after_retire (GetsText plan first no_bytes node n) (λ v. refl) accepted new
    (λ x link touched made now. λ inputs may. made.starts.client_out now x n (own_input inputs x) (client_out_at first n) made.is (to_client n x.to touched))

-- whatever the bays are
pub first_moment : (plan : Plan) (node : NodeView) → fault_in plan ≡ None → IsNewNode plan node → (first : BaysView) → StandsAt plan first no_bytes node first
first_moment plan node accepted new first = record {
  plan_stands = first_plan plan node accepted new;
  pipes = first_pipes plan node accepted new;
  ports = first_port plan node first accepted new;
  idle = λ name u. refl;
}
