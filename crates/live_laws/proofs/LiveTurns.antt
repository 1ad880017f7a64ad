-- What has left of a live node is due of what was handed in.
use Rattle.std.proofs.Common.{◌≡◌, ◌<◌, ◌≤◌, ◌⊎◌, ◌+◌, ◌-◌, ◌*◌, ◌%◌, ◌&&◌, ℕ, Bool, true, false, List, min, Some, slice_get, refl, ap, ◌∙◌, subst, inl, inr, arith}
use Rattle.std.specs.Prelude.{nat_le, nat_lt, if◌then◌else◌}
use Rattle.std.specs.List.{concat}
use Rattle.std.proofs.lemmas.Bool.{cases_lt}
use Rattle.std.proofs.lemmas.Bool.Decides.{nat_tests}
use Rattle.std.proofs.lemmas.Option.{slice_get_within}
use Rattle.otn_base.specs.LineSlots.{slots_of}
use Rattle.otn_base.specs.declared.kind.PortName.{PortName}
use Rattle.otn_base.specs.declared.kind.PortName.TheVariants as port
use Rattle.otn_base.specs.declared.line_kind.LineKind.{LineKind}
use Rattle.otn_base.specs.declared.line_kind.LineKind.TheVariants as kinds
use Rattle.port_base.specs.Sent.{IsSent}
use Rattle.port_base.specs.Views.{OutView, BaysView, line_out_at, client_out_at}
use Rattle.line_side.specs.LineForm.{LineForm, size_of, through_mask}
use Rattle.line_side.specs.LineOutput.{LineOutView}
use Rattle.line_side.proofs.Made.{all_due}
use Rattle.odu_client.specs.ClientOutput.{arriving_text}
use Rattle.plan_file.specs.declared.connection.Connection.{Connection}
use Rattle.plan_file.specs.declared.connection.ToEnd.TheVariants as to_end
use Rattle.plan_file.specs.declared.plan.Plan.{Plan}
use Rattle.cross_matrix.specs.Parts.{OnReceiver}
use Rattle.cross_matrix.specs.Receiving.{ReceiverStands}
use Rattle.cross_matrix.specs.declared.giving.GivingPart.{GivingPart}
use Rattle.cross_matrix.specs.declared.giving.GivingPart.TheVariants as giving
use Rattle.device_model.specs.Entries.{form_out}
use Rattle.device_model.specs.LineFiles.{AreFramesOf}
use Rattle.device_model.specs.Moments.{uses, pieces_by, turns_done, client_due, LineDue}
use Rattle.device_model.specs.Through.{Inputs, own_input, arrived_by}
use Rattle.device_model.proofs.ConnectionPorts.{uses_at}
use Rattle.turn_pieces.specs.Ports.{index_of}
use Rattle.turn_pieces.specs.Pieces.{wanted_of, is_open}
use Rattle.turn_pieces.proofs.PieceCounts.{shut_done}
use Rattle.turn_pieces.proofs.UsedPorts.{used_within, pieces_used}
use Rattle.node_links.specs.declared.link.Link.{Link}
use Rattle.node_links.proofs.Senders.{element_at}
use Rattle.node_moments.specs.NodeView.{NodeView, HasLineOut, HasLink, is_ready, done_at}
use Rattle.node_moments.specs.Stands.{InputBytes, MayGive, StandsAt}
use Rattle.node_moments.proofs.LinkPorts.{touched_out}
use Rattle.live_laws.specs.Live.{telling}
use Rattle.live_laws.specs.LiveTurns.{inputs_of, turns_out, ClientLeft, LiveTurns}
use Rattle.live_laws.proofs.MayCome.{handed_may_give}

-- ---- a port whose pieces of the turn are done

-- how many turns it has done: this one too, or, past the last, all before it
pub record Out (plan : Plan) (node : NodeView) (name : PortName) : Type 0 where
  pub turns : ℕ
  pub are : turns ≡ turns_out node
  pub done : ((turns ≡ node.past + 1) × (done_at node name ≡ pieces_by plan name)) ⊎ ((turns ≡ node.past) × (done_at node name ≡ 0))

shut : (past turns : ℕ) (opened : Bool) → past < turns → (nat_lt past turns && opened) ≡ false → opened ≡ false
shut past turns opened less e = (let on : nat_lt past turns ≡ true = grind (arith, nat_tests) in cc)

one_more : (past turns : ℕ) → past < turns → past + 1 ≡ min (past + 1) turns
one_more past turns less = omega arith

all_past : (past turns : ℕ) → turns ≤ past → past ≤ turns → past ≡ min (past + 1) turns
all_past past turns over most = omega arith

is_out : (plan : Plan) (first : BaysView) (read : InputBytes) (node : NodeView) (now : BaysView) (name : PortName) → StandsAt plan first read node now
    → is_ready node name ≡ false
    → uses plan name ≡ true → Out plan node name
is_out plan first read node now name h served used = elim (cases_lt node.past node.turns) [
  | inl less ↦
      let p = h.plan_stands in
      let closed : is_open node.pieces name ≡ false = shut node.past node.turns (is_open node.pieces name) less served in
      let all : wanted_of node.pieces name ≤ done_at node name = shut_done node.pieces name closed (used_within plan name p.accepted used) in
      let most = p.most name in
      let same : done_at node name ≡ wanted_of node.pieces name = omega arith in
      record {
        turns = node.past + 1;
        are = one_more node.past node.turns less;
        done = inl (refl, same ∙ p.wants name ∙ pieces_used plan name used);
      }
  | inr over ↦
      let p = h.plan_stands in
      record { turns = node.past; are = all_past node.past node.turns over p.past; done = inr (refl, p.over over name) }
]

-- ---- lines

of_kind : (kind : LineKind) (turns : ℕ) → (slots_of kind * turns) % 8 ≡ 0
of_kind kinds.Otu2 turns = omega arith
of_kind kinds.Otu3 turns = omega arith

whole_turns : (form : LineForm) (turns : ℕ) → (size_of form * turns) % 8 ≡ 0
whole_turns form turns = of_kind form.kind turns

frames_out : (size past done turns : ℕ) → ((turns ≡ past + 1) × (done ≡ size)) ⊎ ((turns ≡ past) × (done ≡ 0)) → size * past + done ≡ size * turns
frames_out size past done turns (inl (t, d)) = rw (t, d) (omega arith)
frames_out size past done turns (inr (t, d)) = rw (t, d) (omega arith)

none_more : (n : ℕ) → n ≡ n + 0
none_more n = omega arith

line_within : (b : ℕ) → index_of (port.LineOut b) < 40 → b < 4
line_within b h = grind (arith, nat_tests)

abbrev LineLeft : Plan → Inputs → (b turns : ℕ) → OutView → OutView → Type 0
LineLeft plan inputs b turns first now = (due : List ℕ) × LineDue plan inputs b turns 0 due × IsSent first due now

line_out : (plan : Plan) (first : BaysView) (read : InputBytes) (node : NodeView) (now : BaysView) (inputs : Inputs) (b : ℕ) (line : LineOutView)
    → StandsAt plan first read node now
    → MayGive plan read node inputs → uses plan (port.LineOut b) ≡ true → HasLineOut node b line → (o : Out plan node (port.LineOut b))
    → LineLeft plan inputs b o.turns (line_out_at first b) (line_out_at now b)
line_out plan first read node now inputs b line h may used has o =
    let form : LineForm = form_out plan b in
    let stood = h.ports (port.LineOut b) inputs may line has used in
    let frames : AreFramesOf plan inputs b (size_of form * o.turns) stood.0 =
    subst (λ n. AreFramesOf plan inputs b n stood.0) (frames_out (size_of form) node.past (done_at node (port.LineOut b)) o.turns o.done) stood.1 in
    let made = stood.2 in
    let gone : made.due ≡ through_mask form.scrambled (concat made.made) =
    all_due b form (line_out_at first b) (line_out_at now b) stood.0 line made (ap (λ n. n % 8) frames.many ∙ whole_turns form o.turns) in (
      through_mask form.scrambled (concat made.made),
      record {
        frames = made.made;
        file =
            record { puts = stood.0; are_put = subst (λ n. AreFramesOf plan inputs b n stood.0) (none_more (size_of form * o.turns)) frames; are_frames = made.are_frames };
        bytes = refl;
      },
      subst (λ due. IsSent (line_out_at first b) due (line_out_at now b)) gone made.sent,
    )

-- ---- clients

own_turns : (past start stop turns done : ℕ) → start ≤ past + 1 → ((turns ≡ past + 1) × (done ≡ 1)) ⊎ ((turns ≡ past) × (done ≡ 0))
    → min past stop - (start - 1) + (if nat_le start (past + 1) && nat_le (past + 1) stop then done else 0)
    ≡ min turns stop - (start - 1) + (if nat_le start (turns + 1) && nat_le (turns + 1) stop then 0 else 0)
own_turns past start stop turns done begun (inl (t, d)) = rw (t, d) (grind (arith, nat_tests))
own_turns past start stop turns done begun (inr (t, d)) = rw (t, d) (grind (arith, nat_tests))

receiver_sent : (part : GivingPart) (first was : OutView) (arrived : List ℕ) → OnReceiver part (ReceiverStands first was arrived)
    → IsSent first (arriving_text arrived) was
receiver_sent (giving.Line source) first was arrived h = absurd h
receiver_sent (giving.Client receiver) first was arrived h = h.sent

client_within : (n : ℕ) → index_of (port.ClientOut n) < 40 → n < 16
client_within n h = grind (arith, nat_tests)

client_out : (plan : Plan) (first : BaysView) (read : InputBytes) (node : NodeView) (now : BaysView) (inputs : Inputs) (i n : ℕ) (x : Connection)
    (link : Link)
    → StandsAt plan first read node now → MayGive plan read node inputs → slice_get plan.connections i ≡ Some x → HasLink node i link → x.to ≡ to_end.Client n
    → x.start ≤ node.past + 1
    → (o : Out plan node (port.ClientOut n)) → client_out_at first n ≡ telling
    → ClientLeft x node.past (client_due x (own_input inputs x) o.turns 0) (client_out_at now n)
client_out plan first read node now inputs i n x link h may at has to start o is =
    let c = (h.ports (port.ClientOut n)).started i x link at has (touched_out n x to) start in
    let k : ℕ = turns_done x node.past (done_at node (port.ClientOut n)) in
    let same : k ≡ turns_done x o.turns 0 = own_turns node.past x.start x.stop o.turns (done_at node (port.ClientOut n)) start o.done in
    let sent = receiver_sent link.pipe.giving (client_out_at first n) c.was (arrived_by x (own_input inputs x) k) (c.stands inputs may) in
    record {
      was = c.was;
      sent = subst (λ (v : OutView). IsSent v (client_due x (own_input inputs x) o.turns 0) c.was) is
          (subst (λ j. IsSent (client_out_at first n) (arriving_text (arrived_by x (own_input inputs x) j)) c.was) same sent);
      place = c.place;
    }

-- ---- all

pub live_turns : LiveTurns
live_turns plan handed node now h served =
    let inputs = inputs_of plan handed in
    let may : MayGive plan h.read node inputs = handed_may_give plan handed node now h in
    let p = h.stands.plan_stands in
    record {
      line = λ b used.
          let few = line_within b (used_within plan (port.LineOut b) p.accepted used) in
          let line = element_at node.lines_out b (let four = h.is.lines_out in omega arith) in
          let o = is_out plan h.first h.read node now (port.LineOut b) h.stands (served.line_out b few) used in
          let left = line_out plan h.first h.read node now inputs b line.0 h.stands may used line.1 o in
          subst (λ t. LineLeft plan inputs b t telling (line_out_at now b)) o.are
          (subst (λ (v : OutView). LineLeft plan inputs b o.turns v (line_out_at now b)) (h.opens.line_out b few) left);
      client = λ i n x at to start.
          let used = uses_at plan (port.ClientOut n) i x at (touched_out n x to) in
          let few = client_within n (used_within plan (port.ClientOut n) p.accepted used) in
          let within = slice_get_within plan.connections i x at in
          let link = element_at node.links i (let count = p.count in omega arith) in
          let o = is_out plan h.first h.read node now (port.ClientOut n) h.stands (served.client_out n few) used in
          subst (λ t. ClientLeft x node.past (client_due x (own_input inputs x) t 0) (client_out_at now n)) o.are
          (client_out plan h.first h.read node now inputs i n x link.0 h.stands may at link.1 to start o (h.opens.client_out n few));
    }
