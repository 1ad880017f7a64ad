-- What went to the outputs of a node that is past its last turn: all that was due to them.
use Rattle.std.proofs.Common.{◌≡◌, ◌<◌, ◌≤◌, ◌+◌, ◌*◌, ◌%◌, ℕ, Bool, true, false, List, [], Some, length, slice_get, arith, refl, sym, ap, subst, ◌∙◌, inl, inr}
use Rattle.std.specs.List.{Contains, concat}
use Rattle.std.proofs.lemmas.Bool.Decides.{nat_tests}
use Rattle.otn_base.specs.declared.kind.PortName.TheVariants as port
use Rattle.otn_base.specs.LineSlots.{slots_of}
use Rattle.otn_base.specs.declared.limits.TheConstants.{LINES}
use Rattle.otn_base.specs.declared.line_kind.LineKind.{LineKind}
use Rattle.otn_base.specs.declared.line_kind.LineKind.TheVariants as kinds
use Rattle.port_base.specs.Sent.{IsSent}
use Rattle.port_base.specs.Views.{OutView, BaysView, line_out_at, client_out_at}
use Rattle.line_side.specs.LineForm.{size_of, through_mask}
use Rattle.line_side.specs.LineOutput.{LineOutView, FramePut, LineMade, counted_frames}
use Rattle.line_side.proofs.Made.{all_due}
use Rattle.otn_base.specs.Counts.{saturated}
use Rattle.odu_client.specs.ClientOutput.{arriving_packets, arriving_frames}
use Rattle.plan_file.specs.declared.connection.Connection.{Connection}
use Rattle.plan_file.specs.declared.connection.ToEnd.TheVariants as to_end
use Rattle.plan_file.specs.declared.plan.Plan.{Plan}
use Rattle.device_model.specs.Entries.{form_out}
use Rattle.device_model.specs.LineFiles.{AreFramesOf, IsLineFile}
use Rattle.device_model.specs.Moments.{uses, turns_done, client_due}
use Rattle.device_model.specs.Numbers.{OutputBytes, counted_packets}
use Rattle.device_model.specs.Through.{Inputs, own_input, arrived_by}
use Rattle.cross_matrix.specs.Parts.{OnReceiver, ClientOutStands, IsReceived}
use Rattle.cross_matrix.specs.Receiving.{ReceiverView, ReceiverStands}
use Rattle.cross_matrix.specs.declared.giving.GivingPart.{GivingPart}
use Rattle.cross_matrix.specs.declared.giving.GivingPart.TheVariants as giving
use Rattle.node_moments.specs.NodeView.{NodeView, HasLineOut, HasLink, done_at}
use Rattle.turn_pieces.specs.Ports.{index_of}
use Rattle.device_model.specs.RunLeft.{OutputLeft, LineOutLeft, ClientOutLeft, OutputsLeft}
use Rattle.device_model.specs.RetiredPlaces.{out_after_retire}
use Rattle.node_moments.specs.Stands.{InputBytes, MayGive, StandsAt}
use Rattle.node_links.specs.Links.{joins}
use Rattle.node_links.specs.declared.link.Link.{Link}
use Rattle.node_moments.proofs.ClientLinks.{one_or_none}
use Rattle.node_links.proofs.LinkLaws.{to_client}
use Rattle.node_moments.proofs.LinkPorts.{joins_as, touched_out}
use Rattle.node_moments.proofs.Retired.{entry_at, at_stop}
use Rattle.node_core.proofs.NodeReads.{entry_of, found_at, none_at, all_turns, is_past}
use Rattle.node_moments.proofs.Parts.{one_at}
use Rattle.turn_pieces.proofs.UsedPorts.{used_within}
use Rattle.node_links.proofs.Senders.{element_at}

left_of : (first : OutView) (due : List ℕ) (last : OutView) → (s : IsSent first due last) → OutputLeft first due s.written last
left_of first due last s = record { rest = s.rest; parts = s.parts; gained = s.gained; whole = s.whole }

-- ---- lines

-- an output line that is used, behind the last turn
pub record LineAtEnd (plan : Plan) (inputs : Inputs) (b : ℕ) (first now : OutView) (node : NodeView) : Type 0 where
  pub line : LineOutView
  pub has : HasLineOut node b line
  pub puts : List FramePut
  pub frames : AreFramesOf plan inputs b (size_of (form_out plan b) * plan.turns) puts
  pub made : LineMade b (form_out plan b) first now puts line

line_within : (b : ℕ) → index_of (port.LineOut b) < 40 → b < 4
line_within b h = grind (arith, nat_tests)

all_frames : (size past turns done : ℕ) → past ≡ turns → done ≡ 0 → size * past + done ≡ size * turns
all_frames size past turns done e f = rw (e, f) (omega arith)

pub line_at_end : (plan : Plan) (first : BaysView) (read : InputBytes) (node : NodeView) (now : BaysView) (inputs : Inputs) → length node.lines_out ≡ LINES → StandsAt plan first read node now → node.turns ≤ node.past
    → MayGive plan read node inputs → (b : ℕ) → uses plan (port.LineOut b) ≡ true → LineAtEnd plan inputs b (line_out_at first b) (line_out_at now b) node
line_at_end plan first read node now inputs lines h over may b used =
    let p = h.plan_stands in
    let within : b < 4 = line_within b (used_within plan (port.LineOut b) p.accepted used) in
    let line = element_at node.lines_out b (omega (arith, lines)) in
    let past : node.past ≡ plan.turns = (let turns = p.turns in let most = p.past in omega arith) in
    let stood = h.ports (port.LineOut b) inputs may line.0 line.1 used in
    record {
      line = line.0;
      has = line.1;
      puts = stood.0;
      frames = subst (λ n. AreFramesOf plan inputs b n stood.0) (all_frames (size_of (form_out plan b)) node.past plan.turns (done_at node (port.LineOut b)) past (p.over over (port.LineOut b))) stood.1;
      made = stood.2;
    }

-- so many frames are whole multiframes
whole_turns : (plan : Plan) (b turns : ℕ) → (size_of (form_out plan b) * turns) % 8 ≡ 0
whole_turns plan b turns = of_kind (form_out plan b).kind turns
  where
    of_kind : (kind : LineKind) (turns : ℕ) → (slots_of kind * turns) % 8 ≡ 0
    of_kind kinds.Otu2 turns = omega arith
    of_kind kinds.Otu3 turns = omega arith

-- behind the last turn the whole file was due
all_gone : (plan : Plan) (inputs : Inputs) (b : ℕ) (first now : OutView) (node : NodeView) → (l : LineAtEnd plan inputs b first now node) → l.made.due ≡ through_mask (form_out plan b).scrambled (concat l.made.made)
all_gone plan inputs b first now node l =
    all_due b (form_out plan b) first now l.puts l.line l.made (ap (λ n. n % 8) l.frames.many ∙ whole_turns plan b plan.turns)

line_left : (plan : Plan) (inputs : Inputs) (b : ℕ) (first now : OutView) (node : NodeView) → (l : LineAtEnd plan inputs b first now node) → LineOutLeft plan inputs b first l.made.sent.written now
line_left plan inputs b first now node l = record {
  due = through_mask (form_out plan b).scrambled (concat l.made.made);
  is_due = record {
    frames = l.made.made;
    file = record { puts = l.puts; are_put = subst (λ n. AreFramesOf plan inputs b n l.puts) (omega arith) l.frames; are_frames = l.made.are_frames };
    bytes = refl;
  };
  left = record {
    rest = l.made.sent.rest;
    parts = l.made.sent.parts ∙ all_gone plan inputs b first now node l;
    gained = l.made.sent.gained;
    whole = l.made.sent.whole;
  };
}

-- what went to a line, by which its frames count
pub record LineWent (plan : Plan) (inputs : Inputs) (b : ℕ) (first now : OutView) (node : NodeView) (written : List ℕ) : Type 0 where
  pub left : LineOutLeft plan inputs b first written now
  pub line : LineOutView
  pub has : HasLineOut node b line
  pub frames : List (List ℕ)
  pub file : IsLineFile plan inputs b (size_of (form_out plan b) * plan.turns) frames
  pub counts : line.frames ≡ saturated (counted_frames first.state frames written)

line_went : (plan : Plan) (inputs : Inputs) (b : ℕ) (first now : OutView) (node : NodeView) → (l : LineAtEnd plan inputs b first now node) → LineWent plan inputs b first now node l.made.sent.written
line_went plan inputs b first now node l = record {
  left = line_left plan inputs b first now node l;
  line = l.line;
  has = l.has;
  frames = l.made.made;
  file = record { puts = l.puts; are_put = l.frames; are_frames = l.made.are_frames };
  counts = l.made.frames;
}

-- of any line, if it is used
pub some_line : (plan : Plan) (first : BaysView) (read : InputBytes) (node : NodeView) (now : BaysView) (inputs : Inputs) → length node.lines_out ≡ LINES → StandsAt plan first read node now → node.turns ≤ node.past
    → MayGive plan read node inputs → (b : ℕ) → (v : Bool) → uses plan (port.LineOut b) ≡ v
    → (written : List ℕ) × (uses plan (port.LineOut b) ≡ true → LineWent plan inputs b (line_out_at first b) (line_out_at now b) node written)
some_line plan first read node now inputs lines h over may b true e =
    let l = line_at_end plan first read node now inputs lines h over may b e in
    (l.made.sent.written, λ used. line_went plan inputs b (line_out_at first b) (line_out_at now b) node l)
some_line plan first read node now inputs lines h over may b false e = ([], λ used. absurd (cc (e, used)))

-- ---- clients

-- the receiver of a connection to a client
pub record ReceiverAt (part : GivingPart) (first now : OutView) (arrived : List ℕ) : Type 0 where
  pub receiver : ReceiverView
  pub told : (numbers : ℕ × ℕ) → IsReceived part numbers → numbers ≡ (receiver.frames, receiver.packets)
  pub stands : ReceiverStands first now arrived receiver

pub receiver_at : (part : GivingPart) (first now : OutView) (arrived : List ℕ) → OnReceiver part (ReceiverStands first now arrived) → ReceiverAt part first now arrived
receiver_at (giving.Line source) first now arrived h = absurd h
receiver_at (giving.Client receiver) first now arrived h = record { receiver = receiver; told = λ numbers received. received; stands = h }

-- the connection to a client, behind the last turn
pub record ClientAtEnd (plan : Plan) (inputs : Inputs) (i : ℕ) (x : Connection) (link : Link) (first now : OutView) : Type 0 where
  pub was : OutView
  pub at : ReceiverAt link.pipe.giving first was (arrived_by x (own_input inputs x) (turns_done x plan.turns 0))
  pub place : now ≡ out_after_retire x.retire was

pub client_at_end : (plan : Plan) (first : BaysView) (read : InputBytes) (node : NodeView) (now : BaysView) (inputs : Inputs) → StandsAt plan first read node now → node.turns ≤ node.past → MayGive plan read node inputs
    → (i n : ℕ) (x : Connection) (link : Link) → slice_get plan.connections i ≡ Some x → HasLink node i link → x.to ≡ to_end.Client n
    → ClientAtEnd plan inputs i x link (client_out_at first n) (client_out_at now n)
client_at_end plan first read node now inputs h over may i n x link at has to =
    let p = h.plan_stands in
    let end = is_past plan node i x p over at in
    let s = (h.ports (port.ClientOut n)).started i x link at has (touched_out n x to) end.start in
    let done = done_at node (port.ClientOut n) in
    let turns : turns_done x node.past done ≡ turns_done x plan.turns 0 =
    all_turns x node.past done end.stop ∙ sym (all_turns x plan.turns 0 (subst (λ k. x.stop ≤ k) end.past end.stop)) in
    record {
      was = s.was;
      at = receiver_at link.pipe.giving (client_out_at first n) s.was (arrived_by x (own_input inputs x) (turns_done x plan.turns 0))
          (subst (λ k. ClientOutStands x (own_input inputs x) (client_out_at first n) s.was k link.pipe.giving) turns (s.stands inputs may));
      place = s.place ∙ ap (λ b. out_after_retire b s.was) (at_stop x node.past end.stop);
    }

client_left : (plan : Plan) (inputs : Inputs) (i : ℕ) (x : Connection) (link : Link) (first now : OutView) → (c : ClientAtEnd plan inputs i x link first now)
    → ClientOutLeft plan inputs x first c.at.stands.sent.written now
client_left plan inputs i x link first now c = record {
  was = c.was;
  left = left_of first (client_due x (own_input inputs x) plan.turns 0) c.was c.at.stands.sent;
  place = c.place;
}

-- what went to a client, by which its packets count
pub record ClientWent (plan : Plan) (inputs : Inputs) (x : Connection) (first now : OutView) (node : NodeView) (written : List ℕ) : Type 0 where
  pub left : ClientOutLeft plan inputs x first written now
  pub i : ℕ
  pub link : Link
  pub at_i : slice_get plan.connections i ≡ Some x
  pub has : HasLink node i link
  pub counts : (numbers : ℕ × ℕ) → IsReceived link.pipe.giving numbers
      → numbers ≡ (saturated (arriving_frames (arrived_by x (own_input inputs x) (turns_done x plan.turns 0))), saturated (counted_packets first.state (arriving_packets (arrived_by x (own_input inputs x) (turns_done x plan.turns 0))) written))

client_went : (plan : Plan) (inputs : Inputs) (i : ℕ) (x : Connection) (link : Link) (first now : OutView) (node : NodeView) → slice_get plan.connections i ≡ Some x → HasLink node i link
    → (c : ClientAtEnd plan inputs i x link first now) → ClientWent plan inputs x first now node c.at.stands.sent.written
client_went plan inputs i x link first now node at has c = record {
  left = client_left plan inputs i x link first now c;
  i = i;
  link = link;
  at_i = at;
  has = has;
  counts = λ numbers received.
      c.at.told numbers received ∙ both c.at.stands.frames c.at.stands.packets;
}
  where
    both : {a b c d : ℕ} → a ≡ c → b ≡ d → ◌≡◌ {A = ℕ × ℕ} (a, b) (c, d)
    both e f = rw (e, f) refl

-- of any client, if a connection goes to it
pub some_client : (plan : Plan) (first : BaysView) (read : InputBytes) (node : NodeView) (now : BaysView) (inputs : Inputs) → StandsAt plan first read node now → node.turns ≤ node.past → MayGive plan read node inputs → (n : ℕ)
    → (written : List ℕ) × ((x : Connection) → Contains plan.connections x → x.to ≡ to_end.Client n → ClientWent plan inputs x (client_out_at first n) (client_out_at now n) node written)
some_client plan first read node now inputs h over may n = elim (one_or_none (joins (port.ClientOut n)) node.links) [
  | inl s ↦
      let p = h.plan_stands in
      let e = entry_at plan node s.i s.link p s.known in
      let goes : e.0.to ≡ to_end.Client n = to_client n e.0.to (sym (joins_as (port.ClientOut n) e.0 s.link e.1.1) ∙ s.passes) in
      let c = client_at_end plan first read node now inputs h over may s.i n e.0 s.link e.1.0 s.known goes in (
        c.at.stands.sent.written,
        λ x is_of to.
            let same : is_of.0 ≡ s.i = sym (found_at plan node (port.ClientOut n) s.i is_of.0 x s.link refl p s.known s.passes (entry_of plan x is_of) (touched_out n x to)) in
            let at_i : slice_get plan.connections s.i ≡ Some x = subst (λ k. slice_get plan.connections k ≡ Some x) same (entry_of plan x is_of) in
            let one : e.0 ≡ x = one_at plan.connections s.i e.0 x e.1.0 at_i in
            subst (λ y. ClientWent plan inputs y (client_out_at first n) (client_out_at now n) node c.at.stands.sent.written) one
            (client_went plan inputs s.i e.0 s.link (client_out_at first n) (client_out_at now n) node e.1.0 s.known c),
      )
  | inr none ↦ ([], λ x is_of to. absurd (none_at plan node (port.ClientOut n) is_of.0 x h.plan_stands none (entry_of plan x is_of) (touched_out n x to)))
]

-- ---- all

-- what went to each output that the plan uses
pub record AllWent (plan : Plan) (inputs : Inputs) (first now : BaysView) (node : NodeView) (written : OutputBytes) : Type 0 where
  pub line : (b : ℕ) → uses plan (port.LineOut b) ≡ true → LineWent plan inputs b (line_out_at first b) (line_out_at now b) node (written.line b)
  pub client : (x : Connection) (n : ℕ) → Contains plan.connections x → x.to ≡ to_end.Client n → ClientWent plan inputs x (client_out_at first n) (client_out_at now n) node (written.client n)

pub all_went : (plan : Plan) (first : BaysView) (read : InputBytes) (node : NodeView) (now : BaysView) (inputs : Inputs) → length node.lines_out ≡ LINES → StandsAt plan first read node now → node.turns ≤ node.past
    → MayGive plan read node inputs → (written : OutputBytes) × AllWent plan inputs first now node written
all_went plan first read node now inputs lines h over may =
    let line = λ (b : ℕ). some_line plan first read node now inputs lines h over may b (uses plan (port.LineOut b)) refl in
    let client = some_client plan first read node now inputs h over may in (
      record { line = λ b. (line b).0; client = λ n. (client n).0 },
      record { line = λ b used. (line b).1 used; client = λ x n is_of to. (client n).1 x is_of to },
    )

pub outputs_left : (plan : Plan) (inputs : Inputs) (first now : BaysView) (node : NodeView) (written : OutputBytes) → AllWent plan inputs first now node written → OutputsLeft plan inputs first written now
outputs_left plan inputs first now node written all = record {
  line = λ b used. (all.line b used).left;
  client = λ x n is_of to. (all.client x n is_of to).left;
}
