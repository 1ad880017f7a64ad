-- A node past its last turn, once it is settled.
use Rattle.std.proofs.Common.{◌≡◌, ◌⊎◌, inl, inr, ◌<◌, ◌≤◌, ◌-◌, ◌∙◌, ◌&&◌, ◌||◌, ℕ, suc, Bool, true, false, List, ◌++◌, length, Some, slice_get, get_or, refl, sym, ap, subst, arith}
use Rattle.std.specs.Prelude.{not, nat_lt, min}
use Rattle.std.specs.List.{Contains}
use Rattle.std.proofs.lemmas.Bool.{and_parts, and_from}
use Rattle.std.proofs.lemmas.Bool.Decides.{nat_tests}
use Rattle.std.proofs.lemmas.Option.{slice_get_within, get_or_from_slice_get}
use Rattle.otn_base.specs.declared.kind.PortName.{PortName}
use Rattle.otn_base.specs.declared.kind.PortName.TheVariants as port
use Rattle.otn_base.specs.declared.limits.TheConstants.{LINES}
use Rattle.port_base.specs.Places.{input_of, output_of}
use Rattle.port_base.specs.Views.{is_dead, BaysView, line_in_at, client_in_at, no_input, no_output}
use Rattle.line_side.specs.LineStands.{LineView, LineStands}
use Rattle.packet_text.specs.LinesStand.{ReadAsNeeded}
use Rattle.odu_client.specs.ClientInput.{is_spent, emitted_before, input_given, packets_asked}
use Rattle.plan_file.specs.declared.connection.Connection.{Connection}
use Rattle.plan_file.specs.declared.connection.FromEnd.TheVariants as from_end
use Rattle.plan_file.specs.declared.plan.Plan.{Plan}
use Rattle.device_model.specs.Entries.{form_in, first_turn}
use Rattle.device_model.specs.Moments.{uses, line_read, turns_done, is_retired}
use Rattle.device_model.specs.Outcomes.{place_state, HasDead, HasMore, HasOpen, IsOutcome, emitted_in_all}
use Rattle.device_model.specs.Through.{Inputs, of_client}
use Rattle.device_model.specs.SoundPlans.{IsSoundEntry}
use Rattle.device_model.proofs.SoundPlans.{sound_plan}
use Rattle.cross_matrix.specs.Parts.{MayShow}
use Rattle.port_base.proofs.GivenLaws.{dead_of}
use Rattle.port_base.specs.Asked.{has_come, ByteAsked}
use Rattle.device_model.specs.LineAsked.{is_seen}
use Rattle.node_core.specs.Asking.{asks_line, LinesAsked}
use Rattle.node_core.specs.Steps.Asking.{LinesAnswer, is_cut, CutAnswer, SaysSpent, OpenLink, OpensAnswer, outcome_by}
use Rattle.node_moments.specs.NodeView.{NodeView, HasLineIn, HasLink, IsNode, done_at}
use Rattle.turn_pieces.specs.Pieces.{wanted_of}
use Rattle.turn_pieces.specs.Ports.{index_of, port_count}
use Rattle.device_model.specs.RunLeft.{Takings, MayBeInputs, ClientInLeft, SamePlace}
use Rattle.node_core.specs.Settling.{Settled}
use Rattle.device_model.specs.RetiredPlaces.{after_retire}
use Rattle.node_moments.specs.Stands.{InputBytes, MayGive, PlanStands, ClientAt, GivesText, StandsAt}
use Rattle.node_links.specs.declared.link.Link.{Link}
use Rattle.turn_pieces.proofs.PortNumbers.{line_in_index}
use Rattle.node_links.proofs.LinkLaws.{from_as, from_client}
use Rattle.node_moments.proofs.LinkPorts.{joins_as, touched_in}
use Rattle.node_moments.proofs.Retired.{entry_at, sole_passes, at_stop}
use Rattle.node_core.proofs.NodeReads.{entry_of, link_at, all_turns}
use Rattle.device_model.proofs.ConnectionPorts.{from_client_used}
use Rattle.turn_pieces.proofs.UsedPorts.{used_within, used_pieces}
use Rattle.device_model.proofs.SettledLines.{may_at_end, EndOfLine, end_of_line, line_left}
use Rattle.node_core.proofs.SettledClients.{goes_on, more_of, text_left, text_may, more_before, died_before, text_read}
use Rattle.node_links.proofs.Senders.{element_at}

-- ---- the plan

-- a port has pieces exactly where the plan uses it
pub wanted_used : (plan : Plan) (node : NodeView) (name : PortName) → PlanStands plan node → nat_lt 0 (wanted_of node.pieces name) ≡ uses plan name
wanted_used plan node name p = ap (nat_lt 0) (p.wants name) ∙ used_pieces plan name

-- all turns are past
pub turns_past : (plan : Plan) (node : NodeView) → PlanStands plan node → node.turns ≤ node.past → node.past ≡ plan.turns
turns_past plan node p over = let e = p.turns in let few = p.past in omega (arith, e, few, over)

contains : (xs : List Connection) (i : ℕ) (x : Connection) → slice_get xs i ≡ Some x → Contains xs x
contains xs i x at = (i, slice_get_within xs i x at, get_or_from_slice_get xs i x x at)

-- ---- a line that is used

pub record LineUsed (plan : Plan) (first was is : BaysView) (read : InputBytes) (node : NodeView) (a : ℕ) (further : List ℕ) (line : LineView) : Type 0 where
  pub stands : LineStands (form_in plan a) (line_in_at first a) (line_in_at was a) (read.line a) node.past line
  pub none : line.pieces ≡ 0
  pub asked : ByteAsked (not (is_seen line.reader.ending)) (line_in_at was a) (line_in_at is a) further

pub used_line_at : (plan : Plan) (first was is : BaysView) (read : InputBytes) (node : NodeView) (a : ℕ) (line : LineView) → node.turns ≤ node.past → StandsAt plan first read node was
    → (asked : LinesAsked LINES node.pieces node.lines_in was is) → uses plan (port.LineIn a) ≡ true → HasLineIn node a line → LineUsed plan first was is read node a (asked.further a) line
used_line_at plan first was is read node a line over st asked used has =
    let p = st.plan_stands in
    let h = st.ports (port.LineIn a) line has used in
    let less : a < LINES = (line_in_index a (used_within plan (port.LineIn a) p.accepted used)).0 in
    let asks : asks_line node.pieces a line ≡ not (is_seen line.reader.ending) = ap (λ b. b && not (is_seen line.reader.ending)) (wanted_used plan node (port.LineIn a) p ∙ used) in
    record {
      stands = h.0;
      none = h.1 ∙ p.over over (port.LineIn a);
      asked = subst (λ b. ByteAsked b (line_in_at was a) (line_in_at is a) (asked.further a)) asks (asked.each a line less has);
    }

-- the line that it is
pub record UsedLine (plan : Plan) (first was is : BaysView) (read : InputBytes) (node : NodeView) (a : ℕ) (further : List ℕ) : Type 0 where
  pub line : LineView
  pub has : HasLineIn node a line
  pub used : LineUsed plan first was is read node a further line

pub used_line : (plan : Plan) (first was is : BaysView) (read : InputBytes) (node : NodeView) (a : ℕ) → IsNode node → node.turns ≤ node.past → StandsAt plan first read node was
    → (asked : LinesAsked LINES node.pieces node.lines_in was is) → uses plan (port.LineIn a) ≡ true → UsedLine plan first was is read node a (asked.further a)
used_line plan first was is read node a n over st asked used =
    let less : a < 4 = (line_in_index a (used_within plan (port.LineIn a) st.plan_stands.accepted used)).0 in
    let count = n.lines_in in
    let line = element_at node.lines_in a (omega (arith, less, count)) in
    record { line = line.0; has = line.1; used = used_line_at plan first was is read node a line.0 over st asked used line.1 }

-- one that is not used was not asked
line_idle : (plan : Plan) (was is : BaysView) (node : NodeView) (a : ℕ) → IsNode node → PlanStands plan node → LinesAsked LINES node.pieces node.lines_in was is → uses plan (port.LineIn a) ≡ false
    → line_in_at is a ≡ line_in_at was a
line_idle plan was is node a n p asked unused = go (nat_lt a 4) refl
  where
    go : (b : Bool) → nat_lt a 4 ≡ b → line_in_at is a ≡ line_in_at was a
    go false e = (asked.rest a (grind (arith, nat_tests))).0
    go true e =
        let less : a < 4 = grind (arith, nat_tests) in
        let count = n.lines_in in
        let line = element_at node.lines_in a (omega (arith, less, count)) in
        ((asked.each a line.0 less line.1).quiet (ap (λ b. b && not (is_seen line.0.reader.ending)) (wanted_used plan node (port.LineIn a) p ∙ unused))).0

-- a line of which a byte came is used
came_used : (plan : Plan) (was is : BaysView) (node : NodeView) (a : ℕ) → IsNode node → PlanStands plan node → (asked : LinesAsked LINES node.pieces node.lines_in was is) → a < 4 → has_come (asked.further a) ≡ true
    → uses plan (port.LineIn a) ≡ true
came_used plan was is node a n p asked less further = go (uses plan (port.LineIn a)) refl
  where
    go : (b : Bool) → uses plan (port.LineIn a) ≡ b → b ≡ true
    go true e = refl
    go false e =
        let count = n.lines_in in
        let line = element_at node.lines_in a (omega (arith, less, count)) in
        let none = ((asked.each a line.0 less line.1).quiet (ap (λ b. b && not (is_seen line.0.reader.ending)) (wanted_used plan node (port.LineIn a) p ∙ e))).1 in
        sym (ap has_come none) ∙ further

-- ---- a client that is used

-- what is known of the client of a connection
pub record UsedClient (plan : Plan) (first was : BaysView) (read : InputBytes) (node : NodeView) (x : Connection) (n : ℕ) (link : Link) : Type 0 where
  pub at_end : ClientAt after_retire (GivesText first read n x link) (client_in_at was n) x node.past (done_at node (port.ClientIn n))
  pub retired : is_retired x node.past ≡ x.retire
  pub done : turns_done x node.past (done_at node (port.ClientIn n)) ≡ x.stop - first_turn x

used_client : (plan : Plan) (first was : BaysView) (read : InputBytes) (node : NodeView) (i n : ℕ) (x : Connection) (link : Link) → node.turns ≤ node.past → StandsAt plan first read node was
    → slice_get plan.connections i ≡ Some x → HasLink node i link → x.from ≡ from_end.Client n → UsedClient plan first was read node x n link
used_client plan first was read node i n x link over st at has from =
    let p = st.plan_stands in
    let sound : IsSoundEntry plan x = (sound_plan plan p.accepted).entries i x at in
    let span = sound.span in
    let stop = sound.stop in
    let turns = turns_past plan node p over in
    let most : x.stop ≤ node.past = omega (arith, stop, turns) in
    record {
      at_end = (st.ports (port.ClientIn n)).started i x link at has (touched_in n x from) (omega (arith, span, most));
      retired = at_stop x node.past most;
      done = all_turns x node.past (done_at node (port.ClientIn n)) most;
    }

-- its place at the end
client_place : (plan : Plan) (first was is : BaysView) (read : InputBytes) (node : NodeView) (x : Connection) (n : ℕ) (link : Link) → is.client_in ≡ was.client_in → (u : UsedClient plan first was read node x n link)
    → client_in_at is n ≡ after_retire x.retire u.at_end.was
client_place plan first was is read node x n link same u = ap (λ l. get_or l n no_input) same ∙ u.at_end.place ∙ ap (λ b. after_retire b u.at_end.was) u.retired

-- ---- what was taken

abbrev takings_of : (read : InputBytes) → (further : ℕ → List ℕ) → NodeView → (first is : BaysView) → Takings
takings_of read further node first is = record {
  line = λ a. read.line a ++ further a;
  line_more = λ a. has_come (further a);
  client = read.client;
  client_more = λ n. more_of n node.links (client_in_at first n) (client_in_at is n);
}

client_left_at : (plan : Plan) (first was is : BaysView) (read : InputBytes) (node : NodeView) (i n : ℕ) (x : Connection) (link : Link) → node.turns ≤ node.past → StandsAt plan first read node was
    → is.client_in ≡ was.client_in → slice_get plan.connections i ≡ Some x → HasLink node i link → x.from ≡ from_end.Client n
    → ClientInLeft x.retire (client_in_at first n) (client_in_at is n) (read.client n) (more_of n node.links (client_in_at first n) (client_in_at is n))
client_left_at plan first was is read node i n x link over st same at has from =
    let u = used_client plan first was read node i n x link over st at has from in
    let place = client_place plan first was is read node x n link same u in
    record {
      was = u.at_end.was;
      left = text_left x (client_in_at first n) u.at_end.was (read.client n) (turns_done x node.past (done_at node (port.ClientIn n))) link.pipe.taking (more_of n node.links (client_in_at first n) (client_in_at is n)) u.at_end.stands
          (more_before n node.links (client_in_at first n) u.at_end.was (client_in_at is n) x.retire link.pipe.taking place (sole_passes (λ l. goes_on l.pipe.taking) plan node (port.ClientIn n) i x link refl st.plan_stands at has (touched_in n x from)));
      place = place;
    }

client_may_at : (plan : Plan) (first was is : BaysView) (read : InputBytes) (further : ℕ → List ℕ) (node : NodeView) (inputs : Inputs) (i n : ℕ) (x : Connection) (link : Link) → node.turns ≤ node.past
    → StandsAt plan first read node was → is.client_in ≡ was.client_in → MayBeInputs plan first is (takings_of read further node first is) inputs → slice_get plan.connections i ≡ Some x → HasLink node i link
    → x.from ≡ from_end.Client n → MayShow link.pipe.taking (read.client n) (of_client (inputs.client n))
client_may_at plan first was is read further node inputs i n x link over st same may at has from =
    let u = used_client plan first was read node i n x link over st at has from in
    let place = client_place plan first was is read node x n link same u in
    let m = may.client n (from_client_used plan i n x at from) in
    text_may x (client_in_at first n) u.at_end.was (read.client n) m.0 (turns_done x node.past (done_at node (port.ClientIn n))) link.pipe.taking (more_of n node.links (client_in_at first n) (client_in_at is n)) (inputs.client n)
    u.at_end.stands
    (more_before n node.links (client_in_at first n) u.at_end.was (client_in_at is n) x.retire link.pipe.taking place (sole_passes (λ l. goes_on l.pipe.taking) plan node (port.ClientIn n) i x link refl st.plan_stands at has (touched_in n x from)))
    m.1
    (m.2 ∙ ap (λ d. input_given d m.0) (died_before (client_in_at first n) u.at_end.was (client_in_at is n) x.retire place))

line_end_at : (plan : Plan) (first was is : BaysView) (read : InputBytes) (node : NodeView) (inputs : Inputs) (a : ℕ) (further : ℕ → List ℕ) → UsedLine plan first was is read node a (further a)
    → MayBeInputs plan first is (takings_of read further node first is) inputs → uses plan (port.LineIn a) ≡ true → EndOfLine (form_in plan a) (read.line a) (further a) (inputs.line a) node.past
line_end_at plan first was is read node inputs a further u may used =
    let m = may.line a used in
    end_of_line (form_in plan a) (line_in_at first a) (line_in_at was a) (line_in_at is a) (read.line a) (further a) m.0 (inputs.line a) node.past u.line u.used.stands u.used.none u.used.asked m.1 m.2

-- what the inputs may turn out to be at the end they might be before it was settled
may_before : (plan : Plan) (first was is : BaysView) (read : InputBytes) (node : NodeView) (inputs : Inputs) → node.turns ≤ node.past → StandsAt plan first read node was
    → (asked : LinesAsked LINES node.pieces node.lines_in was is) → MayBeInputs plan first is (takings_of read asked.further node first is) inputs → MayGive plan read node inputs
may_before plan first was is read node inputs over st asked may = record {
  lines = λ a line has used.
      let u = used_line_at plan first was is read node a line over st asked used has in
      let m = may.line a used in
      may_at_end (form_in plan a) (line_in_at first a) (line_in_at was a) (line_in_at is a) (read.line a) (asked.further a) m.0 (inputs.line a) node.past line u.stands u.asked m.1 m.2;
  clients = λ i n x link at has from start. client_may_at plan first was is read asked.further node inputs i n x link over st asked.client_in may at has from;
}

-- ---- how it ends

some_dead : (plan : Plan) (node : NodeView) (is : BaysView) (name : PortName) → PlanStands plan node → is_cut node.pieces is name ≡ true → HasDead plan is
some_dead plan node is name p cut =
    let parts = and_parts (nat_lt 0 (wanted_of node.pieces name)) (is_dead (place_state is name)) cut in
    record { name = name; used = sym (wanted_used plan node name p) ∙ parts.0; dead = dead_of (place_state is name) parts.1 }

none_dead : (plan : Plan) (node : NodeView) (is : BaysView) → PlanStands plan node → ((name : PortName) → index_of name < port_count → is_cut node.pieces is name ≡ false) → HasDead plan is → ⊥
none_dead plan node is p none d =
    let cut : is_cut node.pieces is d.name ≡ true = and_from (nat_lt 0 (wanted_of node.pieces d.name)) (is_dead (place_state is d.name)) (wanted_used plan node d.name p ∙ d.used) (ap is_dead d.dead) in
    let alive = none d.name (used_within plan d.name p.accepted d.used) in
    absurd (cc)

-- what a connection says of its client is so
says_at : (plan : Plan) (first was is : BaysView) (read : InputBytes) (further : ℕ → List ℕ) (node : NodeView) (inputs : Inputs) (i n : ℕ) (x : Connection) (link : Link) (says : Bool) → node.turns ≤ node.past
    → StandsAt plan first read node was → is.client_in ≡ was.client_in → MayBeInputs plan first is (takings_of read further node first is) inputs → slice_get plan.connections i ≡ Some x → HasLink node i link
    → x.from ≡ from_end.Client n → SaysSpent link says → says ≡ is_spent (inputs.client n) x.fcs (emitted_in_all x)
says_at plan first was is read further node inputs i n x link says over st same may at has from h =
    let u = used_client plan first was read node i n x link over st at has from in
    h x (client_in_at first n) u.at_end.was (read.client n) (turns_done x node.past (done_at node (port.ClientIn n))) (inputs.client n) u.at_end.stands
    (client_may_at plan first was is read further node inputs i n x link over st same may at has from)
    ∙ ap (λ k. is_spent (inputs.client n) x.fcs (emitted_before x.pace k)) u.done

some_open : (plan : Plan) (first was is : BaysView) (read : InputBytes) (further : ℕ → List ℕ) (node : NodeView) (inputs : Inputs) → node.turns ≤ node.past
    → StandsAt plan first read node was → is.client_in ≡ was.client_in → MayBeInputs plan first is (takings_of read further node first is) inputs → OpenLink node.links → HasOpen plan inputs
some_open plan first was is read further node inputs over st same may o =
    let e = entry_at plan node o.i o.link st.plan_stands o.known in
    let from : e.0.from ≡ from_end.Client o.n = from_client o.n e.0.from (sym (joins_as (port.ClientIn o.n) e.0 o.link e.1.1) ∙ touched_in o.n o.link.entry o.from) in
    record {
      x = e.0;
      n = o.n;
      is_of = contains plan.connections o.i e.0 e.1.0;
      from = from;
      unspent = sym (says_at plan first was is read further node inputs o.i o.n e.0 o.link false over st same may e.1.0 o.known from o.unspent);
    }

none_open : (plan : Plan) (first was is : BaysView) (read : InputBytes) (further : ℕ → List ℕ) (node : NodeView) (inputs : Inputs) → node.turns ≤ node.past
    → StandsAt plan first read node was → is.client_in ≡ was.client_in → MayBeInputs plan first is (takings_of read further node first is) inputs
    → ((i n : ℕ) (link : Link) → slice_get node.links i ≡ Some link → link.entry.from ≡ from_end.Client n → SaysSpent link true) → HasOpen plan inputs → ⊥
none_open plan first was is read further node inputs over st same may none o =
    let at = entry_of plan o.x o.is_of in
    let link = link_at plan node o.is_of.0 o.x st.plan_stands at in
    let from : link.link.entry.from ≡ from_end.Client o.n = from_as o.x link.link link.is ∙ o.from in
    let says = says_at plan first was is read further node inputs o.is_of.0 o.n o.x link.link true over st same may at link.has o.from (none o.is_of.0 o.n link.link link.has from) in
    let un = o.unspent in
    absurd (cc)

or_cases : (a b : Bool) → (a || b) ≡ true → (a ≡ true) ⊎ (b ≡ true)
or_cases true b e = inl refl
or_cases false b e = inr e

or_parts : (a b : Bool) → (a || b) ≡ false → (a ≡ false) × (b ≡ false)
or_parts true b e = absurd (cc)
or_parts false b e = (refl, e)

is_outcome : (plan : Plan) (inputs : Inputs) (is : BaysView) (dead more : Bool) → (dead ≡ true → HasDead plan is) → (dead ≡ false → HasDead plan is → ⊥)
    → (more ≡ true → HasMore plan inputs ⊎ HasOpen plan inputs) → (more ≡ false → HasMore plan inputs ⊎ HasOpen plan inputs → ⊥) → IsOutcome plan inputs is (outcome_by dead more)
is_outcome plan inputs is true more d n m o = record { cut = (λ _. d refl, λ _. refl); unfinished = (λ e. absurd (cc), λ u. absurd (u.0 (d refl))) }
is_outcome plan inputs is false true d n m o = record { cut = (λ e. absurd (cc), λ h. absurd (n refl h)); unfinished = (λ _. (n refl, m refl), λ _. refl) }
is_outcome plan inputs is false false d n m o = record { cut = (λ e. absurd (cc), λ h. absurd (n refl h)); unfinished = (λ e. absurd (cc), λ u. absurd (o refl u.1)) }

pub settled_is : (plan : Plan) (first was is : BaysView) (read : InputBytes) (node : NodeView) (dead more unspent : Bool) → IsNode node → node.turns ≤ node.past → StandsAt plan first read node was
    → LinesAnswer LINES node.pieces node.lines_in was is more → CutAnswer node.pieces is dead → OpensAnswer node.links unspent → Settled plan first read node is (outcome_by dead (more || unspent))
settled_is plan first was is read node dead more unspent n over st lines cut opens = record {
  takings = takings_of read lines.asked.further node first is;
  line_in = λ a used. let u = line a used in line_left (form_in plan a) (line_in_at first a) (line_in_at was a) (line_in_at is a) (read.line a) (lines.asked.further a) node.past u.line u.used.stands u.used.asked;
  client_in = λ x m has from.
      let at = entry_of plan x has in
      let link = link_at plan node has.0 x st.plan_stands at in
      client_left_at plan first was is read node has.0 m x link.link over st lines.asked.client_in at link.has from;
  idle = idle;
  of_inputs = λ inputs may. record {
    may = may_before plan first was is read node inputs over st lines.asked may;
    took = λ a used. (line_end_at plan first was is read node inputs a lines.asked.further (line a used) may used).took ∙ ap (λ t. min (length (inputs.line a)) (suc (line_read (form_in plan a) (inputs.line a) t 0))) turns;
    text = λ x m has from.
        let at = entry_of plan x has in
        let link = link_at plan node has.0 x st.plan_stands at in
        let u = used_client plan first was read node has.0 m x link.link over st at link.has from in
        subst (λ k. (short : Bool) × ReadAsNeeded short (packets_asked (inputs.client m).packets x.fcs (emitted_before x.pace k)) (read.client m)) u.done
        (text_read x (client_in_at first m) u.at_end.was (read.client m) (turns_done x node.past (done_at node (port.ClientIn m))) link.link.pipe.taking (inputs.client m) u.at_end.stands
        (client_may_at plan first was is read lines.asked.further node inputs has.0 m x link.link over st lines.asked.client_in may at link.has from));
    outcome_is = is_outcome plan inputs is dead (more || unspent) (λ e. let d = cut.some e in some_dead plan node is d.0 st.plan_stands d.1) (λ e. none_dead plan node is st.plan_stands (cut.none e))
        (λ e. some_more inputs may (or_cases more unspent e)) (λ e h. let p = or_parts more unspent e in none_more inputs may p.0 p.1 h);
  };
}
  where
    turns : node.past ≡ plan.turns
    turns = turns_past plan node st.plan_stands over

    line : (a : ℕ) → uses plan (port.LineIn a) ≡ true → UsedLine plan first was is read node a (lines.asked.further a)
    line a used = used_line plan first was is read node a n over st lines.asked used

    idle : (name : PortName) → uses plan name ≡ false → SamePlace name first is
    idle (port.LineIn a) unused = line_idle plan was is node a n st.plan_stands lines.asked unused ∙ ap input_of (st.idle (port.LineIn a) unused)
    idle (port.LineOut b) unused = ap (λ l. get_or l b no_output) lines.asked.line_out ∙ ap output_of (st.idle (port.LineOut b) unused)
    idle (port.ClientIn m) unused = ap (λ l. get_or l m no_input) lines.asked.client_in ∙ ap input_of (st.idle (port.ClientIn m) unused)
    idle (port.ClientOut m) unused = ap (λ l. get_or l m no_output) lines.asked.client_out ∙ ap output_of (st.idle (port.ClientOut m) unused)

    end_of : (inputs : Inputs) → MayBeInputs plan first is (takings_of read lines.asked.further node first is) inputs → (a : ℕ) → uses plan (port.LineIn a) ≡ true
        → EndOfLine (form_in plan a) (read.line a) (lines.asked.further a) (inputs.line a) plan.turns
    end_of inputs may a used = subst (EndOfLine (form_in plan a) (read.line a) (lines.asked.further a) (inputs.line a)) turns (line_end_at plan first was is read node inputs a lines.asked.further (line a used) may used)

    some_more : (inputs : Inputs) → MayBeInputs plan first is (takings_of read lines.asked.further node first is) inputs → (more ≡ true) ⊎ (unspent ≡ true) → HasMore plan inputs ⊎ HasOpen plan inputs
    some_more inputs may (inl m) =
        let s = lines.some m in
        let used = came_used plan was is node s.0 n st.plan_stands lines.asked s.1 s.2 in
        inl (record { line = s.0; used = used; more = (end_of inputs may s.0 used).more s.2 })
    some_more inputs may (inr o) = inr (some_open plan first was is read lines.asked.further node inputs over st lines.asked.client_in may (opens.some o))

    none_more : (inputs : Inputs) → MayBeInputs plan first is (takings_of read lines.asked.further node first is) inputs → more ≡ false → unspent ≡ false → HasMore plan inputs ⊎ HasOpen plan inputs → ⊥
    none_more inputs may m o (inl h) = let le = (end_of inputs may h.line h.used).none (lines.none m h.line) in let lt = h.more in omega (arith, le, lt)
    none_more inputs may m o (inr h) = none_open plan first was is read lines.asked.further node inputs over st lines.asked.client_in may (opens.none o) h
