-- What a node tells of its ports and its connections, in words of its plan.
use Rattle.std.proofs.Common.{◌≡◌, ◌≢◌, ◌<◌, ◌≤◌, ◌+◌, ◌-◌, ◌*◌, ◌/◌, ◌&&◌, ◌==◌, ℕ, min, nat_le, nat_lt, Bool, true, false, List, [], Option, Some, None, length, slice_get, arith, refl, sym, ap, subst, ◌∙◌, inl, inr}
use Rattle.std.specs.Prelude.{is_some, if◌then◌else◌, option_map}
use Rattle.std.specs.List.{Contains}
use Rattle.std.proofs.lemmas.Bool.Decides.{nat_tests, eqb_tells}
use Rattle.std.proofs.lemmas.Option.{slice_get_within, slice_get_read}
use Rattle.otn_base.specs.declared.kind.PortName.{PortName}
use Rattle.otn_base.specs.declared.kind.PortName.TheVariants as port
use Rattle.port_base.specs.Views.{BaysView, line_in_at, client_in_at}
use Rattle.line_side.specs.LineNumbers.{numbers_of}
use Rattle.line_side.specs.LineOutput.{LineOutView}
use Rattle.line_side.specs.LineStands.{LineView, InItsTurn}
use Rattle.line_side.specs.declared.counts.LineCounts.{LineCounts}
use Rattle.odu_client.specs.ClientInput.{ClientInput, gfp_length, begun_within, is_end, packets_begun, is_spent, bad_line, emitted_before}
use Rattle.otn_base.specs.Counts.{saturated}
use Rattle.plan_file.specs.declared.connection.Connection.{Connection}
use Rattle.plan_file.specs.declared.connection.FromEnd.{FromEnd}
use Rattle.plan_file.specs.declared.connection.FromEnd.TheVariants as from_end
use Rattle.plan_file.specs.declared.connection.ToEnd.TheVariants as to_end
use Rattle.plan_file.specs.declared.plan.Plan.{Plan}
use Rattle.device_model.specs.Entries.{first_turn, form_in, own_turn, IsActive}
use Rattle.device_model.specs.Moments.{touches, turns_done, emitted_by}
use Rattle.device_model.specs.Numbers.{client_numbers, client_numbers_by, last_state, state_after_turn}
use Rattle.device_model.specs.Report.{ClientInNumbers}
use Rattle.device_model.specs.Through.{Inputs, OwnInput, own_of, own_input, state_by, state_in}
use Rattle.device_model.specs.declared.outcome.FromState.{FromState}
use Rattle.device_model.proofs.SoundPlans.{sound_plan}
use Rattle.cross_matrix.specs.Parts.{GivesTo, IsToClient, IsReceived, turns_taken}
use Rattle.cross_matrix.specs.declared.giving.GivingPart.{GivingPart}
use Rattle.cross_matrix.specs.declared.giving.GivingPart.TheVariants as giving
use Rattle.node_links.specs.Steps.LinkMoves.{FirstOf}
use Rattle.node_links.specs.Links.{IsLinkOf, was_on, is_later, joins, OfItsClient, OfItsTurns}
use Rattle.node_moments.specs.NodeView.{NodeView, HasLineIn, HasLineOut, HasLink, done_at, taken_pieces, given_pieces}
use Rattle.node_core.specs.Settling.{IsLineCounts, IsFrameCount, IsClientInCount, IsClientOutCount, IsLastState}
use Rattle.node_moments.specs.Stands.{InputBytes, MayGive, PlanStands, StandsAt, frames_by, ended_by}
use Rattle.node_links.specs.declared.link.Link.{Link}
use Rattle.node_links.proofs.LinkLaws.{both, start_as}
use Rattle.node_moments.proofs.LinkPorts.{is_client_port, joins_as, touched_in, touched_out, sole}
use Rattle.node_moments.proofs.Retired.{entry_at}
use Rattle.node_moments.proofs.Parts.{one_at, and_none, none_and}
use Rattle.node_links.proofs.Senders.{element_at}

-- ---- lines

pub counts_told : (node : NodeView) (a : ℕ) (line : LineView) (counts : LineCounts) → HasLineIn node a line
    → InItsTurn line (λ form available t. counts ≡ numbers_of form line.reader.ending available t line.pieces) → IsLineCounts node a counts
counts_told node a line counts has told = λ plan first read now inputs other h may used at.
    let same : other ≡ line = one_at node.lines_in a other line at has in
    let stood = h.ports (port.LineIn a) line has used in
    rw same (told (line_in_at now a) (form_in plan a) (line_in_at first a) (read.line a) node.past stood.0 (inputs.line a) (may.lines a line has used))

pub frames_told : (node : NodeView) (b : ℕ) (line : LineOutView) (frames : ℕ) → HasLineOut node b line → frames ≡ line.frames → IsFrameCount node b frames
frames_told node b line frames has told = λ other at. told ∙ ap (λ (l : LineOutView). l.frames) (one_at node.lines_out b line other has at)

-- ---- the connection of a client

-- a connection of the plan is known by its place there
pub entry_of : (plan : Plan) (x : Connection) → (c : Contains plan.connections x) → slice_get plan.connections c.0 ≡ Some x
entry_of plan x c = slice_get_read plan.connections (length plan.connections) c.0 x refl c.1 (sym c.2)

-- the link of an entry
pub record LinkAt (plan : Plan) (node : NodeView) (i : ℕ) (x : Connection) : Type 0 where
  pub link : Link
  pub has : HasLink node i link
  pub is : IsLinkOf x link

pub link_at : (plan : Plan) (node : NodeView) (i : ℕ) (x : Connection) → PlanStands plan node → slice_get plan.connections i ≡ Some x → LinkAt plan node i x
link_at plan node i x p at =
    let within : i < length plan.connections = slice_get_within plan.connections i x at in
    let k = element_at node.links i (let count = p.count in omega arith) in
    record { link = k.0; has = k.1; is = p.links i x k.0 at k.1 }

-- the connection of the plan at a client's port is the one that is found
pub found_at : (plan : Plan) (node : NodeView) (name : PortName) (i j : ℕ) (x : Connection) (link : Link) → is_client_port name ≡ true → PlanStands plan node → HasLink node i link → joins name link ≡ true
    → slice_get plan.connections j ≡ Some x → touches name x ≡ true → i ≡ j
found_at plan node name i j x link client p has mine at touched =
    let e = entry_at plan node i link p has in
    sole plan name i j e.0 x p.accepted client e.1.0 at (sym (joins_as name e.0 link e.1.1) ∙ mine) touched

-- where none is found it has none
pub none_at : (plan : Plan) (node : NodeView) (name : PortName) (j : ℕ) (x : Connection) → PlanStands plan node → ((i : ℕ) (link : Link) → HasLink node i link → joins name link ≡ false)
    → slice_get plan.connections j ≡ Some x → touches name x ≡ true → ⊥
none_at plan node name j x p none at touched = let l = link_at plan node j x p at in both (joins name l.link) (joins_as name x l.link l.is ∙ touched) (none j l.link l.has)

-- ---- the turns that are done

-- a connection has done all of its own turns
pub all_turns : (x : Connection) (past pieces : ℕ) → x.stop ≤ past → turns_done x past pieces ≡ x.stop - first_turn x
all_turns x past pieces over =
    let late : nat_le (past + 1) x.stop ≡ false = grind (arith, nat_tests) in
    let off : (nat_le x.start (past + 1) && nat_le (past + 1) x.stop) ≡ false = and_none (nat_le x.start (past + 1)) (nat_le (past + 1) x.stop) late in
    let least : min past x.stop ≡ x.stop = omega arith in
    rw (off, least) (omega arith)

-- it has done none, before its first one
pub no_turns : (x : Connection) (past pieces : ℕ) → past + 1 < x.start → turns_done x past pieces ≡ 0
no_turns x past pieces later =
    let early : nat_le x.start (past + 1) ≡ false = grind (arith, nat_tests) in
    let off : (nat_le x.start (past + 1) && nat_le (past + 1) x.stop) ≡ false = none_and (nat_le x.start (past + 1)) (nat_le (past + 1) x.stop) early in
    let least : min past x.stop - first_turn x ≡ 0 = omega arith in
    rw (off, least) refl

-- ---- clients

text_numbers : (x : Connection) (input : ClientInput) (emitted : ℕ) (t : ℕ × Bool × Option ℕ)
    → t ≡ (saturated (packets_begun input.packets x.fcs emitted), is_spent input x.fcs emitted, option_map saturated (bad_line input x.fcs emitted))
    → ◌≡◌ {A = ClientInNumbers} (record { packets = t.0; spent = t.1; bad = t.2 }) (client_numbers_by x input emitted)
text_numbers x input emitted t told = rw told refl

-- with nothing emitted no packet is begun, and nothing is seen
none_begun : (input : ClientInput) (fcs : Bool) → packets_begun input.packets fcs 0 ≡ 0
unfolding begun_within
none_begun input fcs = refl

none_spent : (length ending : Bool) (n : ℕ) → (ending && nat_le (15296 * (n + 1)) 0) ≡ false
none_spent length ending n = and_none ending (nat_le (15296 * (n + 1)) 0) (grind (arith, nat_tests))

none_seen : (n : ℕ) → nat_lt n 0 ≡ false
none_seen n = grind (arith, nat_tests)

none_yet : (x : Connection) (input : ClientInput) → ◌≡◌ {A = ℕ × Bool × Option ℕ} (0, false, None)
    (saturated (packets_begun input.packets x.fcs 0), is_spent input x.fcs 0, option_map saturated (bad_line input x.fcs 0))
none_yet x input =
    let size = gfp_length input.packets x.fcs in
    rw (none_begun input x.fcs, none_spent false (is_end input.ending) (size / 15232), none_seen size) refl

none_emitted : (paces : List ℕ) → emitted_before paces 0 ≡ 0
unfolding emitted_before
none_emitted paces = refl

pub client_in_told : (node : NodeView) (n i : ℕ) (link : Link) (t : ℕ × Bool × Option ℕ) → FirstOf (joins (port.ClientIn n)) node.links (Some i) → HasLink node i link
    → (is_later node.past link ≡ true → t ≡ (0, false, None))
    → (is_later node.past link ≡ false
    → OfItsClient link (λ x input emitted. t ≡ (saturated (packets_begun input.packets x.fcs emitted), is_spent input x.fcs emitted, option_map saturated (bad_line input x.fcs emitted))))
    → IsClientInCount node n (record { packets = t.0; spent = t.1; bad = t.2 })
client_in_told node n i link t found has later told = λ plan first read now inputs x h may is_of from.
    let p = h.plan_stands in
    let same : is_of.0 ≡ i = sym (found_at plan node (port.ClientIn n) i is_of.0 x link refl p has (found.is.1 link has) (entry_of plan x is_of) (touched_in n x from)) in
    let at_i : slice_get plan.connections i ≡ Some x = subst (λ k. slice_get plan.connections k ≡ Some x) same (entry_of plan x is_of) in
    let is = p.links i x link at_i has in
    let pieces = done_at node (port.ClientIn n) in
    let k = turns_done x node.past pieces in
    by_start plan first read now inputs x h may at_i is pieces k from (is_later node.past link) refl
  where
    by_start : (plan : Plan) (first : BaysView) (read : InputBytes) (now : BaysView) (inputs : Inputs) (x : Connection) → StandsAt plan first read node now → MayGive plan read node inputs → slice_get plan.connections i ≡ Some x
        → IsLinkOf x link → (pieces k : ℕ) → x.from ≡ from_end.Client n → (test : Bool) → is_later node.past link ≡ test
        → ◌≡◌ {A = ClientInNumbers} (record { packets = t.0; spent = t.1; bad = t.2 }) (client_numbers_by x (inputs.client n) (emitted_before x.pace (turns_done x node.past (done_at node (port.ClientIn n)))))
    by_start plan first read now inputs x h may at_i is pieces k from true e =
        let start = start_as x link is in
        let before : node.past + 1 < x.start = grind (arith, nat_tests) in
        let none : emitted_before x.pace (turns_done x node.past (done_at node (port.ClientIn n))) ≡ 0 =
        ap (emitted_before x.pace) (no_turns x node.past (done_at node (port.ClientIn n)) before) ∙ none_emitted x.pace in
        rw none (text_numbers x (inputs.client n) 0 t (later e ∙ none_yet x (inputs.client n)))
    by_start plan first read now inputs x h may at_i is pieces k from false e =
        let start = start_as x link is in
        let begun : x.start ≤ node.past + 1 = grind (arith, nat_tests) in
        let s = (h.ports (port.ClientIn n)).started i x link at_i has (touched_in n x from) begun in
        text_numbers x (inputs.client n) (emitted_before x.pace (turns_done x node.past (done_at node (port.ClientIn n)))) t
        (told e x (client_in_at first n) s.was (read.client n) (turns_done x node.past (done_at node (port.ClientIn n))) (inputs.client n) s.stands (may.clients i n x link at_i has from begun))

pub client_in_none : (node : NodeView) (n : ℕ) (counts : ClientInNumbers) → FirstOf (joins (port.ClientIn n)) node.links None → IsClientInCount node n counts
client_in_none node n counts found = λ plan first read now inputs x h may is_of from. absurd (none_at plan node (port.ClientIn n) is_of.0 x h.plan_stands found.is (entry_of plan x is_of) (touched_in n x from))

to_part : (n : ℕ) (part : GivingPart) → GivesTo (to_end.Client n) part → IsToClient part
to_part n (giving.Line source) h = absurd h
to_part n (giving.Client receiver) h = tt

pub client_out_told : (node : NodeView) (n i : ℕ) (link : Link) (t : ℕ × ℕ) → FirstOf (joins (port.ClientOut n)) node.links (Some i) → HasLink node i link
    → (IsToClient link.pipe.giving → IsReceived link.pipe.giving t) → IsClientOutCount node n (record { frames = t.0; packets = t.1 })
client_out_told node n i link t found has told = λ plan first read now j x other h at_j had to.
    let p = h.plan_stands in
    let same : j ≡ i = sym (found_at plan node (port.ClientOut n) i j x link refl p has (found.is.1 link has) at_j (touched_out n x to)) in
    let one : other ≡ link = one_at node.links i other link (subst (λ k. slice_get node.links k ≡ Some other) same had) has in
    let gives : IsToClient other.pipe.giving = to_part n other.pipe.giving (subst (λ e. GivesTo e other.pipe.giving) to (p.links j x other at_j had).pipe.giving) in
    rw one (told (subst (λ (l : Link). IsToClient l.pipe.giving) one gives))

pub client_out_none : (node : NodeView) (n : ℕ) (t : ℕ × ℕ) → FirstOf (joins (port.ClientOut n)) node.links None → IsClientOutCount node n (record { frames = t.0; packets = t.1 })
client_out_none node n t found = λ plan first read now j x other h at_j had to. absurd (none_at plan node (port.ClientOut n) j x h.plan_stands found.is at_j (touched_out n x to))

-- ---- connections

nothing : (state : Option FromState) → is_some state ≡ false → state ≡ None
nothing None h = refl
nothing (Some s) h = cc

-- the own turns that its input has taken by a piece of a turn make no other state
state_taken : (from : FromEnd) (x : Connection) (inputs : Inputs) (j k : ℕ) → state_by from x (own_of inputs from) (turns_taken j (ended_by from k)) ≡ state_by from x (own_of inputs from) j
state_taken (from_end.Line a number slots) x inputs j k = refl
state_taken (from_end.Client n) x inputs j k = refl
state_taken (from_end.Signal signal) x inputs j k = refl

on_then : (past start stop : ℕ) → (nat_le 1 past && (nat_le start past && nat_le past stop)) ≡ true → (start ≤ past) × (past ≤ stop)
on_then past start stop e = go (nat_le 1 past) (nat_le start past) refl (nat_le past stop) refl e
  where
    go : (a b : Bool) → nat_le start past ≡ b → (c : Bool) → nat_le past stop ≡ c → (a && (b && c)) ≡ true → (start ≤ past) × (past ≤ stop)
    go true true f true g e = (grind (arith, nat_tests), grind (arith, nat_tests))
    go true true f false g e = absurd (cc)
    go true false f c g e = absurd (cc)
    go false b f c g e = absurd (cc)

off_then : (past start stop : ℕ) → 1 ≤ start → (nat_le 1 past && (nat_le start past && nat_le past stop)) ≡ false → (nat_le start past && nat_le past stop) ≡ false
off_then past start stop some e = go (nat_le 1 past) refl e
  where
    go : (a : Bool) → nat_le 1 past ≡ a → (a && (nat_le start past && nat_le past stop)) ≡ false → (nat_le start past && nat_le past stop) ≡ false
    go true f e = e
    go false f e =
        let none : nat_le start past ≡ false = grind (arith, nat_tests) in
        none_and (nat_le start past) (nat_le past stop) none

both_so : (past start stop : ℕ) → start ≤ past → past ≤ stop → (nat_le start past && nat_le past stop) ≡ true
both_so past start stop low high = grind (arith, nat_tests)

pub state_told : (node : NodeView) (i : ℕ) (link : Link) (state : Option FromState) → HasLink node i link → is_some state ≡ was_on node.past link
    → (was_on node.past link ≡ true → OfItsTurns link (λ x input turns. state ≡ Some (state_in x input turns))) → IsLastState node i state
state_told node i link state has some told = λ plan first read now inputs x h may at_i.
    by_turn plan first read now inputs x h may at_i (h.plan_stands.links i x link at_i has) (was_on node.past link) refl
  where
    was_as : (x : Connection) → IsLinkOf x link → was_on node.past link ≡ (nat_le 1 node.past && (nat_le x.start node.past && nat_le node.past x.stop))
    was_as x is = ap (λ (y : Connection). nat_le 1 node.past && (nat_le y.start node.past && nat_le node.past y.stop)) is.entry

    active_then : (x : Connection) → x.start ≤ node.past → node.past ≤ x.stop → x.stop ≢ node.past → IsActive x node.past
    active_then x low high other = record { start = omega arith; stop = omega (arith, other) }

    by_turn : (plan : Plan) (first : BaysView) (read : InputBytes) (now : BaysView) (inputs : Inputs) (x : Connection) → StandsAt plan first read node now → MayGive plan read node inputs → slice_get plan.connections i ≡ Some x
        → IsLinkOf x link → (on : Bool) → was_on node.past link ≡ on → state ≡ state_after_turn node.past x (own_input inputs x)
    by_turn plan first read now inputs x h may at_i is false e =
        let off : (nat_le x.start node.past && nat_le node.past x.stop) ≡ false = off_then node.past x.start x.stop is.first (sym (was_as x is) ∙ e) in
        nothing state (some ∙ e) ∙ ap (λ b. if b then Some (state_in x (own_input inputs x) (node.past - first_turn x)) else None) (sym off)
    by_turn plan first read now inputs x h may at_i is true e =
        let span = on_then node.past x.start x.stop (sym (was_as x is) ∙ e) in
        let low = span.0 in
        let high = span.1 in
        let on : (nat_le x.start node.past && nat_le node.past x.stop) ≡ true = both_so node.past x.start x.stop low high in
        let is_so : state ≡ Some (state_in x (own_input inputs x) (own_turn x node.past)) = elim (eqb_tells x.stop node.past) [
          | inl t ↦ told e x (own_input inputs x) (own_turn x node.past) 0 [] false (h.pipes.last inputs may i x link at_i has t.1)
          | inr t ↦
              let active = active_then x low high t.1 in
              let k = taken_pieces node x.from in
              told e x (own_input inputs x) (own_turn x node.past) (given_pieces node x.to) (frames_by plan inputs x.from node.past k) (ended_by x.from k) (h.pipes.each inputs may i x link at_i has active)
              ∙ ap Some (state_taken x.from x inputs (own_turn x node.past) k)
        ] in
        is_so ∙ ap (λ b. if b then Some (state_in x (own_input inputs x) (node.past - first_turn x)) else None) (sym on)

-- ---- past the last turn

-- a connection of the plan has started by then, and all its turns are done
pub record IsPast (plan : Plan) (node : NodeView) (x : Connection) : Type 0 where
  pub past : node.past ≡ plan.turns
  pub first : 1 ≤ x.start
  pub span : x.start ≤ x.stop
  pub stop : x.stop ≤ node.past
  pub start : x.start ≤ node.past + 1

pub is_past : (plan : Plan) (node : NodeView) (i : ℕ) (x : Connection) → PlanStands plan node → node.turns ≤ node.past → slice_get plan.connections i ≡ Some x → IsPast plan node x
is_past plan node i x p over at =
    let sound = (sound_plan plan p.accepted).entries i x at in
    let past : node.past ≡ plan.turns = (let turns = p.turns in let most = p.past in omega arith) in
    let stop : x.stop ≤ node.past = (let last = sound.stop in omega arith) in
    record { past = past; first = sound.start; span = sound.span; stop = stop; start = (let span = sound.span in omega arith) }

-- its client's numbers are then those of all its turns
pub client_numbers_then : (plan : Plan) (node : NodeView) (x : Connection) (input : ClientInput) (pieces : ℕ) → IsPast plan node x → client_numbers_by x input (emitted_by x node.past pieces) ≡ client_numbers x input
client_numbers_then plan node x input pieces end = ap (λ k. client_numbers_by x input (emitted_before x.pace k)) (all_turns x node.past pieces end.stop)

-- and its state is that after the plan's last turn
pub last_state_then : (plan : Plan) (node : NodeView) (x : Connection) (input : OwnInput) → IsPast plan node x → state_after_turn node.past x input ≡ last_state plan.turns x input
last_state_then plan node x input end =
    ap (λ t. state_after_turn t x input) end.past
    ∙ ap (λ b. if b then Some (state_in x input (plan.turns - first_turn x)) else None) (same_test x.start x.stop plan.turns end.span (let stop = end.stop in let past = end.past in omega arith))
  where
    same_test : (start stop turns : ℕ) → start ≤ stop → stop ≤ turns → (nat_le start turns && nat_le turns stop) ≡ (stop == turns)
    same_test start stop turns span most = elim (eqb_tells stop turns) [
      | inl t ↦ (let high : turns ≤ stop = omega (arith, t.1) in both_so turns start stop (omega arith) high ∙ sym t.0)
      | inr t ↦ (let late : nat_le turns stop ≡ false = (let other = t.1 in grind (arith, nat_tests)) in and_none (nat_le start turns) (nat_le turns stop) late ∙ sym t.0)
    ]
