-- The numbers that a node tells behind its last turn are those of the run.
use Rattle.std.proofs.Common.{◌≡◌, ◌<◌, ◌≤◌, ◌*◌, ℕ, true, List, length, arith, refl, sym, ap, ◌∙◌}
use Rattle.otn_base.specs.declared.kind.PortName.TheVariants as port
use Rattle.otn_base.specs.declared.limits.TheConstants.{LINES}
use Rattle.port_base.specs.Views.{BaysView, line_out_at}
use Rattle.line_side.specs.LineForm.{LineForm, size_of}
use Rattle.line_side.specs.LineNumbers.{numbers_of}
use Rattle.line_side.specs.LineOutput.{counted_frames}
use Rattle.line_side.specs.LineStands.{LineView}
use Rattle.line_side.specs.Reader.{rest_of}
use Rattle.otn_base.specs.Counts.{saturated}
use Rattle.line_side.specs.declared.ending.Ending.{Ending}
use Rattle.plan_file.specs.declared.plan.Plan.{Plan}
use Rattle.device_model.specs.Entries.{form_in, form_out}
use Rattle.device_model.specs.LineFiles.{IsLineFile}
use Rattle.device_model.specs.Moments.{uses}
use Rattle.device_model.specs.Numbers.{OutputBytes, AreNumbers, line_ending}
use Rattle.device_model.specs.Outcomes.{place_state, IsOutcome}
use Rattle.device_model.specs.Report.{Numbers, ClientOutNumbers}
use Rattle.device_model.specs.Through.{Inputs, own_input}
use Rattle.connection_laws.proofs.OneFile.{one_file}
use Rattle.node_moments.specs.NodeView.{NodeView, HasLineIn, done_at}
use Rattle.device_model.specs.RunLeft.{OutputsLeft}
use Rattle.node_core.specs.Settling.{ToldBy}
use Rattle.node_moments.specs.Stands.{InputBytes, MayGive, StandsAt}
use Rattle.node_core.proofs.NodeReads.{entry_of, is_past, client_numbers_then, last_state_then}
use Rattle.node_core.proofs.OutputsLeft.{AllWent, all_went, outputs_left}
use Rattle.device_model.proofs.ConnectionPorts.{from_client_used, to_client_used}
use Rattle.turn_pieces.proofs.UsedPorts.{used_within}
use Rattle.node_links.proofs.Senders.{element_at}
use Rattle.node_moments.proofs.LinkTurns.{line_within}

-- ---- lines

-- the numbers of a line depend on how it ended by the rest alone
same_rest : (form : LineForm) (one other : Ending) (available : List ℕ) (t pieces : ℕ) → rest_of one available ≡ rest_of other available → numbers_of form one available t pieces ≡ numbers_of form other available t pieces
same_rest form one other available t pieces e = rw e refl

-- The rest of each line that is used is counted as its place and its turns have it in the end.
abbrev pub RestsLeft : Plan → NodeView → (last : BaysView) → Inputs → Type 0
RestsLeft plan node last inputs = (a : ℕ) (line : LineView) → HasLineIn node a line → uses plan (port.LineIn a) ≡ true
    → rest_of line.reader.ending (inputs.line a) ≡ rest_of (line_ending (place_state last (port.LineIn a)) (form_in plan a) (inputs.line a) plan.turns) (inputs.line a)

line_in_numbers : (plan : Plan) (first : BaysView) (read : InputBytes) (node : NodeView) (was last : BaysView) (inputs : Inputs) (numbers : Numbers) → length node.lines_in ≡ LINES → StandsAt plan first read node was
    → node.turns ≤ node.past → MayGive plan read node inputs → ToldBy plan node numbers → RestsLeft plan node last inputs → (a : ℕ) → uses plan (port.LineIn a) ≡ true
    → numbers.line_in a ≡ numbers_of (form_in plan a) (line_ending (place_state last (port.LineIn a)) (form_in plan a) (inputs.line a) plan.turns) (inputs.line a) plan.turns 0
line_in_numbers plan first read node was last inputs numbers lines h over may told rests a used =
    let p = h.plan_stands in
    let within : a < 4 = line_within a (used_within plan (port.LineIn a) p.accepted used) in
    let line = element_at node.lines_in a (omega (arith, lines)) in
    let past : node.past ≡ plan.turns = (let turns = p.turns in let most = p.past in omega arith) in
    let none : line.0.pieces ≡ 0 = (h.ports (port.LineIn a) line.0 line.1 used).1 ∙ p.over over (port.LineIn a) in
    let available = inputs.line a in
    told.line_in a used plan first read was inputs line.0 h may used line.1
    ∙ ap (λ t. numbers_of (form_in plan a) line.0.reader.ending available t line.0.pieces) past
    ∙ ap (numbers_of (form_in plan a) line.0.reader.ending available plan.turns) none
    ∙ same_rest (form_in plan a) line.0.reader.ending (line_ending (place_state last (port.LineIn a)) (form_in plan a) available plan.turns) available plan.turns 0 (rests a line.0 line.1 used)

-- a line has one file
only_file : (plan : Plan) (inputs : Inputs) (b count : ℕ) (frames others : List (List ℕ)) → IsLineFile plan inputs b count frames → IsLineFile plan inputs b count others → frames ≡ others
only_file plan inputs b count frames others file other =
    one_file plan inputs b count count frames others file other (omega arith) ∙ sym (one_file plan inputs b count count others others other other (omega arith))

-- ---- clients

two_numbers : (numbers : ClientOutNumbers) (frames packets : ℕ) → ◌≡◌ {A = ℕ × ℕ} (numbers.frames, numbers.packets) (frames, packets) → ◌≡◌ {A = ClientOutNumbers} numbers (record { frames = frames; packets = packets })
two_numbers numbers frames packets e = ap of e
  where
    of : ℕ × ℕ → ClientOutNumbers
    of t = record { frames = t.0; packets = t.1 }

-- ---- all

-- whatever went to the outputs so
numbers_are : (plan : Plan) (first : BaysView) (read : InputBytes) (node : NodeView) (was last : BaysView) (inputs : Inputs) (numbers : Numbers) (written : OutputBytes) → length node.lines_in ≡ LINES → StandsAt plan first read node was
    → node.turns ≤ node.past → MayGive plan read node inputs → ToldBy plan node numbers → RestsLeft plan node last inputs → IsOutcome plan inputs last numbers.outcome → AllWent plan inputs first was node written
    → AreNumbers plan inputs written first last numbers
numbers_are plan first read node was last inputs numbers written lines h over may told rests outcome all = record {
  line_in = line_in_numbers plan first read node was last inputs numbers lines h over may told rests;
  line_out = λ b frames used file.
      let l = all.line b used in
      let same : l.frames ≡ frames = only_file plan inputs b (size_of (form_out plan b) * plan.turns) l.frames frames l.file file in
      told.line_out b used l.line l.has ∙ l.counts ∙ ap (λ fs. saturated (counted_frames (line_out_at first b).state fs (written.line b))) same;
  client_in = λ x n is_of from.
      let end = is_past plan node is_of.0 x h.plan_stands over (entry_of plan x is_of) in
      told.client_in n (from_client_used plan is_of.0 n x (entry_of plan x is_of) from) plan first read was inputs x h may is_of from
      ∙ client_numbers_then plan node x (inputs.client n) (done_at node (port.ClientIn n)) end;
  client_out = λ x n is_of to.
      let c = all.client x n is_of to in
      let told_it = told.client_out n (to_client_used plan is_of.0 n x (entry_of plan x is_of) to) plan first read was c.i x c.link h c.at_i c.has to in
      two_numbers (numbers.client_out n) _ _ (c.counts ((numbers.client_out n).frames, (numbers.client_out n).packets) told_it);
  from = λ i x at. told.from i x at plan first read was inputs x h may at ∙ last_state_then plan node x (own_input inputs x) (is_past plan node i x h.plan_stands over at);
  outcome = outcome;
}

-- what went to the outputs of a run, and its numbers by that
pub record OutputsTold (plan : Plan) (inputs : Inputs) (first last : BaysView) (numbers : Numbers) : Type 0 where
  pub written : OutputBytes
  pub outputs : OutputsLeft plan inputs first written last
  pub numbers_are : AreNumbers plan inputs written first last numbers

-- the places of outputs are as they were when the node came past its last turn
outputs_kept : (plan : Plan) (inputs : Inputs) (first was last : BaysView) (written : OutputBytes) → last.line_out ≡ was.line_out → last.client_out ≡ was.client_out → OutputsLeft plan inputs first written was
    → OutputsLeft plan inputs first written last
outputs_kept plan inputs first was last written lines clients h = record {
  line = λ b used. rw lines (h.line b used);
  client = λ x n is_of to. rw clients (h.client x n is_of to);
}

pub outputs_told : (plan : Plan) (first : BaysView) (read : InputBytes) (node : NodeView) (was last : BaysView) (inputs : Inputs) (numbers : Numbers) → length node.lines_in ≡ LINES → length node.lines_out ≡ LINES
    → StandsAt plan first read node was → node.turns ≤ node.past → MayGive plan read node inputs → ToldBy plan node numbers → RestsLeft plan node last inputs → IsOutcome plan inputs last numbers.outcome
    → last.line_out ≡ was.line_out → last.client_out ≡ was.client_out → OutputsTold plan inputs first last numbers
outputs_told plan first read node was last inputs numbers lines_in lines_out h over may told rests outcome lines clients =
    let all = all_went plan first read node was inputs lines_out h over may in
    record {
      written = all.0;
      outputs = outputs_kept plan inputs first was last all.0 lines clients (outputs_left plan inputs first was node all.0 all.1);
      numbers_are = numbers_are plan first read node was last inputs numbers all.0 lines_in h over may told rests outcome all.1;
    }
