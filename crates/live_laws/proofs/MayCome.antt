-- What was handed in of a live node is among what its inputs may turn out to be.
use Rattle.std.proofs.Common.{◌≡◌, ◌≢◌, ◌<◌, ℕ, Bool, true, false, List, Option, None, Some, refl, sym, ap, ◌∙◌, subst, inl, inr, arith}
use Rattle.std.proofs.lemmas.Bool.Decides.{nat_tests}
use Rattle.otn_base.specs.declared.kind.PortName.TheVariants as port
use Rattle.port_base.specs.Bytes.{HasFailed, before}
use Rattle.port_base.specs.Given.{Lives, HadToGive}
use Rattle.port_base.specs.Reads.{HasEnded}
use Rattle.port_base.specs.Retiring.{retired_in_as}
use Rattle.port_base.specs.Views.{State, Empty, Live, Dead, InView, line_in_at, client_in_at}
use Rattle.line_side.specs.LineForm.{LineForm, through_mask}
use Rattle.line_side.specs.LineStands.{LineView, LineStands}
use Rattle.line_side.specs.MayBe.{MayBe}
use Rattle.line_side.specs.declared.ending.Ending.{Ending}
use Rattle.line_side.specs.declared.ending.Ending.TheVariants.{Open}
use Rattle.packet_text.specs.LinesStand.{LinesView, LinesStand, lines_view}
use Rattle.packet_text.specs.declared.line.Line.TheVariants.{Lost}
use Rattle.packet_text.proofs.GivenTexts.{given_among}
use Rattle.odu_client.specs.ClientInput.{input_given}
use Rattle.plan_file.specs.declared.connection.Connection.{Connection}
use Rattle.cross_matrix.specs.Parts.{ClientInStands, MayShow}
use Rattle.cross_matrix.specs.declared.taking.TakingPart.{TakingPart}
use Rattle.cross_matrix.specs.declared.taking.TakingPart.TheVariants as taking
use Rattle.device_model.specs.Entries.{form_in}
use Rattle.device_model.proofs.ConnectionPorts.{uses_at}
use Rattle.device_model.specs.Moments.{turns_done, is_retired}
use Rattle.device_model.specs.RetiredPlaces.{after_retire}
use Rattle.device_model.specs.Through.{of_client}
use Rattle.turn_pieces.specs.Ports.{index_of}
use Rattle.turn_pieces.proofs.UsedPorts.{used_within}
use Rattle.node_moments.specs.NodeView.{done_at}
use Rattle.node_moments.proofs.LinkPorts.{touched_in}
use Rattle.node_moments.proofs.LinkTurns.{line_within}
use Rattle.live_laws.specs.Live.{holding}
use Rattle.live_laws.specs.LiveTurns.{HandedMayGive}

-- ---- a place that never fails

no_fault : (faults : ℕ) → faults ≡ 0 → HasFailed 0 faults → ⊥
no_fault faults none (inl more) = omega arith
no_fault faults none (inr most) = omega arith

pub still_live : (state : State) (faults : ℕ) → Lives Live state 0 faults → faults ≡ 0 → state ≡ Live
still_live state faults (inl (same, faulted)) none = same
still_live state faults (inr (live, died, failed)) none = absurd (no_fault faults none failed)

-- ---- a line

some_same : {a b : List ℕ} → ◌≡◌ {A = Option (List ℕ)} (Some a) (Some b) → a ≡ b
some_same e = cc

line_rest : (scrambled : Bool) (now : InView) (read handed : List ℕ) (ending : Ending) (left : Option (List ℕ)) → Some handed ≡ before read left
    → (ending ≢ Open → HasEnded left now.ended) → MayBe scrambled ending read (through_mask scrambled handed)
line_rest scrambled now read handed ending None had over = absurd (cc)
line_rest scrambled now read handed ending (Some left) had over = record {
  rest = left;
  over = λ closed. (over closed).nothing;
  parts = ap (through_mask scrambled) (some_same had);
}

line_may : (form : LineForm) (first now : InView) (read handed : List ℕ) (t : ℕ) (line : LineView) → first ≡ holding handed → now.faults ≡ 0
    → LineStands form first now read t line → MayBe form.scrambled line.reader.ending read (through_mask form.scrambled handed)
line_may form first now read handed t line is none h =
    let lives : Lives Live now.state 0 now.faults = subst (λ (v : InView). Lives v.state now.state v.faults now.faults) is h.gave.state in
    line_rest form.scrambled now read handed line.reader.ending now.left (ap (λ (v : InView). v.left) (sym is) ∙ h.gave.takes.left)
    (λ closed. h.over closed (still_live now.state now.faults lives none))

-- ---- a client

-- the place of a client as it was until it was emptied
kept_state : (state : State) (was now : InView) → was.state ≡ state → now ≡ retired_in_as state was → now.faults ≡ 0 → Lives Live was.state 0 was.faults
    → was.state ≡ Live
kept_state Live was now e is none h = e
kept_state Empty was now e is none h = still_live was.state was.faults h (ap (λ (v : InView). v.faults) (sym is) ∙ none)
kept_state Dead was now e is none h = still_live was.state was.faults h (ap (λ (v : InView). v.faults) (sym is) ∙ none)

pub was_live : (retired : Bool) (was now : InView) → now ≡ after_retire retired was → now.faults ≡ 0 → Lives Live was.state 0 was.faults → was.state ≡ Live
was_live false was now is none h = still_live was.state was.faults h (ap (λ (v : InView). v.faults) (sym is) ∙ none)
was_live true was now is none h = kept_state was.state was now refl is none h

alive_answer : (first was : InView) (read : List ℕ) (packets : List (List ℕ)) (view : LinesView) → was.state ≡ Live → LinesStand first was read packets view
    → view.answer ≢ Lost
alive_answer first was read packets view live h lost = (let l = h.lost lost in let dead = l.1 in cc)

had_all : (first was : InView) (handed : List ℕ) → first ≡ holding handed → was.state ≡ Live → HadToGive first was handed
had_all first was handed is live = rw (is, live) refl

text_may : (x : Connection) (first was : InView) (read handed : List ℕ) (k : ℕ) (part : TakingPart) → first ≡ holding handed → was.state ≡ Live
    → ClientInStands x first was read k part
    → MayShow part read (of_client (input_given false handed))
text_may x first was read handed k (taking.Client client) is live h =
    let lines = h.stands.text.stands in
    let alive = alive_answer first was read h.stands.packets (lines_view client.lines) live lines in
    record {
      died = false;
      text = handed;
      may = (given_among first was read handed h.stands.packets (lines_view client.lines) lines (had_all first was handed is live)).0 alive;
      die = record { ended = λ e. refl; lost = λ e. absurd (alive e) };
      is = refl;
    }
text_may x first was read handed k (taking.Line sink) is live h = absurd h
text_may x first was read handed k (taking.Signal stream) is live h = absurd h

lives_of : (x : Connection) (first was : InView) (read : List ℕ) (k : ℕ) (part : TakingPart) (handed : List ℕ) → first ≡ holding handed
    → ClientInStands x first was read k part
    → Lives Live was.state 0 was.faults
lives_of x first was read k (taking.Client client) handed is h =
    subst (λ (v : InView). Lives v.state was.state v.faults was.faults) is h.stands.text.stands.gave.state
lives_of x first was read k (taking.Line sink) handed is h = absurd h
lives_of x first was read k (taking.Signal stream) handed is h = absurd h

client_within : (n : ℕ) → index_of (port.ClientIn n) < 40 → n < 16
client_within n h = grind (arith, nat_tests)

-- ---- all

pub handed_may_give : HandedMayGive
handed_may_give plan handed node now h = record {
  lines = λ a line has used.
      let p = h.stands.plan_stands in
      let few = line_within a (used_within plan (port.LineIn a) p.accepted used) in
      let stood = h.stands.ports (port.LineIn a) line has used in
      line_may (form_in plan a) (line_in_at h.first a) (line_in_at now a) (h.read.line a) (handed.line a) node.past line (h.opens.line_in a few)
      (h.calm.line_in a) stood.0;
  clients = λ i n x link at has from start.
      let p = h.stands.plan_stands in
      let used = uses_at plan (port.ClientIn n) i x at (touched_in n x from) in
      let few = client_within n (used_within plan (port.ClientIn n) p.accepted used) in
      let c = (h.stands.ports (port.ClientIn n)).started i x link at has (touched_in n x from) start in
      let k : ℕ = turns_done x node.past (done_at node (port.ClientIn n)) in
      let lives = lives_of x (client_in_at h.first n) c.was (h.read.client n) k link.pipe.taking (handed.client n) (h.opens.client_in n few) c.stands in
      text_may x (client_in_at h.first n) c.was (h.read.client n) (handed.client n) k link.pipe.taking (h.opens.client_in n few)
      (was_live (is_retired x node.past) c.was (client_in_at now n) c.place (h.calm.client_in n) lives) c.stands;
}
