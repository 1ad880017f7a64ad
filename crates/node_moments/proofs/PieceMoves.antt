-- A piece of any port leads to the next moment: what it leaves as it was, and what is then left to show of its port.
use Rattle.std.proofs.Common.{◌≡◌, ◌≢◌, ◌≤◌, ◌+◌, ℕ, Bool, true, false, ◌&&◌, List, [], Some, length, slice_get, refl, sym, ap, subst, ◌∙◌, inl, inr}
use Rattle.std.specs.Prelude.{⊤}
use Rattle.otn_base.specs.declared.kind.PortName.{PortName}
use Rattle.otn_base.specs.declared.kind.PortName.TheVariants as port
use Rattle.port_base.specs.Places.{OnlyPort, input_of, output_of}
use Rattle.port_base.specs.Views.{BaysView, line_in_at, line_out_at, client_in_at, client_out_at}
use Rattle.line_side.specs.MayBe.{MayBe}
use Rattle.line_side.specs.LineStands.{LineView}
use Rattle.plan_file.specs.declared.connection.Connection.{Connection}
use Rattle.plan_file.specs.declared.connection.FromEnd.TheVariants as from_end
use Rattle.plan_file.specs.declared.plan.Plan.{Plan}
use Rattle.device_model.specs.Entries.{form_in, own_turn, IsActive}
use Rattle.device_model.specs.Moments.{touches, uses, turns_done, is_retired}
use Rattle.device_model.specs.RetiredPlaces.{after_retire, out_after_retire}
use Rattle.device_model.specs.Through.{Inputs, of_client, own_input}
use Rattle.cross_matrix.specs.Parts.{MayShow}
use Rattle.cross_matrix.specs.Pipes.{PipeView, PipeStands}
use Rattle.node_links.specs.Links.{IsLinkOf, SameEntry, is_on, joins, takes_part}
use Rattle.node_links.specs.Moves.{EachLink}
use Rattle.node_links.specs.declared.link.Link.{Link}
use Rattle.node_moments.specs.Stands.{InputBytes, MayGive, frames_by, ended_by, PipesStand, ClientStands, GivesText, GetsText, PortStands, StandsAt, Later}
use Rattle.node_moments.specs.Steps.NodeMoves.{OnePiece}
use Rattle.node_moments.specs.NodeView.{NodeView, HasLineIn, HasLink, done_at, taken_pieces, given_pieces}
use Rattle.turn_pieces.proofs.PieceCounts.{done_same}
use Rattle.node_links.proofs.LinkLaws.{from_as, to_as, from_client, to_client}
use Rattle.node_moments.proofs.LinkPorts.{same_port, joins_as, taken_other, given_other, LinkMoved, taking_kept, giving_kept}
use Rattle.node_moments.proofs.Parts.{none_and, off_stopped, each_goes, link_before, link_after, on_active, IsReady, ready_used, plan_counted}
use Rattle.node_moments.proofs.Retired.{known_at}

-- a piece of a port of a node that stands at a moment of a plan: no byte was taken of another port
pub record Step (plan : Plan) (first : BaysView) (read more : InputBytes) (name : PortName) (old new : NodeView) (was is : BaysView) : Type 0 where
  pub stands : StandsAt plan first read old was
  pub ready : IsReady old name
  pub piece : OnePiece name old new
  pub links : EachLink (LinkMoved name old.past) old.links new.links
  pub only : OnlyPort name was is
  pub line : (a : ℕ) → port.LineIn a ≢ name → more.line a ≡ read.line a
  pub client : (n : ℕ) → port.ClientIn n ≢ name → more.client n ≡ read.client n

pub done_but : (plan : Plan) (first : BaysView) (read more : InputBytes) (name : PortName) (old new : NodeView) (was is : BaysView) → Step plan first read more name old new was is
    → (other : PortName) → other ≢ name → done_at new other ≡ done_at old other
done_but plan first read more name old new was is s other differ = done_same name old.pieces new.pieces other s.piece.counted s.ready.within differ

-- ---- what the inputs may be

-- the input of a port
abbrev pub MayAt : Plan → InputBytes → NodeView → Inputs → PortName → Type 0
MayAt plan read node inputs (port.LineIn a) = (line : LineView) → HasLineIn node a line → uses plan (port.LineIn a) ≡ true → MayBe (form_in plan a).scrambled line.reader.ending (read.line a) (inputs.line a)
MayAt plan read node inputs (port.LineOut b) = ⊤
MayAt plan read node inputs (port.ClientIn n) = (i : ℕ) (x : Connection) (link : Link) → slice_get plan.connections i ≡ Some x → HasLink node i link → x.from ≡ from_end.Client n → x.start ≤ node.past + 1
    → MayShow link.pipe.taking (read.client n) (of_client (inputs.client n))
MayAt plan read node inputs (port.ClientOut n) = ⊤

-- what they may turn out to be from next on they might be before
pub earlier_by : (plan : Plan) (first : BaysView) (read more : InputBytes) (name : PortName) (old new : NodeView) (was is : BaysView) → Step plan first read more name old new was is
    → (inputs : Inputs) → MayGive plan more new inputs → MayAt plan read old inputs name → MayGive plan read old inputs
earlier_by plan first read more name old new was is s inputs may mine = record {
  lines = λ a line had used. elim (same_port name (port.LineIn a) s.ready.within) [
    | inl e ↦ let here : MayAt plan read old inputs (port.LineIn a) = subst (λ p. MayAt plan read old inputs p) (sym e) mine in here line had used
    | inr d ↦ rw (s.line a d) at (may.lines a line (s.piece.lines_in a d ∙ had) used)
  ];
  clients = λ i n x link at had from start. elim (same_port name (port.ClientIn n) s.ready.within) [
    | inl e ↦ let here : MayAt plan read old inputs (port.ClientIn n) = subst (λ p. MayAt plan read old inputs p) (sym e) mine in here i x link at had from start
    | inr d ↦
        let a = link_after (LinkMoved name old.past) old.links new.links i link s.links had in
        let kept = taking_kept name old.past n link a.new a.goes (from_as x link (s.stands.plan_stands.links i x link at had) ∙ from) d in
        rw (kept, s.client n d) at (may.clients i n x a.new at a.known from (rw s.piece.past start))
  ];
}

-- ---- the pipes

-- the pipe of a connection that is active
abbrev pub PipeAt : Plan → Inputs → NodeView → Connection → Link → Type 0
PipeAt plan inputs node x link = PipeStands x (own_input inputs x) (own_turn x node.past) (frames_by plan inputs x.from node.past (taken_pieces node x.from)) (ended_by x.from (taken_pieces node x.from))
    (given_pieces node x.to) link.pipe

-- after the piece, as the connection was before it
abbrev pub PipeThen : Plan → Inputs → (old new : NodeView) → Connection → Link → PipeView → Type 0
PipeThen plan inputs old new x link pipe = PipeStands x (own_input inputs x) (own_turn x old.past) (frames_by plan inputs x.from old.past (taken_pieces new x.from)) (ended_by x.from (taken_pieces new x.from))
    (given_pieces new x.to) pipe

-- what the piece does to a pipe that has a part in it
abbrev pub PipeMoves : Plan → InputBytes → PortName → (old new : NodeView) → Type 0
PipeMoves plan more name old new = (inputs : Inputs) → MayGive plan more new inputs → (i : ℕ) (x : Connection) (link next : Link) → slice_get plan.connections i ≡ Some x → HasLink old i link → HasLink new i next
    → IsLinkOf x link → IsActive x old.past → takes_part old.past name link ≡ true → PipeAt plan inputs old x link → PipeThen plan inputs old new x link next.pipe

right_off : (a b : Bool) → a ≡ true → (a && b) ≡ false → b ≡ false
right_off true b on off = off
right_off false b on off = cc

pipe_next : (plan : Plan) (inputs : Inputs) (name : PortName) (old new : NodeView) (x : Connection) (link next : Link) → ((other : PortName) → other ≢ name → done_at new other ≡ done_at old other) → new.past ≡ old.past
    → IsLinkOf x link → IsActive x old.past → LinkMoved name old.past link next → PipeAt plan inputs old x link → (part : Bool) → takes_part old.past name link ≡ part
    → (part ≡ true → PipeThen plan inputs old new x link next.pipe) → PipeAt plan inputs new x next
pipe_next plan inputs name old new x link next same past is active m h true e one = rw past (one refl)
pipe_next plan inputs name old new x link next same past is active m h false e one =
    let off : touches name x ≡ false = sym (joins_as name x link is) ∙ right_off (is_on old.past link) (joins name link) (on_active x old.past link is active) e in
    let takes : taken_pieces new x.from ≡ taken_pieces old x.from = taken_other name old new same x off x.from refl in
    let gives : given_pieces new x.to ≡ given_pieces old x.to = given_other name old new same x off x.to refl in
    rw (takes, gives, past, m.other e) h

pub pipes_by : (plan : Plan) (first : BaysView) (read more : InputBytes) (name : PortName) (old new : NodeView) (was is : BaysView) → Step plan first read more name old new was is
    → ((inputs : Inputs) → MayGive plan more new inputs → MayGive plan read old inputs) → PipeMoves plan more name old new → PipesStand plan more new
pipes_by plan first read more name old new was is s earlier moves = record {
  each = λ inputs may i x next at has on.
      let b = link_before (LinkMoved name old.past) old.links new.links i next s.links has in
      let is_of = s.stands.plan_stands.links i x b.old at b.known in
      let active : IsActive x old.past = rw s.piece.past at on in
      let stood : PipeAt plan inputs old x b.old = s.stands.pipes.each inputs (earlier inputs may) i x b.old at b.known active in
      pipe_next plan inputs name old new x b.old next (done_but plan first read more name old new was is s) s.piece.past is_of active b.goes stood (takes_part old.past name b.old) refl
      (λ part. moves inputs may i x b.old next at b.known has is_of active part stood);
  last = λ inputs may i x next at has stop.
      let b = link_before (LinkMoved name old.past) old.links new.links i next s.links has in
      let is_of = s.stands.plan_stands.links i x b.old at b.known in
      let done : x.stop ≡ old.past = stop ∙ s.piece.past in
      let off : takes_part old.past name b.old ≡ false = none_and (is_on old.past b.old) (joins name b.old) (off_stopped x old.past b.old is_of done) in
      rw (s.piece.past, b.goes.other off) (s.stands.pipes.last inputs (earlier inputs may) i x b.old at b.known done);
}

-- ---- the other ports

-- a client whose connection has done as many turns as before, and whose part in it stands as before
pub client_kept : {P : Type 0} (plan : Plan) (name : PortName) (old new : NodeView) (first was is : P) (empties : Bool → P → P) (Part Then : Connection → Link → P → ℕ → Type 0) (read more : List ℕ)
    → length new.links ≡ length old.links → new.past ≡ old.past → is ≡ was → more ≡ read
    → ((i : ℕ) (x : Connection) (link : Link) → slice_get plan.connections i ≡ Some x → HasLink old i link → touches name x ≡ true → turns_done x old.past (done_at new name) ≡ turns_done x old.past (done_at old name))
    → ((i : ℕ) (x : Connection) (link next : Link) → slice_get plan.connections i ≡ Some x → HasLink old i link → HasLink new i next → touches name x ≡ true → (v : P) (k : ℕ) → Part x link v k → Then x next v k)
    → ClientStands plan old name first was empties Part read → ClientStands plan new name first is empties Then more
client_kept plan name old new first was is empties Part Then read more links past place none turns part h = record {
  started = λ i x next at has touched start.
      let link = known_at new.links old.links i next links has in
      let c = h.started i x link.0 at link.1 touched (rw past at start) in
      let all : turns_done x new.past (done_at new name) ≡ turns_done x old.past (done_at old name) = ap (λ p. turns_done x p (done_at new name)) past ∙ turns i x link.0 at link.1 touched in
      record {
        was = c.was;
        stands = subst (λ k. Then x next c.was k) (sym all) (part i x link.0 next at link.1 has touched c.was (turns_done x old.past (done_at old name)) c.stands);
        place = place ∙ c.place ∙ ap (λ p. empties (is_retired x p) c.was) (sym past);
      };
  waits = λ i x at touched late. let w = h.waits i x at touched (rw past at late) in (place ∙ w.0, none ∙ w.1);
}

port_kept : (plan : Plan) (first : BaysView) (read more : InputBytes) (name : PortName) (old new : NodeView) (was is : BaysView) → Step plan first read more name old new was is
    → ((inputs : Inputs) → MayGive plan more new inputs → MayGive plan read old inputs) → (other : PortName) → other ≢ name → PortStands plan first read old was other → PortStands plan first more new is other
port_kept plan first read more name old new was is s earlier (port.LineIn a) differ h = λ line has used.
    let place : line_in_at is a ≡ line_in_at was a = ap input_of (s.only.others (port.LineIn a) differ) in
    rw (place, s.line a differ, done_but plan first read more name old new was is s (port.LineIn a) differ, s.piece.past) (h line (sym (s.piece.lines_in a differ) ∙ has) used)
port_kept plan first read more name old new was is s earlier (port.LineOut b) differ h = λ inputs may line has used.
    let place : line_out_at is b ≡ line_out_at was b = ap output_of (s.only.others (port.LineOut b) differ) in
    rw (s.piece.past, done_but plan first read more name old new was is s (port.LineOut b) differ, place) (h inputs (earlier inputs may) line (sym (s.piece.lines_out b differ) ∙ has) used)
port_kept plan first read more name old new was is s earlier (port.ClientIn n) differ h =
    client_kept plan (port.ClientIn n) old new (client_in_at first n) (client_in_at was n) (client_in_at is n) after_retire (GivesText first read n) (GivesText first more n) (read.client n) (more.client n)
    s.links.count s.piece.past (ap input_of (s.only.others (port.ClientIn n) differ)) (s.client n differ)
    (λ i x link at had touched. ap (turns_done x old.past) (done_but plan first read more name old new was is s (port.ClientIn n) differ))
    (λ i x link next at had has touched v k stood.
    let kept = taking_kept name old.past n link next (s.links.each i link next had has) (from_as x link (s.stands.plan_stands.links i x link at had) ∙ from_client n x.from touched) differ in
    rw (s.client n differ, kept) stood) h
port_kept plan first read more name old new was is s earlier (port.ClientOut n) differ h =
    client_kept plan (port.ClientOut n) old new (client_out_at first n) (client_out_at was n) (client_out_at is n) out_after_retire (GetsText plan first read old n) (GetsText plan first more new n) [] []
    s.links.count s.piece.past (ap output_of (s.only.others (port.ClientOut n) differ)) refl
    (λ i x link at had touched. ap (turns_done x old.past) (done_but plan first read more name old new was is s (port.ClientOut n) differ))
    (λ i x link next at had has touched v k stood. λ inputs may.
    let kept = giving_kept name old.past n link next (s.links.each i link next had has) (to_as x link (s.stands.plan_stands.links i x link at had) ∙ to_client n x.to touched) differ in
    rw kept (stood inputs (earlier inputs may))) h

-- ---- the moment

-- with what it does to its own port
pub later_by : (plan : Plan) (first : BaysView) (read more : InputBytes) (name : PortName) (old new : NodeView) (was is : BaysView) → Step plan first read more name old new was is
    → ((inputs : Inputs) → MayGive plan more new inputs → MayGive plan read old inputs) → PipeMoves plan more name old new → PortStands plan first more new is name → Later plan first read old new is
later_by plan first read more name old new was is s earlier moves mine =
    let p = s.stands.plan_stands in
    record {
      more = more;
      stands = record {
        plan_stands = plan_counted plan name old new s.ready s.piece.counted s.piece.turns s.piece.past (each_goes (LinkMoved name old.past) SameEntry old.links new.links (λ link next m. m.same) s.links) p;
        pipes = pipes_by plan first read more name old new was is s earlier moves;
        ports = λ other. elim (same_port name other s.ready.within) [
          | inl e ↦ subst (λ p. PortStands plan first more new is p) (sym e) mine
          | inr d ↦ port_kept plan first read more name old new was is s earlier other d (s.stands.ports other)
        ];
        idle = λ other unused. elim (same_port name other s.ready.within) [
          | inl e ↦ absurd (cc (ready_used plan old name p s.ready, ap (uses plan) e, unused))
          | inr d ↦ s.only.others other d ∙ s.stands.idle other unused
        ];
      };
      earlier = earlier;
    }
