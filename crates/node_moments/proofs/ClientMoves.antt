-- A piece of a client, input or output, leads to the next moment.
use Rattle.std.proofs.Common.{◌≡◌, ◌≢◌, ◌<◌, ◌≤◌, ◌+◌, ◌==◌, ℕ, Bool, true, false, if◌then◌else◌, List, [], ◌++◌, length, Some, slice_get, arith, refl, sym, ap, subst, ◌∙◌, inl, inr}
use Rattle.std.proofs.lemmas.Bool.{eq-eqb}
use Rattle.std.proofs.lemmas.Bool.Decides.{eqb_tells}
use Rattle.std.proofs.lemmas.Option.{slice_get_within}
use Rattle.otn_base.specs.declared.kind.PortName.{PortName}
use Rattle.otn_base.specs.declared.kind.PortName.TheVariants as port
use Rattle.port_base.specs.Places.{OnlyPort}
use Rattle.port_base.specs.Views.{InView, OutView, BaysView, client_in_at, client_out_at}
use Rattle.plan_file.specs.declared.connection.Connection.{Connection}
use Rattle.plan_file.specs.declared.connection.FromEnd.{FromEnd}
use Rattle.plan_file.specs.declared.connection.FromEnd.TheVariants as from_end
use Rattle.plan_file.specs.declared.connection.ToEnd.{ToEnd}
use Rattle.plan_file.specs.declared.connection.ToEnd.TheVariants as to_end
use Rattle.plan_file.specs.declared.plan.Plan.{Plan}
use Rattle.tributary_model.specs.Places.{Taken}
use Rattle.device_model.specs.Entries.{own_turn, IsActive}
use Rattle.device_model.specs.Moments.{touches, turns_done, is_retired}
use Rattle.device_model.specs.RetiredPlaces.{after_retire, out_after_retire}
use Rattle.device_model.specs.Through.{Inputs, OwnInput, of_client, own_of, own_input}
use Rattle.cross_matrix.specs.Parts.{GivingStands, ClientInStands, MayShow}
use Rattle.cross_matrix.specs.Pipes.{PipeView, PipeStands, ClientTook}
use Rattle.cross_matrix.specs.declared.giving.GivingPart.{GivingPart}
use Rattle.cross_matrix.specs.declared.giving.GivingPart.TheVariants as giving
use Rattle.node_links.specs.Links.{IsLinkOf, is_on, joins, takes_part}
use Rattle.node_links.specs.Moves.{EachLink, TakesClient, GivesClient}
use Rattle.node_links.specs.declared.link.Link.{Link}
use Rattle.node_moments.specs.Stands.{InputBytes, MayGive, frames_by, ended_by, PlanStands, ClientStands, GivesText, GetsText, PortStands, StandsAt, Later}
use Rattle.node_moments.specs.Steps.NodeMoves.{ClientInMove, ClientOutMove}
use Rattle.node_moments.specs.NodeView.{NodeView, HasLink, is_ready, done_at, taken_pieces, given_pieces}
use Rattle.turn_pieces.proofs.PieceCounts.{done_more}
use Rattle.node_links.proofs.LinkLaws.{both, both_left, from_client, to_client, on_as}
use Rattle.node_moments.proofs.ClientLinks.{HasSome, one_or_none, left_off, active_on, active_retired, active_turns, idle_turns}
use Rattle.node_moments.proofs.LinkPorts.{is_client_port, joins_as, has_part, touched_in, sole, given_in, taken_out, LinkMoved}
use Rattle.node_links.proofs.Senders.{element_at}
use Rattle.node_moments.proofs.Parts.{one_at, link_after, ready, ready_less}
use Rattle.node_moments.proofs.PieceMoves.{Step, done_but, MayAt, earlier_by, PipeAt, PipeMoves, client_kept, later_by}

-- ---- no connection has a part in the piece

-- the connection of the client is then not active: it does as many of its turns with the piece as without
idle_piece : (plan : Plan) (first : BaysView) (read more : InputBytes) (name : PortName) (old new : NodeView) (was is : BaysView) → Step plan first read more name old new was is
    → ((i : ℕ) (link : Link) → slice_get old.links i ≡ Some link → takes_part old.past name link ≡ false)
    → (i : ℕ) (x : Connection) (link : Link) → slice_get plan.connections i ≡ Some x → HasLink old i link → touches name x ≡ true → turns_done x old.past (done_at new name) ≡ turns_done x old.past (done_at old name)
idle_piece plan first read more name old new was is s none i x link at had touched =
    let is_of = s.stands.plan_stands.links i x link at had in
    let off : is_on old.past link ≡ false = left_off (is_on old.past link) (joins name link) (joins_as name x link is_of ∙ touched) (none i link had) in
    idle_turns x old.past (done_at new name) (done_at old name) (sym (on_as x old.past link is_of) ∙ off)

-- and all is as it was
idle_moves : (plan : Plan) (first : BaysView) (read : InputBytes) (name : PortName) (old new : NodeView) (was is : BaysView) → (s : Step plan first read read name old new was is)
    → ((i : ℕ) (link : Link) → slice_get old.links i ≡ Some link → takes_part old.past name link ≡ false) → ((inputs : Inputs) → MayGive plan read new inputs → MayAt plan read old inputs name)
    → (((inputs : Inputs) → MayGive plan read new inputs → MayGive plan read old inputs) → PortStands plan first read new is name) → Later plan first read old new is
idle_moves plan first read name old new was is s none may_at mine =
    let earlier : (inputs : Inputs) → MayGive plan read new inputs → MayGive plan read old inputs = λ inputs may. earlier_by plan first read read name old new was is s inputs may (may_at inputs may) in
    later_by plan first read read name old new was is s earlier
    (λ inputs may i x link next at had has is_of active part stood. both (takes_part old.past name link) part (none i link had))
    (mine earlier)

-- ---- one has

-- it is the one of the plan at the client, and is active
record Partner (plan : Plan) (name : PortName) (old new : NodeView) : Type 0 where
  i : ℕ
  x : Connection
  link : Link
  next : Link
  known : slice_get plan.connections i ≡ Some x
  had : HasLink old i link
  has : HasLink new i next
  is_of : IsLinkOf x link
  at_port : touches name x ≡ true
  active : IsActive x old.past
  part : takes_part old.past name link ≡ true

partner : (plan : Plan) (name : PortName) (old new : NodeView) → PlanStands plan old → EachLink (LinkMoved name old.past) old.links new.links → HasSome (takes_part old.past name) old.links → Partner plan name old new
partner plan name old new p links s =
    let within : s.i < length old.links = slice_get_within old.links s.i s.link s.known in
    let k = element_at plan.connections s.i (omega (arith, p.count)) in
    let a = link_after (LinkMoved name old.past) old.links new.links s.i s.link links s.known in
    let is = p.links s.i k.0 s.link k.1 s.known in
    record {
      i = s.i;
      x = k.0;
      link = s.link;
      next = a.new;
      known = k.1;
      had = s.known;
      has = a.known;
      is_of = is;
      at_port = has_part name k.0 s.link old.past is s.passes;
      active = active_on k.0 old.past s.link is (both_left (is_on old.past s.link) (joins name s.link) s.passes);
      part = s.passes;
    }

-- and no other is at it
record IsPartner (plan : Plan) (name : PortName) (old new : NodeView) (t : Partner plan name old new) (x : Connection) (link next : Link) : Type 0 where
  entry : x ≡ t.x
  before : link ≡ t.link
  after : next ≡ t.next

one_partner : (plan : Plan) (name : PortName) (old new : NodeView) (t : Partner plan name old new) → PlanStands plan old → is_client_port name ≡ true → (i : ℕ) (x : Connection) (link next : Link)
    → slice_get plan.connections i ≡ Some x → HasLink old i link → HasLink new i next → touches name x ≡ true → IsPartner plan name old new t x link next
one_partner plan name old new t p client i x link next at had has touched =
    let same : i ≡ t.i = sole plan name i t.i x t.x p.accepted client at t.known touched t.at_port in
    record {
      entry = one_at plan.connections t.i x t.x (rw same at at) t.known;
      before = one_at old.links t.i link t.link (rw same at had) t.had;
      after = one_at new.links t.i next t.next (rw same at has) t.has;
    }

only_partner : (plan : Plan) (name : PortName) (old new : NodeView) (t : Partner plan name old new) → PlanStands plan old → is_client_port name ≡ true → (j : ℕ) (other : Link) → slice_get old.links j ≡ Some other
    → takes_part old.past name other ≡ true → j ≡ t.i
only_partner plan name old new t p client j other had part =
    let within : j < length old.links = slice_get_within old.links j other had in
    let k = element_at plan.connections j (omega (arith, p.count)) in
    let touched = has_part name k.0 other old.past (p.links j k.0 other k.1 had) part in
    sole plan name j t.i k.0 t.x p.accepted client k.1 t.known touched t.at_port

-- its part before the piece
part_before : {P : Type 0} (plan : Plan) (name : PortName) (old new : NodeView) (first was : P) (empties : Bool → P → P) (Part : Connection → Link → P → ℕ → Type 0) (read : List ℕ) → (t : Partner plan name old new)
    → ((v : P) → empties false v ≡ v) → done_at old name ≡ 0 → ClientStands plan old name first was empties Part read → Part t.x t.link was (own_turn t.x old.past)
part_before plan name old new first was empties Part read t stays none h =
    let c = h.started t.i t.x t.link t.known t.had t.at_port t.active.start in
    let here : c.was ≡ was = sym (c.place ∙ ap (λ b. empties b c.was) (active_retired t.x old.past t.active) ∙ stays c.was) in
    let turns : turns_done t.x old.past (done_at old name) ≡ own_turn t.x old.past = active_turns t.x old.past (done_at old name) t.active ∙ omega (arith, none) in
    subst (λ k. Part t.x t.link was k) turns (subst (λ v. Part t.x t.link v (turns_done t.x old.past (done_at old name))) here c.stands)

-- and after it
part_after : {P : Type 0} (plan : Plan) (name : PortName) (old new : NodeView) (first is : P) (empties : Bool → P → P) (Part : Connection → Link → P → ℕ → Type 0) (read : List ℕ) → (t : Partner plan name old new)
    → ((v : P) → empties false v ≡ v) → PlanStands plan old → EachLink (LinkMoved name old.past) old.links new.links → is_client_port name ≡ true → new.past ≡ old.past → done_at new name ≡ 1
    → Part t.x t.next is (own_turn t.x old.past + 1) → ClientStands plan new name first is empties Part read
part_after plan name old new first is empties Part read t stays p links client past one now = record {
  started = λ i x next at has touched start.
      let link = link_back i next has in
      let s = one_partner plan name old new t p client i x link.0 next at link.1 has touched in
      let turns : turns_done t.x new.past (done_at new name) ≡ own_turn t.x old.past + 1 = ap (λ k. turns_done t.x k (done_at new name)) past ∙ ap (turns_done t.x old.past) one ∙ active_turns t.x old.past 1 t.active in
      let alive : is_retired t.x new.past ≡ false = ap (is_retired t.x) past ∙ active_retired t.x old.past t.active in
      rw (s.entry, s.after) (record { was = is; stands = subst (λ k. Part t.x t.next is k) (sym turns) now; place = sym (ap (λ b. empties b is) alive ∙ stays is) });
  waits = λ i x at touched late.
      let same : i ≡ t.i = sole plan name i t.i x t.x p.accepted client at t.known touched t.at_port in
      let entry : x ≡ t.x = one_at plan.connections t.i x t.x (rw same at at) t.known in
      let early = t.active.start in
      absurd (omega (arith, past, ap (λ (y : Connection). y.start) entry));
}
  where
    link_back : (i : ℕ) (next : Link) → HasLink new i next → (link : Link) × HasLink old i link
    link_back i next has = let within : i < length new.links = slice_get_within new.links i next has in element_at old.links i (omega (arith, links.count))

-- ---- a client input

links_in : (past n : ℕ) (was : InView) (links : List Link) (is : InView) (nexts : List Link) → TakesClient past n was links is nexts → EachLink (LinkMoved (port.ClientIn n) past) links nexts
links_in past n was links is nexts t = record { count = t.took.count; each = λ i old new had has. let h = t.took.each i old new had has in record { same = h.0; other = h.2; taking = λ e. absurd (cc); giving = λ e. h.1 } }

-- the bytes that were taken
abbrev more_of : (n : ℕ) → (further : List ℕ) → InputBytes → InputBytes
more_of n further read = record { line = read.line; client = λ c. if c == n then read.client c ++ further else read.client c }

more_here : (n : ℕ) (further : List ℕ) (read : InputBytes) → (more_of n further read).client n ≡ read.client n ++ further
more_here n further read = rw (eq-eqb n n refl) refl

more_other : (n c : ℕ) (further : List ℕ) (read : InputBytes) → port.ClientIn c ≢ port.ClientIn n → (more_of n further read).client c ≡ read.client c
more_other n c further read differ = elim (eqb_tells c n) [
  | inl t ↦ absurd (differ (ap port.ClientIn t.1))
  | inr t ↦ rw t.0 refl
]

may_as : (inputs : Inputs) (x : Connection) (n : ℕ) (link : Link) (bytes read : List ℕ) → x.from ≡ from_end.Client n → bytes ≡ read → MayShow link.pipe.taking bytes (of_client (inputs.client n)) → MayShow link.pipe.taking read (own_input inputs x)
may_as inputs x n link bytes read from same h = subst (λ o. MayShow link.pipe.taking read o) (sym (ap (own_of inputs) from)) (subst (λ b. MayShow link.pipe.taking b (of_client (inputs.client n))) same h)

-- the turn of a client is taken by its one piece
client_ended : (plan : Plan) (inputs : Inputs) (n past k : ℕ) (e : FromEnd) → e ≡ from_end.Client n → (frames_by plan inputs e past k ≡ []) × (ended_by e k ≡ (k == 1))
client_ended plan inputs n past k e is = rw is (refl, refl)

took_pipe : (plan : Plan) (inputs : Inputs) (input : OwnInput) (x : Connection) (n past j k m filled given : ℕ) (from : FromEnd) (old new : PipeView) → from ≡ from_end.Client n → k ≡ 0 → m ≡ 1 → given ≡ filled
    → (PipeStands x input j [] false filled old → PipeStands x input j [] true filled new)
    → PipeStands x input j (frames_by plan inputs from past k) (ended_by from k) filled old → PipeStands x input j (frames_by plan inputs from past m) (ended_by from m) given new
took_pipe plan inputs input x n past j k m filled given from old new is none one same took h =
    let before = client_ended plan inputs n past k from is in
    let after = client_ended plan inputs n past m from is in
    let open_yet : ended_by from k ≡ false = before.1 ∙ ap (λ k. k == 1) none in
    let over : ended_by from m ≡ true = after.1 ∙ ap (λ k. k == 1) one in
    let was : PipeStands x input j [] false filled old = rw (before.0, open_yet) at h in
    rw (after.0, over, same) (took was)

takes_one : (plan : Plan) (first : BaysView) (n : ℕ) (read : InputBytes) (old new : NodeView) (was is : BaysView) → is_ready old (port.ClientIn n) ≡ true → ClientInMove n old (client_in_at was n) new (client_in_at is n)
    → OnlyPort (port.ClientIn n) was is → StandsAt plan first read old was → HasSome (takes_part old.past (port.ClientIn n)) old.links → Later plan first read old new is
takes_one plan first n read old new was is is_so m only h some =
    let p = h.plan_stands in
    let r = ready old (port.ClientIn n) is_so in
    let links = links_in old.past n (client_in_at was n) old.links (client_in_at is n) new.links m.takes in
    let zero_done : done_at old (port.ClientIn n) ≡ 0 = (let less = ready_less plan old (port.ClientIn n) p r in omega arith) in
    let one_done : done_at new (port.ClientIn n) ≡ 1 = done_more (port.ClientIn n) old.pieces new.pieces m.piece.counted ∙ omega arith in
    let t = partner plan (port.ClientIn n) old new p links some in
    let from = from_client n t.x.from t.at_port in
    let c : ClientTook t.x (client_in_at first n) (client_in_at is n) (read.client n) (own_turn t.x old.past) t.link.pipe t.next.pipe = m.takes.one t.i t.link t.next t.had t.has t.part
    (only_partner plan (port.ClientIn n) old new t p refl) t.x (client_in_at first n) (read.client n) t.is_of
    (part_before plan (port.ClientIn n) old new (client_in_at first n) (client_in_at was n) after_retire (GivesText first read n) (read.client n) t (λ v. refl) zero_done (h.ports (port.ClientIn n))) in
    let more = more_of n c.more read in
    let bytes : more.client n ≡ read.client n ++ c.more = more_here n c.more read in
    let s : Step plan first read more (port.ClientIn n) old new was is = record { stands = h; ready = r; piece = m.piece; links = links; only = only; line = λ a e. refl; client = λ d e. more_other n d c.more read e } in
    later_by plan first read more (port.ClientIn n) old new was is s
    (λ inputs may. earlier_by plan first read more (port.ClientIn n) old new was is s inputs may (λ i x link at had further start.
    let a = link_after (LinkMoved (port.ClientIn n) old.past) old.links new.links i link links had in
    let o = one_partner plan (port.ClientIn n) old new t p refl i x link a.new at had a.known (touched_in n x further) in
    let here : MayShow t.next.pipe.taking (read.client n ++ c.more) (of_client (inputs.client n)) = rw (o.after, bytes) at (may.clients i n x a.new at a.known further (rw m.piece.past start)) in
    rw o.before (c.earlier (of_client (inputs.client n)) here)))
    (λ inputs may i x link next at had has is_of active part stood.
    let o = one_partner plan (port.ClientIn n) old new t p refl i x link next at had has (has_part (port.ClientIn n) x link old.past is_of part) in
    let start : t.x.start ≤ new.past + 1 = (let start = t.active.start in let past = m.piece.past in omega arith) in
    let show = may_as inputs t.x n t.next (more.client n) (read.client n ++ c.more) from bytes (may.clients t.i n t.x t.next t.known t.has from start) in
    let it : PipeAt plan inputs old t.x t.link = rw (o.entry, o.before) at stood in
    rw (o.entry, o.after) (took_pipe plan inputs (own_input inputs t.x) t.x n old.past (own_turn t.x old.past) (taken_pieces old t.x.from) (taken_pieces new t.x.from) (given_pieces old t.x.to)
    (given_pieces new t.x.to) t.x.from t.link.pipe t.next.pipe from (ap (taken_pieces old) from ∙ zero_done) (ap (taken_pieces new) from ∙ one_done)
    (given_in (port.ClientIn n) old new refl (done_but plan first read more (port.ClientIn n) old new was is s) t.x.to) (c.pipe (own_input inputs t.x) [] (given_pieces old t.x.to) show) it))
    (part_after plan (port.ClientIn n) old new (client_in_at first n) (client_in_at is n) after_retire (GivesText first more n) (more.client n) t (λ v. refl) p links refl m.piece.past one_done
    (subst (λ b. ClientInStands t.x (client_in_at first n) (client_in_at is n) b (own_turn t.x old.past + 1) t.next.pipe.taking) (sym bytes)
    (subst (λ k. ClientInStands t.x (client_in_at first n) (client_in_at is n) (read.client n ++ c.more) k t.next.pipe.taking) (omega arith) c.stands)))

takes_none : (plan : Plan) (first : BaysView) (n : ℕ) (read : InputBytes) (old new : NodeView) (was is : BaysView) → is_ready old (port.ClientIn n) ≡ true → ClientInMove n old (client_in_at was n) new (client_in_at is n)
    → OnlyPort (port.ClientIn n) was is → StandsAt plan first read old was → ((i : ℕ) (link : Link) → slice_get old.links i ≡ Some link → takes_part old.past (port.ClientIn n) link ≡ false) → Later plan first read old new is
takes_none plan first n read old new was is is_so m only h none =
    let links = links_in old.past n (client_in_at was n) old.links (client_in_at is n) new.links m.takes in
    let s : Step plan first read read (port.ClientIn n) old new was is = record { stands = h; ready = ready old (port.ClientIn n) is_so; piece = m.piece; links = links; only = only; line = λ a e. refl; client = λ d e. refl } in
    let kept : (i : ℕ) (link next : Link) → HasLink old i link → HasLink new i next → next ≡ link = λ i link next had has. (links.each i link next had has).other (none i link had) in
    idle_moves plan first read (port.ClientIn n) old new was is s none
    (λ inputs may i x link at had further start.
    let a = link_after (LinkMoved (port.ClientIn n) old.past) old.links new.links i link links had in
    rw (kept i link a.new had a.known) at (may.clients i n x a.new at a.known further (rw m.piece.past start)))
    (λ earlier. client_kept plan (port.ClientIn n) old new (client_in_at first n) (client_in_at was n) (client_in_at is n) after_retire (GivesText first read n) (GivesText first read n) (read.client n) (read.client n)
    links.count m.piece.past (m.takes.none none) refl (idle_piece plan first read read (port.ClientIn n) old new was is s none)
    (λ i x link next at had has touched v k stood. rw (kept i link next had has) stood) (h.ports (port.ClientIn n)))

pub client_in_moves : (plan : Plan) (first : BaysView) (read : InputBytes) (n : ℕ) (old new : NodeView) (was is : BaysView) → is_ready old (port.ClientIn n) ≡ true
    → ClientInMove n old (client_in_at was n) new (client_in_at is n) → OnlyPort (port.ClientIn n) was is → StandsAt plan first read old was → Later plan first read old new is
client_in_moves plan first read n old new was is is_so m only h = elim (one_or_none (takes_part old.past (port.ClientIn n)) old.links) [
  | inl some ↦ takes_one plan first n read old new was is is_so m only h some
  | inr none ↦ takes_none plan first n read old new was is is_so m only h none
]

-- ---- a client output

links_out : (past n : ℕ) (was : OutView) (links : List Link) (is : OutView) (nexts : List Link) → GivesClient past n was links is nexts → EachLink (LinkMoved (port.ClientOut n) past) links nexts
links_out past n was links is nexts t = record { count = t.gave.count; each = λ i old new had has. let h = t.gave.each i old new had has in record { same = h.0; other = h.2; taking = λ e. h.1; giving = λ e. absurd (cc) } }

-- a pipe to a client fills no frames
giving_any : (n : ℕ) (x : Connection) (input : OwnInput) (j a b : ℕ) (e : ToEnd) (part : GivingPart) → e ≡ to_end.Client n → GivingStands e x input j a part → GivingStands e x input j b part
giving_any n x input j a b (to_end.Line c number slots) part e h = cc
giving_any n x input j a b (to_end.Client c) (giving.Line source) e h = h
giving_any n x input j a b (to_end.Client c) (giving.Client receiver) e h = h

pipe_any : (n : ℕ) (x : Connection) (input : OwnInput) (j : ℕ) (frames : List Taken) (ended : Bool) (a b : ℕ) (pipe : PipeView) → x.to ≡ to_end.Client n → PipeStands x input j frames ended a pipe
    → PipeStands x input j frames ended b pipe
pipe_any n x input j frames ended a b pipe to h = record { entry = h.entry; taking = h.taking; incoming = h.incoming; outgoing = h.outgoing; giving = giving_any n x input j a b x.to pipe.giving to h.giving }

gives_pipes : (plan : Plan) (first : BaysView) (n : ℕ) (read : InputBytes) (old new : NodeView) (was is : BaysView) → Step plan first read read (port.ClientOut n) old new was is
    → ClientOutMove n old (client_out_at was n) new (client_out_at is n) → PipeMoves plan read (port.ClientOut n) old new
gives_pipes plan first n read old new was is s m inputs may i x link next at had has is_of active part stood =
    let to = to_client n x.to (has_part (port.ClientOut n) x link old.past is_of part) in
    let k = taken_pieces old x.from in
    rw (taken_out (port.ClientOut n) old new refl (done_but plan first read read (port.ClientOut n) old new was is s) x.from)
    (pipe_any n x (own_input inputs x) (own_turn x old.past) (frames_by plan inputs x.from old.past k) (ended_by x.from k) (given_pieces old x.to) (given_pieces new x.to) next.pipe to
    ((m.gives.gave.each i link next had has).3 x (own_input inputs x) (own_turn x old.past) (given_pieces old x.to) (frames_by plan inputs x.from old.past k) (ended_by x.from k) stood))

gives_one : (plan : Plan) (first : BaysView) (n : ℕ) (read : InputBytes) (old new : NodeView) (was is : BaysView) → (s : Step plan first read read (port.ClientOut n) old new was is)
    → ClientOutMove n old (client_out_at was n) new (client_out_at is n) → HasSome (takes_part old.past (port.ClientOut n)) old.links → Later plan first read old new is
gives_one plan first n read old new was is s m some =
    let p = s.stands.plan_stands in
    let zero_done : done_at old (port.ClientOut n) ≡ 0 = (let less = ready_less plan old (port.ClientOut n) p s.ready in omega arith) in
    let one_done : done_at new (port.ClientOut n) ≡ 1 = done_more (port.ClientOut n) old.pieces new.pieces m.piece.counted ∙ omega arith in
    let t = partner plan (port.ClientOut n) old new p s.links some in
    let k = taken_pieces old t.x.from in
    let earlier : (inputs : Inputs) → MayGive plan read new inputs → MayGive plan read old inputs = λ inputs may. earlier_by plan first read read (port.ClientOut n) old new was is s inputs may tt in
    let stood = part_before plan (port.ClientOut n) old new (client_out_at first n) (client_out_at was n) out_after_retire (GetsText plan first read old n) [] t (λ v. refl) zero_done (s.stands.ports (port.ClientOut n)) in
    later_by plan first read read (port.ClientOut n) old new was is s earlier (gives_pipes plan first n read old new was is s m)
    (part_after plan (port.ClientOut n) old new (client_out_at first n) (client_out_at is n) out_after_retire (GetsText plan first read new n) [] t (λ v. refl) p s.links refl m.piece.past one_done (λ inputs may.
    m.gives.one t.i t.link t.next t.had t.has t.part (only_partner plan (port.ClientOut n) old new t p refl) t.x (own_input inputs t.x) (client_out_at first n) (given_pieces old t.x.to)
    (frames_by plan inputs t.x.from old.past k) (ended_by t.x.from k) (s.stands.pipes.each inputs (earlier inputs may) t.i t.x t.link t.known t.had t.active) (stood inputs (earlier inputs may))))

gives_none : (plan : Plan) (first : BaysView) (n : ℕ) (read : InputBytes) (old new : NodeView) (was is : BaysView) → (s : Step plan first read read (port.ClientOut n) old new was is)
    → ClientOutMove n old (client_out_at was n) new (client_out_at is n) → ((i : ℕ) (link : Link) → slice_get old.links i ≡ Some link → takes_part old.past (port.ClientOut n) link ≡ false) → Later plan first read old new is
gives_none plan first n read old new was is s m none = idle_moves plan first read (port.ClientOut n) old new was is s none (λ inputs may. tt) (λ earlier.
    client_kept plan (port.ClientOut n) old new (client_out_at first n) (client_out_at was n) (client_out_at is n) out_after_retire (GetsText plan first read old n) (GetsText plan first read new n) [] []
    s.links.count m.piece.past (m.gives.none none) refl (idle_piece plan first read read (port.ClientOut n) old new was is s none)
    (λ i x link next at had has touched v k stood. λ inputs may. rw ((s.links.each i link next had has).other (none i link had)) (stood inputs (earlier inputs may))) (s.stands.ports (port.ClientOut n)))

pub client_out_moves : (plan : Plan) (first : BaysView) (read : InputBytes) (n : ℕ) (old new : NodeView) (was is : BaysView) → is_ready old (port.ClientOut n) ≡ true
    → ClientOutMove n old (client_out_at was n) new (client_out_at is n) → OnlyPort (port.ClientOut n) was is → StandsAt plan first read old was → Later plan first read old new is
client_out_moves plan first read n old new was is is_so m only h =
    let links = links_out old.past n (client_out_at was n) old.links (client_out_at is n) new.links m.gives in
    let s : Step plan first read read (port.ClientOut n) old new was is = record { stands = h; ready = ready old (port.ClientOut n) is_so; piece = m.piece; links = links; only = only; line = λ a e. refl; client = λ d e. refl } in
    elim (one_or_none (takes_part old.past (port.ClientOut n)) old.links) [
      | inl some ↦ gives_one plan first n read old new was is s m some
      | inr none ↦ gives_none plan first n read old new was is s m none
    ]
