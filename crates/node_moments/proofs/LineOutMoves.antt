-- A piece of an output line leads to the next moment.
use Rattle.std.proofs.Common.{◌≡◌, ◌<◌, ◌+◌, ◌*◌, ◌/◌, ◌%◌, ◌⊎◌, ℕ, zero, suc, Bool, true, List, [], ◌∷◌, ◌++◌, Some, length, slice_get, arith, refl, ap, subst, ◌∙◌, inl, inr}
use Rattle.std.proofs.lemmas.Bool.Decides.{nat_tests}
use Rattle.std.proofs.lemmas.List.{length-append}
use Rattle.std.proofs.lemmas.Nat.{div-mul-add, mod-mul-add}
use Rattle.otn_base.specs.LineSlots.{LineSlots, slots_of}
use Rattle.otn_base.specs.declared.kind.PortName.TheVariants as port
use Rattle.port_base.specs.Places.{OnlyPort}
use Rattle.port_base.specs.Views.{BaysView, line_out_at}
use Rattle.line_side.specs.LineForm.{size_of}
use Rattle.line_side.specs.LineOutput.{FramePut}
use Rattle.plan_file.specs.declared.connection.Connection.{Connection}
use Rattle.plan_file.specs.declared.connection.ToEnd.{ToEnd}
use Rattle.plan_file.specs.declared.connection.ToEnd.TheVariants as to_end
use Rattle.plan_file.specs.declared.plan.Plan.{Plan}
use Rattle.tributary_model.specs.Places.{Taken}
use Rattle.device_model.specs.Entries.{form_out, own_turn, is_to_line}
use Rattle.device_model.specs.LineFiles.{IsFrameOf, AreFramesOf}
use Rattle.device_model.specs.Through.{Inputs, OwnInput, own_input}
use Rattle.device_model.proofs.SoundPlans.{sound_plan}
use Rattle.cross_matrix.specs.Pipes.{PipeStands}
use Rattle.node_links.specs.Links.{takes_part}
use Rattle.node_links.specs.Moves.{EachLink, GaveFrame, FillLine}
use Rattle.node_moments.specs.Steps.NodeMoves.{LineOutMove}
use Rattle.node_moments.specs.NodeView.{NodeView, is_ready, done_at, taken_pieces, given_pieces}
use Rattle.node_moments.specs.Stands.{InputBytes, MayGive, frames_by, ended_by, PlanStands, PipesStand, LineOutAt, PortStands, StandsAt, Later}
use Rattle.node_links.specs.declared.link.Link.{Link}
use Rattle.turn_pieces.proofs.PieceCounts.{done_more}
use Rattle.node_moments.proofs.LinkPorts.{has_part, taken_out, LinkMoved}
use Rattle.node_moments.proofs.Parts.{one_at, ready, ready_less}
use Rattle.node_moments.proofs.PieceMoves.{Step, done_but, earlier_by, PipeMoves, later_by}

-- ---- a connection to the line

-- it has filled a frame more
gave_pipe : (input : OwnInput) (x : Connection) (b past k j : ℕ) (frames : List Taken) (ended : Bool) (node next_node : NodeView) (link next : Link) (to : ToEnd)
    → x.to ≡ to → is_to_line b to ≡ true → takes_part past (port.LineOut b) link ≡ true → ((number : ℕ) (slots : LineSlots) → to ≡ to_end.Line b number slots → k < slots_of slots.kind)
    → done_at node (port.LineOut b) ≡ k → done_at next_node (port.LineOut b) ≡ k + 1 → GaveFrame (takes_part past (port.LineOut b) link) k link next
    → PipeStands x input j frames ended (given_pieces node to) link.pipe → PipeStands x input j frames ended (given_pieces next_node to) next.pipe
gave_pipe input x b past k j frames ended node next_node link next (to_end.Line c number slots) to mine gives less before after g h =
    let is : c ≡ b = grind (arith, nat_tests) in
    let end : to_end.Line c number slots ≡ to_end.Line b number slots = ap (λ c. to_end.Line c number slots) is in
    let stood : PipeStands x input j frames ended k link.pipe = rw (is, before) at h in
    rw (is, after) (g.gave gives x b number slots input j frames ended (to ∙ end) (less number slots end) stood)
gave_pipe input x b past k j frames ended node next_node link next (to_end.Client n) to mine gives less before after g h = absurd (cc)

-- the slots of its end are those of a line of this kind
many_of : (plan : Plan) (i b number : ℕ) (slots : LineSlots) (x : Connection) (node : NodeView) → PlanStands plan node → slice_get plan.connections i ≡ Some x → x.to ≡ to_end.Line b number slots
    → slots_of slots.kind ≡ size_of (form_out plan b)
many_of plan i b number slots x node p at_i to = ap slots_of (((sound_plan plan p.accepted).entries i x at_i).to_line b number slots to).kind

line_pipes : (plan : Plan) (first : BaysView) (b : ℕ) (read : InputBytes) (old new : NodeView) (was is : BaysView) → LineOutMove b old (line_out_at was b) new (line_out_at is b)
    → Step plan first read read (port.LineOut b) old new was is → PipeMoves plan read (port.LineOut b) old new
line_pipes plan first b read old new was is m s inputs may i x link next at had has is_of active part stood =
    let p = s.stands.plan_stands in
    let k = taken_pieces old x.from in
    let less : (number : ℕ) (slots : LineSlots) → x.to ≡ to_end.Line b number slots → done_at old (port.LineOut b) < slots_of slots.kind
    = λ number slots to. omega (arith, many_of plan i b number slots x old p at to, ready_less plan old (port.LineOut b) p s.ready) in
    let mine : is_to_line b x.to ≡ true = has_part (port.LineOut b) x link old.past is_of part in
    rw (taken_out (port.LineOut b) old new refl (done_but plan first read read (port.LineOut b) old new was is s) x.from)
    (gave_pipe (own_input inputs x) x b old.past (done_at old (port.LineOut b)) (own_turn x old.past) (frames_by plan inputs x.from old.past k) (ended_by x.from k) old new link next x.to refl mine part less refl
    (done_more (port.LineOut b) old.pieces new.pieces m.piece.counted) (m.writes.gave.each i link next had has) stood)

-- ---- the frame

-- the connections to the line stand at its frame
filled : (plan : Plan) (inputs : Inputs) (b : ℕ) (read : InputBytes) (node : NodeView) → PlanStands plan node → PipesStand plan read node → MayGive plan read node inputs
    → FillLine plan inputs b node.past (done_at node (port.LineOut b)) node.links
filled plan inputs b read node p h may = record {
  count = p.count;
  of_plan = p.links;
  stand = λ i number slots x link at_i has to active.
      let stood = h.each inputs may i x link at_i has active in
      let frames = frames_by plan inputs x.from node.past (taken_pieces node x.from) in
      let ended = ended_by x.from (taken_pieces node x.from) in
      (frames, (ended, subst (λ k. PipeStands x (own_input inputs x) (own_turn x node.past) frames ended k link.pipe) (ap (given_pieces node) to) stood));
}

-- an element of a list with one more at its end
last_or : (xs : List FramePut) (x y : FramePut) (i : ℕ) → slice_get (xs ++ x ∷ []) i ≡ Some y → (slice_get xs i ≡ Some y) ⊎ ((i ≡ length xs) × (y ≡ x))
last_or [] x y zero e = inr (refl, cc)
last_or [] x y (suc i) e = cc
last_or (z ∷ zs) x y zero e = inl e
last_or (z ∷ zs) x y (suc i) e = elim (last_or zs x y i e) [
  | inl t ↦ inl t
  | inr t ↦ inr (ap suc t.0, t.1)
]

one_more : (plan : Plan) (inputs : Inputs) (b past k : ℕ) (puts : List FramePut) (put : FramePut) → k < size_of (form_out plan b) → AreFramesOf plan inputs b (size_of (form_out plan b) * past + k) puts
    → IsFrameOf plan inputs b past k put → AreFramesOf plan inputs b (size_of (form_out plan b) * past + (k + 1)) (puts ++ put ∷ [])
one_more plan inputs b past k puts put less h is = record {
  many = (let many = h.many in omega (arith, length-append puts (put ∷ [])));
  each = λ f y known. elim (last_or puts put y f known) [
    | inl t ↦ h.each f y t
    | inr t ↦
        let at_f : f ≡ past * size_of (form_out plan b) + k = (let many = h.many in omega (arith, t.0)) in
        let turn : f / size_of (form_out plan b) ≡ past = ap (λ f. f / size_of (form_out plan b)) at_f ∙ div-mul-add past (size_of (form_out plan b)) k less in
        let frame : f % size_of (form_out plan b) ≡ k = ap (λ f. f % size_of (form_out plan b)) at_f ∙ mod-mul-add past (size_of (form_out plan b)) k less in
        rw (turn, frame, t.1) is
  ];
}

-- ---- the line

line_at : (plan : Plan) (first : BaysView) (b : ℕ) (read : InputBytes) (old new : NodeView) (was is : BaysView) → (m : LineOutMove b old (line_out_at was b) new (line_out_at is b))
    → Step plan first read read (port.LineOut b) old new was is → ((inputs : Inputs) → MayGive plan read new inputs → MayGive plan read old inputs) → LineOutAt plan first read old was b
    → PortStands plan first read new is (port.LineOut b)
line_at plan first b read old new was is m s earlier h = λ inputs may line has used.
    let p = s.stands.plan_stands in
    let before = earlier inputs may in
    let same : line ≡ m.next = one_at new.lines_out b line m.next has m.has in
    let stood = h inputs before m.line m.had used in
    let made = stood.2 in
    let frame = m.frame plan inputs p.accepted made.is_form (filled plan inputs b read old p s.stands.pipes before) in
    let frames = one_more plan inputs b old.past (done_at old (port.LineOut b)) stood.0 m.writes.put (ready_less plan old (port.LineOut b) p s.ready) stood.1 frame in
    rw (same, m.piece.past, done_more (port.LineOut b) old.pieces new.pieces m.piece.counted) (stood.0 ++ m.writes.put ∷ [], frames, m.writes.made (form_out plan b) (line_out_at first b) stood.0 made)

-- ---- the moment

pub line_out_moves : (plan : Plan) (first : BaysView) (read : InputBytes) (b : ℕ) (old new : NodeView) (was is : BaysView) → is_ready old (port.LineOut b) ≡ true
    → LineOutMove b old (line_out_at was b) new (line_out_at is b) → OnlyPort (port.LineOut b) was is → StandsAt plan first read old was → Later plan first read old new is
line_out_moves plan first read b old new was is is_so m only h =
    let links : EachLink (LinkMoved (port.LineOut b) old.past) old.links new.links = record {
      count = m.writes.gave.count;
      each = λ i link next had has. let g = m.writes.gave.each i link next had has in record { same = g.same; other = g.other; taking = λ e. g.taking; giving = λ e. absurd (cc) };
    } in
    let s : Step plan first read read (port.LineOut b) old new was is = record { stands = h; ready = ready old (port.LineOut b) is_so; piece = m.piece; links = links; only = only; line = λ a e. refl; client = λ n e. refl } in
    let earlier : (inputs : Inputs) → MayGive plan read new inputs → MayGive plan read old inputs = λ inputs may. earlier_by plan first read read (port.LineOut b) old new was is s inputs may tt in
    later_by plan first read read (port.LineOut b) old new was is s earlier (line_pipes plan first b read old new was is m s)
    (line_at plan first b read old new was is m s earlier (h.ports (port.LineOut b)))
