-- A piece of an input line leads to the next moment.
use Rattle.std.proofs.Common.{◌≡◌, ◌≢◌, ◌<◌, ◌≤◌, ◌+◌, ◌==◌, ℕ, zero, suc, Bool, true, false, ◌&&◌, if◌then◌else◌, List, [], ◌∷◌, ◌++◌, length, slice_get, arith, refl, sym, ap, ◌∙◌, inl, inr, Option, Some, None, add-one}
use Rattle.std.specs.Prelude.{is_some, IfSome}
use Rattle.std.proofs.lemmas.Bool.{eq-eqb}
use Rattle.std.proofs.lemmas.Bool.Decides.{nat_tests, eqb_tells}
use Rattle.std.proofs.lemmas.List.{length-append, append-nil}
use Rattle.otn_base.specs.LineSlots.{LineSlots, slots_of}
use Rattle.otn_base.specs.declared.kind.PortName.TheVariants as port
use Rattle.port_base.specs.Places.{OnlyPort}
use Rattle.port_base.specs.Views.{InView, BaysView, line_in_at}
use Rattle.line_side.specs.LineFile.{frame_at, mfas_of}
use Rattle.line_side.specs.LineForm.{size_of}
use Rattle.line_side.specs.LineStands.{LineView, PieceStands}
use Rattle.line_side.specs.MayBe.{MayBe}
use Rattle.multiframe.specs.LineTurns.{Lock, line_state}
use Rattle.multiframe.specs.TurnPieces.{in_hand}
use Rattle.plan_file.specs.declared.connection.Connection.{Connection}
use Rattle.plan_file.specs.declared.connection.FromEnd.{FromEnd}
use Rattle.plan_file.specs.declared.connection.FromEnd.TheVariants as from_end
use Rattle.plan_file.specs.declared.plan.Plan.{Plan}
use Rattle.tributary_model.specs.Places.{Taken}
use Rattle.device_model.specs.Entries.{form_in, own_turn, is_from_line}
use Rattle.device_model.specs.Through.{Inputs, OwnInput, own_input}
use Rattle.device_model.proofs.SoundPlans.{sound_plan}
use Rattle.device_model.proofs.TurnFrames.{frames_none}
use Rattle.cross_matrix.specs.Pipes.{PipeStands}
use Rattle.node_links.specs.Links.{takes_part}
use Rattle.node_links.specs.Moves.{EachLink, TookFrame, ReadsLine}
use Rattle.node_moments.specs.Steps.NodeMoves.{LineInMove}
use Rattle.node_moments.specs.NodeView.{NodeView, is_ready, done_at, taken_pieces, given_pieces}
use Rattle.device_model.specs.TurnFrames.{member_of, frames_in}
use Rattle.node_moments.specs.Stands.{InputBytes, frames_by, ended_by, PlanStands, LineInAt, PortStands, StandsAt, Later}
use Rattle.node_links.specs.declared.link.Link.{Link}
use Rattle.turn_pieces.proofs.PieceCounts.{done_more}
use Rattle.node_moments.proofs.LinkPorts.{has_part, given_in, LinkMoved}
use Rattle.node_moments.proofs.Parts.{and_none, one_at, ready, ready_used, ready_less}
use Rattle.node_moments.proofs.PieceMoves.{Step, done_but, earlier_by, PipeMoves, later_by}

-- ---- the frames that pieces came to

frames_suc : (size : ℕ) (available : List ℕ) (past k : ℕ) → frames_in size available past (suc k) ≡ frames_in size available past k ++ member_of available (in_hand size (mfas_of available) (line_state size (mfas_of available) past) (suc k))
unfolding frames_in
frames_suc size available past k = refl

frames_next : (size : ℕ) (available : List ℕ) (past k : ℕ)
    → frames_in size available past (k + 1) ≡ frames_in size available past k ++ member_of available (in_hand size (mfas_of available) (line_state size (mfas_of available) past) (k + 1))
frames_next size available past k = rw add-one (frames_suc size available past k)

one_member : (available : List ℕ) (o : Option Lock) → length (member_of available o) ≤ 1
one_member available None = omega arith
one_member available (Some member) = omega arith

-- k pieces come to at most k
frames_most : (size : ℕ) (available : List ℕ) (past k : ℕ) → length (frames_in size available past k) ≤ k
frames_most size available past zero = rw (frames_none size available past) (omega arith)
frames_most size available past (suc k) =
    let further = member_of available (in_hand size (mfas_of available) (line_state size (mfas_of available) past) (suc k)) in
    rw (frames_suc size available past k, length-append (frames_in size available past k) further)
    (omega (arith, frames_most size available past k, one_member available (in_hand size (mfas_of available) (line_state size (mfas_of available) past) (suc k))))

-- the frame in hand, with the MFAS expected, where the last piece came to one
abbrev came_to : (has_frame : Bool) → (hand : List ℕ) → (expected : ℕ) → List Taken
came_to true hand expected = record { frame = hand; expected = expected } ∷ []
came_to false hand expected = []

hand_is : (available hand : List ℕ) (expected : ℕ) (has_frame : Bool) (o : Option Lock) → has_frame ≡ is_some o → IfSome o (λ m. hand ≡ frame_at available m.frame) → (has_frame ≡ true → IfSome o (λ m. expected ≡ m.expected))
    → member_of available o ≡ came_to has_frame hand expected
hand_is available hand expected has_frame None e h k = rw e refl
hand_is available hand expected has_frame (Some m) e h k = let is : expected ≡ m.expected = k e in rw (e, h, is) refl

-- ---- the bytes that were taken

abbrev more_of : (a : ℕ) → (further : List ℕ) → InputBytes → InputBytes
more_of a further read = record { line = λ b. if b == a then read.line b ++ further else read.line b; client = read.client }

more_other : (a b : ℕ) (further : List ℕ) (read : InputBytes) → port.LineIn b ≢ port.LineIn a → (more_of a further read).line b ≡ read.line b
more_other a b further read differ = elim (eqb_tells b a) [
  | inl t ↦ absurd (differ (ap port.LineIn t.1))
  | inr t ↦ rw t.0 refl
]

-- ---- the line

line_at : (plan : Plan) (first : BaysView) (a : ℕ) (read : InputBytes) (old new : NodeView) (was is : BaysView) → (m : LineInMove a old (line_in_at was a) new (line_in_at is a)) → m.line.pieces ≡ done_at old (port.LineIn a)
    → (ps : PieceStands (form_in plan a) (line_in_at first a) (line_in_at is a) (read.line a) old.past m.line m.next) → PortStands plan first (more_of a ps.further read) new is (port.LineIn a)
line_at plan first a read old new was is m counted ps = λ line has used.
    let same : line ≡ m.next = one_at new.lines_in a line m.next has m.has in
    let here : (a == a) ≡ true = eq-eqb a a refl in
    let pieces : m.next.pieces ≡ done_at new (port.LineIn a) = omega (arith, m.reads.pieces, done_more (port.LineIn a) old.pieces new.pieces m.piece.counted) in
    rw (here, same, m.piece.past) (ps.stands, pieces)

-- ---- a connection from the line

links_moved : (past a : ℕ) (line : LineView) (was : InView) (links : List Link) (next : LineView) (is : InView) (nexts : List Link) → ReadsLine past a line was links next is nexts → EachLink (LinkMoved (port.LineIn a) past) links nexts
links_moved past a line was links next is nexts reads = record {
  count = reads.took.count;
  each = λ i old new had has.
      let t = reads.took.each i old new had has in
      record { same = t.same; other = λ off. t.other (and_none next.has_frame (takes_part past (port.LineIn a) old) off); taking = λ e. absurd (cc); giving = λ e. t.giving };
}

-- it takes the frame
took_line : (plan : Plan) (inputs : Inputs) (input : OwnInput) (x : Connection) (a number : ℕ) (slots : LineSlots) (past k j filled : ℕ) (hand : List ℕ) (expected : ℕ) (has_frame : Bool) (old new : Link)
    → x.from ≡ from_end.Line a number slots → takes_part past (port.LineIn a) old ≡ true → k < slots_of slots.kind
    → frames_in (size_of (form_in plan a)) (inputs.line a) past (k + 1) ≡ frames_in (size_of (form_in plan a)) (inputs.line a) past k ++ came_to has_frame hand expected
    → TookFrame (has_frame && takes_part past (port.LineIn a) old) (record { frame = hand; expected = expected }) old new
    → PipeStands x input j (frames_in (size_of (form_in plan a)) (inputs.line a) past k) false filled old.pipe
    → PipeStands x input j (frames_in (size_of (form_in plan a)) (inputs.line a) past (k + 1)) false filled new.pipe
took_line plan inputs input x a number slots past k j filled hand expected true old new from takes less frames t h =
    let few = frames_most (size_of (form_in plan a)) (inputs.line a) past k in
    rw frames (t.took takes x a number slots input j filled (frames_in (size_of (form_in plan a)) (inputs.line a) past k) from (omega arith) h)
took_line plan inputs input x a number slots past k j filled hand expected false old new from takes less frames t h =
    rw (frames, append-nil (frames_in (size_of (form_in plan a)) (inputs.line a) past k), t.other refl) h

took_pipe : (plan : Plan) (inputs : Inputs) (input : OwnInput) (x : Connection) (a past k m j filled given : ℕ) (hand : List ℕ) (expected : ℕ) (has_frame : Bool) (link next : Link) (from : FromEnd)
    → x.from ≡ from → is_from_line a from ≡ true → takes_part past (port.LineIn a) link ≡ true → ((number : ℕ) (slots : LineSlots) → from ≡ from_end.Line a number slots → k < slots_of slots.kind) → m ≡ k + 1 → given ≡ filled
    → frames_in (size_of (form_in plan a)) (inputs.line a) past (k + 1) ≡ frames_in (size_of (form_in plan a)) (inputs.line a) past k ++ came_to has_frame hand expected
    → TookFrame (has_frame && takes_part past (port.LineIn a) link) (record { frame = hand; expected = expected }) link next
    → PipeStands x input j (frames_by plan inputs from past k) (ended_by from k) filled link.pipe → PipeStands x input j (frames_by plan inputs from past m) (ended_by from m) given next.pipe
took_pipe plan inputs input x a past k m j filled given hand expected has_frame link next (from_end.Line b number slots) from mine takes less more same frames t h =
    let is : b ≡ a = grind (arith, nat_tests) in
    let end : from_end.Line b number slots ≡ from_end.Line a number slots = ap (λ b. from_end.Line b number slots) is in
    let stood : PipeStands x input j (frames_in (size_of (form_in plan a)) (inputs.line a) past k) false filled link.pipe = rw is at h in
    rw (is, more, same) (took_line plan inputs input x a number slots past k j filled hand expected has_frame link next (from ∙ end) takes (less number slots end) frames t stood)
took_pipe plan inputs input x a past k m j filled given hand expected has_frame link next (from_end.Client n) from mine takes less more same frames t h = absurd (cc)
took_pipe plan inputs input x a past k m j filled given hand expected has_frame link next (from_end.Signal signal) from mine takes less more same frames t h = absurd (cc)

-- the slots of its end are those of a line of this kind
few_of : (plan : Plan) (i a number : ℕ) (slots : LineSlots) (x : Connection) (node : NodeView) → PlanStands plan node → slice_get plan.connections i ≡ Some x → x.from ≡ from_end.Line a number slots
    → slots_of slots.kind ≡ size_of (form_in plan a)
few_of plan i a number slots x node p at_i from = ap slots_of (((sound_plan plan p.accepted).entries i x at_i).from_line a number slots from).kind

-- whatever the line may turn out to be
line_pipes : (plan : Plan) (first : BaysView) (a : ℕ) (read : InputBytes) (old new : NodeView) (was is : BaysView) → (m : LineInMove a old (line_in_at was a) new (line_in_at is a)) → m.line.pieces ≡ done_at old (port.LineIn a)
    → (ps : PieceStands (form_in plan a) (line_in_at first a) (line_in_at is a) (read.line a) old.past m.line m.next) → Step plan first read (more_of a ps.further read) (port.LineIn a) old new was is
    → PipeMoves plan (more_of a ps.further read) (port.LineIn a) old new
line_pipes plan first a read old new was is m counted ps s inputs may i x link next at had has is_of active part stood =
    let p = s.stands.plan_stands in
    let used = ready_used plan old (port.LineIn a) p s.ready in
    let now : MayBe (form_in plan a).scrambled m.next.reader.ending (read.line a ++ ps.further) (inputs.line a) = rw (eq-eqb a a refl) at (may.lines a m.next m.has used) in
    let line = ps.stands.is_line (inputs.line a) now in
    let size = size_of (form_in plan a) in
    let k = done_at old (port.LineIn a) in
    let pieces : m.next.pieces ≡ k + 1 = omega (arith, m.reads.pieces) in
    let further = hand_is (inputs.line a) m.next.reader.hand m.reads.expected m.next.has_frame (in_hand size (mfas_of (inputs.line a)) (line_state size (mfas_of (inputs.line a)) old.past) m.next.pieces) line.has_frame line.hand
    (λ some. m.reads.expects some (line_in_at is a) (form_in plan a) (line_in_at first a) (read.line a ++ ps.further) old.past ps.stands (inputs.line a) now) in
    let frames : frames_in size (inputs.line a) old.past (k + 1) ≡ frames_in size (inputs.line a) old.past k ++ came_to m.next.has_frame m.next.reader.hand m.reads.expected
    = frames_next size (inputs.line a) old.past k
    ∙ ap (λ o. frames_in size (inputs.line a) old.past k ++ member_of (inputs.line a) o) (ap (in_hand size (mfas_of (inputs.line a)) (line_state size (mfas_of (inputs.line a)) old.past)) (sym pieces))
    ∙ ap (λ further. frames_in size (inputs.line a) old.past k ++ further) further in
    let less : (number : ℕ) (slots : LineSlots) → x.from ≡ from_end.Line a number slots → k < slots_of slots.kind
    = λ number slots from. omega (arith, few_of plan i a number slots x old p at from, ready_less plan old (port.LineIn a) p s.ready) in
    let mine : is_from_line a x.from ≡ true = has_part (port.LineIn a) x link old.past is_of part in
    let before : taken_pieces old x.from ≡ k = taken_of a old x.from mine in
    let after : taken_pieces new x.from ≡ k + 1 = taken_of a new x.from mine ∙ done_more (port.LineIn a) old.pieces new.pieces m.piece.counted in
    let stood_k : PipeStands x (own_input inputs x) (own_turn x old.past) (frames_by plan inputs x.from old.past k) (ended_by x.from k) (given_pieces old x.to) link.pipe = rw before at stood in
    rw after (took_pipe plan inputs (own_input inputs x) x a old.past k (k + 1) (own_turn x old.past) (given_pieces old x.to) (given_pieces new x.to) m.next.reader.hand m.reads.expected m.next.has_frame link next
    x.from refl mine part less refl (given_in (port.LineIn a) old new refl (done_but plan first read (more_of a ps.further read) (port.LineIn a) old new was is s) x.to) frames (m.reads.took.each i link next had has) stood_k)
  where
    taken_of : (a : ℕ) (node : NodeView) (from : FromEnd) → is_from_line a from ≡ true → taken_pieces node from ≡ done_at node (port.LineIn a)
    taken_of a node (from_end.Line b number slots) mine = let is : b ≡ a = grind (arith, nat_tests) in ap (λ c. done_at node (port.LineIn c)) is
    taken_of a node (from_end.Client n) mine = absurd (cc)
    taken_of a node (from_end.Signal signal) mine = absurd (cc)

-- ---- the moment

pub line_in_moves : (plan : Plan) (first : BaysView) (read : InputBytes) (a : ℕ) (old new : NodeView) (was is : BaysView) → is_ready old (port.LineIn a) ≡ true
    → LineInMove a old (line_in_at was a) new (line_in_at is a) → OnlyPort (port.LineIn a) was is → StandsAt plan first read old was → Later plan first read old new is
line_in_moves plan first read a old new was is is_so m only h =
    let r = ready old (port.LineIn a) is_so in
    let used = ready_used plan old (port.LineIn a) h.plan_stands r in
    let stood : LineInAt plan first read old was a = h.ports (port.LineIn a) in
    let line = stood m.line m.had used in
    let ps = m.reads.stands (form_in plan a) (line_in_at first a) (read.line a) old.past line.0 in
    let more = more_of a ps.further read in
    let s : Step plan first read more (port.LineIn a) old new was is = record {
      stands = h;
      ready = r;
      piece = m.piece;
      links = links_moved old.past a m.line (line_in_at was a) old.links m.next (line_in_at is a) new.links m.reads;
      only = only;
      line = λ b differ. more_other a b ps.further read differ;
      client = λ n differ. refl;
    } in
    later_by plan first read more (port.LineIn a) old new was is s
    (λ inputs may. earlier_by plan first read more (port.LineIn a) old new was is s inputs may (λ other had u.
    let same : other ≡ m.line = one_at old.lines_in a other m.line had m.had in
    let now : MayBe (form_in plan a).scrambled m.next.reader.ending (read.line a ++ ps.further) (inputs.line a) = rw (eq-eqb a a refl) at (may.lines a m.next m.has u) in
    rw same (ps.earlier (inputs.line a) now)))
    (line_pipes plan first a read old new was is m line.1 ps s) (line_at plan first a read old new was is m line.1 ps)
