-- A connection, and a line, from one turn to the next.
use Rattle.std.proofs.Common.{◌≡◌, ◌≢◌, ◌<◌, ◌≤◌, ◌+◌, ℕ, suc, Bool, true, false, nat_lt, List, [], Some, slice_get, get_or, arith, refl, sym, ap, subst, ◌∙◌}
use Rattle.std.specs.Prelude.{is_some}
use Rattle.std.proofs.lemmas.Bool.Decides.{nat_tests}
use Rattle.otn_base.specs.LineSlots.{LineSlots, slots_of}
use Rattle.otn_base.specs.declared.kind.PortName.{PortName}
use Rattle.otn_base.specs.declared.kind.PortName.TheVariants as port
use Rattle.line_side.specs.LineFile.{mfas_of}
use Rattle.line_side.specs.LineForm.{size_of}
use Rattle.line_side.specs.LineStands.{LineView}
use Rattle.multiframe.specs.LineTurns.{multiframe}
use Rattle.plan_file.specs.declared.connection.Connection.{Connection}
use Rattle.plan_file.specs.declared.connection.FromEnd.{FromEnd}
use Rattle.plan_file.specs.declared.connection.FromEnd.TheVariants as from_end
use Rattle.plan_file.specs.declared.plan.Plan.{Plan}
use Rattle.tributary_model.specs.Places.{tributary_of}
use Rattle.device_model.specs.Entries.{form_in, own_turn}
use Rattle.device_model.specs.LineViews.{view_at}
use Rattle.device_model.specs.Moments.{uses, pieces_by}
use Rattle.device_model.specs.SoundPlans.{IsSoundEntry}
use Rattle.device_model.specs.Through.{Inputs, of_client, of_signal, own_of, own_input}
use Rattle.cross_matrix.specs.Parts.{IsInputOf}
use Rattle.cross_matrix.specs.Pipes.{PipeView, PipeStands}
use Rattle.node_links.specs.Links.{IsLinkOf, is_on}
use Rattle.node_links.specs.Moves.{LineEnds, Fences}
use Rattle.node_links.specs.LinkEnds.{TurnsOver, whole_for}
use Rattle.node_moments.specs.NodeMoves.{FenceMove}
use Rattle.node_moments.specs.NodeView.{NodeView, HasLineIn, HasLink, is_ready, done_at}
use Rattle.turn_pieces.specs.Pieces.{wanted_of}
use Rattle.turn_pieces.specs.Ports.{index_of}
use Rattle.device_model.specs.TurnFrames.{frames_in}
use Rattle.node_moments.specs.Stands.{PlanStands, frames_by, ended_by}
use Rattle.node_links.specs.declared.link.Link.{Link}
use Rattle.node_links.proofs.LinkLaws.{still_link, from_as, start_as}
use Rattle.node_moments.proofs.Later.{shut_ports}
use Rattle.turn_pieces.proofs.PiecesLeft.{shut_all, used_wanted}
use Rattle.node_links.proofs.Senders.{element_at}
use Rattle.node_moments.proofs.Retired.{known_at}
use Rattle.device_model.proofs.TurnFrames.{frames_none, frames_many, turn_frames}
use Rattle.turn_pieces.proofs.UsedPorts.{used_within}

-- ---- connections

-- the connection of entry i, before and after the end of a turn
pub record Turned (old : NodeView) (wholes : List Bool) (i : ℕ) (x : Connection) (link : Link) : Type 0 where
  pub before : Link
  pub had : HasLink old i before
  pub turns : TurnsOver old.past wholes before link
  pub was : IsLinkOf x before
  pub mid : IsLinkOf x turns.between
  pub is : IsLinkOf x link

pub turned : (plan : Plan) (old new : NodeView) → PlanStands plan old → (m : FenceMove old new) → (i : ℕ) (x : Connection) (link : Link) → slice_get plan.connections i ≡ Some x → HasLink new i link
    → Turned old m.wholes i x link
turned plan old new p m i x link at has =
    let b = known_at new.links old.links i link m.links.count has in
    let t = m.links.each i b.0 link b.1 has in
    let was = p.links i x b.0 at b.1 in
    let mid = still_link x b.0 t.between t.fences.same was in
    record { before = b.0; had = b.1; turns = t; was = was; mid = mid; is = still_link x t.between link t.starts.same mid }

-- one that started in an earlier turn is not touched by the start of this one
pub not_started : (old : NodeView) (wholes : List Bool) (i : ℕ) (x : Connection) (link : Link) (t : Turned old wholes i x link) → x.start ≢ old.past + 1 + 1 → link ≡ t.turns.between
not_started old wholes i x link t differ = t.turns.starts.other (λ e. differ (sym (start_as x t.turns.between t.mid) ∙ e))

-- ---- pieces that are done

pub all_done : (plan : Plan) (old : NodeView) → PlanStands plan old → old.past < old.turns → ((name : PortName) → is_ready old name ≡ false) → (name : PortName) → uses plan name ≡ true
    → done_at old name ≡ pieces_by plan name
all_done plan old p going none name used = shut_all plan old.pieces name p.accepted (record { wants = p.wants; most = p.most }) (shut_ports old going none name) used

-- ---- lines

pub some_wanted : (plan : Plan) (old : NodeView) (name : PortName) → PlanStands plan old → uses plan name ≡ true → wanted_of old.pieces name ≢ 0
some_wanted plan old name p used e =
    let none : nat_lt 0 (wanted_of old.pieces name) ≡ false = ap (λ n. nat_lt 0 n) e in
    let some : nat_lt 0 (wanted_of old.pieces name) ≡ true = used_wanted plan old.pieces name (p.wants name) ∙ used in
    absurd (cc)

-- an input line that is used, before and after the end of a turn
pub record UsedLine (old new : NodeView) (wholes : List Bool) (a : ℕ) : Type 0 where
  pub line : LineView
  pub next : LineView
  pub had : HasLineIn old a line
  pub has : HasLineIn new a next
  pub ends : LineEnds line next (get_or wholes a false)

pub line_within : (a : ℕ) → index_of (port.LineIn a) < 40 → a < 4
line_within a h = grind (arith, nat_tests)

pub used_line : (plan : Plan) (old new : NodeView) → PlanStands plan old → (m : FenceMove old new) → (a : ℕ) → uses plan (port.LineIn a) ≡ true → UsedLine old new m.wholes a
used_line plan old new p m a used =
    let within : a < 4 = line_within a (used_within plan (port.LineIn a) p.accepted used) in
    let line = element_at old.lines_in a (let four = m.lines in omega arith) in
    let next = known_at old.lines_in new.lines_in a line.0 (sym m.count) line.1 in
    record { line = line.0; next = next.0; had = line.1; has = next.1; ends = m.used a line.0 next.0 (some_wanted plan old (port.LineIn a) p used) line.1 next.1 }

-- ---- pipes

pub input_kind : (inputs : Inputs) (from : FromEnd) → IsInputOf from (own_of inputs from)
input_kind inputs (from_end.Line a number slots) = tt
input_kind inputs (from_end.Client n) = tt
input_kind inputs (from_end.Signal signal) = tt

no_frames : (plan : Plan) (inputs : Inputs) (from : FromEnd) (past : ℕ) → frames_by plan inputs from past 0 ≡ []
no_frames plan inputs (from_end.Line a number slots) past = frames_none (size_of (form_in plan a)) (inputs.line a) past
no_frames plan inputs (from_end.Client n) past = refl
no_frames plan inputs (from_end.Signal signal) past = refl

not_ended : (from : FromEnd) → ended_by from 0 ≡ false
not_ended (from_end.Line a number slots) = refl
not_ended (from_end.Client n) = refl
not_ended (from_end.Signal signal) = refl

-- before the first piece of a turn
pub at_start : (plan : Plan) (inputs : Inputs) (x : Connection) (past j taken given : ℕ) (pipe : PipeView) → taken ≡ 0 → given ≡ 0 → PipeStands x (own_input inputs x) j [] false 0 pipe
    → PipeStands x (own_input inputs x) j (frames_by plan inputs x.from past taken) (ended_by x.from taken) given pipe
at_start plan inputs x past j taken given pipe e f h =
    subst (λ n. PipeStands x (own_input inputs x) j (frames_by plan inputs x.from past taken) (ended_by x.from taken) n pipe) (sym f)
    (subst (λ n. PipeStands x (own_input inputs x) j (frames_by plan inputs x.from past n) (ended_by x.from n) 0 pipe) (sym e)
    (subst (λ b. PipeStands x (own_input inputs x) j (frames_by plan inputs x.from past 0) b 0 pipe) (sym (not_ended x.from))
    (subst (λ frames. PipeStands x (own_input inputs x) j frames false 0 pipe) (sym (no_frames plan inputs x.from past)) h)))

-- all pieces of a turn, of what a connection comes from
abbrev pub pieces_from : Plan → FromEnd → ℕ
pieces_from plan (from_end.Line a number slots) = size_of (form_in plan a)
pieces_from plan (from_end.Client n) = 1
pieces_from plan (from_end.Signal signal) = 0

-- after the last one
pub at_end : (plan : Plan) (inputs : Inputs) (x : Connection) (past j filled taken : ℕ) (from : FromEnd) (pipe : PipeView) → x.from ≡ from → taken ≡ pieces_from plan from
    → PipeStands x (own_input inputs x) j (frames_by plan inputs x.from past taken) (ended_by x.from taken) filled pipe
    → PipeStands x (own_of inputs from) j (frames_by plan inputs from past (pieces_from plan from)) (ended_by from (pieces_from plan from)) filled pipe
at_end plan inputs x past j filled taken from pipe e all h =
    subst (λ n. PipeStands x (own_of inputs from) j (frames_by plan inputs from past n) (ended_by from n) filled pipe) all
    (subst (λ f. PipeStands x (own_of inputs f) j (frames_by plan inputs f past taken) (ended_by f taken) filled pipe) e h)

-- A connection that is active hands on what the turn brought.
pub next_pipe : (plan : Plan) (inputs : Inputs) (x : Connection) (past filled : ℕ) (wholes : List Bool) (before mid : Link) → IsSoundEntry plan x → IsLinkOf x before → is_on past before ≡ true
    → Fences past (whole_for before.entry.from wholes) before mid
    → ((a number : ℕ) (slots : LineSlots) → x.from ≡ from_end.Line a number slots → get_or wholes a false ≡ is_some (multiframe (size_of (form_in plan a)) (mfas_of (inputs.line a)) past))
    → (from : FromEnd) → x.from ≡ from
    → PipeStands x (own_of inputs from) (own_turn x past) (frames_by plan inputs from past (pieces_from plan from)) (ended_by from (pieces_from plan from)) filled before.pipe
    → PipeStands x (own_of inputs from) (suc (own_turn x past)) [] false 0 mid.pipe
next_pipe plan inputs x past filled wholes before mid sound was on fences is_whole (from_end.Line a number slots) e h =
    let size : slots_of slots.kind ≡ size_of (form_in plan a) = ap slots_of (sound.from_line a number slots e).kind in
    let whole : whole_for before.entry.from wholes ≡ is_some (multiframe (size_of (form_in plan a)) (mfas_of (inputs.line a)) past) =
    ap (λ o. whole_for o wholes) (from_as x before was ∙ e) ∙ is_whole a number slots e in
    fences.line on x a number slots (view_at (tributary_of slots number) (inputs.line a)) filled (frames_in (size_of (form_in plan a)) (inputs.line a) past (size_of (form_in plan a))) was e
    (λ t. frames_many (size_of (form_in plan a)) (inputs.line a) past (whole_for before.entry.from wholes) whole t ∙ sym size)
    (turn_frames (tributary_of slots number) (size_of (form_in plan a)) (inputs.line a) past (whole_for before.entry.from wholes) size whole)
    h
next_pipe plan inputs x past filled wholes before mid sound was on fences is_whole (from_end.Client n) e h = fences.client on x n filled (of_client (inputs.client n)) was e h
next_pipe plan inputs x past filled wholes before mid sound was on fences is_whole (from_end.Signal signal) e h = fences.signal on x signal filled of_signal was e h

pub own_next : (x : Connection) (past : ℕ) → 1 ≤ x.start → x.start ≤ past + 1 → suc (own_turn x past) ≡ own_turn x (past + 1)
own_next x past first start = omega arith
