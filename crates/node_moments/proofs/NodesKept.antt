-- What holds of every node holds of a new one, and after the end of a turn.
use Rattle.std.proofs.Common.{◌≡◌, ◌≢◌, ◌⊎◌, ◌<◌, ◌≤◌, ℕ, Bool, true, false, List, None, Some, length, slice_get, get_or, arith, refl, sym, ap, ◌∙◌, inl, inr}
use Rattle.std.proofs.lemmas.Bool.Decides.{eqb_tells}
use Rattle.otn_base.specs.LineSlots.{slots_of}
use Rattle.otn_base.specs.declared.kind.PortName.{PortName}
use Rattle.otn_base.specs.declared.kind.PortName.TheVariants as port
use Rattle.port_base.specs.Views.{no_input, no_output}
use Rattle.line_side.specs.LineOutput.{LineOutView}
use Rattle.line_side.specs.LineForm.{LineForm}
use Rattle.line_side.specs.LineStands.{LineView}
use Rattle.plan_file.specs.Answer.{fault_in}
use Rattle.plan_file.specs.declared.plan.Plan.{Plan}
use Rattle.device_model.specs.Entries.{form_in, form_out}
use Rattle.device_model.specs.Moments.{uses, pieces_of}
use Rattle.device_model.proofs.SoundPlans.{sound_plan}
use Rattle.node_moments.proofs.Building.{IsNewNode}
use Rattle.node_moments.specs.NodeMoves.{FenceMove}
use Rattle.node_moments.specs.NodeView.{NodeView, HasLineIn, LineCount, IsNode, done_at}
use Rattle.turn_pieces.specs.Pieces.{wanted_of}
use Rattle.turn_pieces.specs.Ports.{index_of}
use Rattle.node_moments.proofs.Retired.{known_at}
use Rattle.turn_pieces.proofs.UsedPorts.{pieces_used, pieces_unused}

-- ---- a new node

-- a line has no piece, or as many as its multiframe has frames
none_or_all : (plan : Plan) (a : ℕ) (line : LineView) → line.kind ≡ (form_in plan a).kind → (pieces_of plan (port.LineIn a) ≡ 0) ⊎ (pieces_of plan (port.LineIn a) ≡ slots_of line.kind)
none_or_all plan a line e = go (uses plan (port.LineIn a)) refl
  where
    go : (b : Bool) → uses plan (port.LineIn a) ≡ b → (pieces_of plan (port.LineIn a) ≡ 0) ⊎ (pieces_of plan (port.LineIn a) ≡ slots_of line.kind)
    go true u = inr (pieces_used plan (port.LineIn a) u ∙ ap slots_of (sym e))
    go false u = inl (pieces_unused plan (port.LineIn a) u)

none_or_all_out : (plan : Plan) (b : ℕ) (line : LineOutView) → line.form ≡ form_out plan b → (pieces_of plan (port.LineOut b) ≡ 0) ⊎ (pieces_of plan (port.LineOut b) ≡ slots_of line.form.kind)
none_or_all_out plan b line e = go (uses plan (port.LineOut b)) refl
  where
    go : (u : Bool) → uses plan (port.LineOut b) ≡ u → (pieces_of plan (port.LineOut b) ≡ 0) ⊎ (pieces_of plan (port.LineOut b) ≡ slots_of line.form.kind)
    go true u = inr (pieces_used plan (port.LineOut b) u ∙ ap (λ (f : LineForm). slots_of f.kind) (sym e))
    go false u = inl (pieces_unused plan (port.LineOut b) u)

as_wanted : (wants pieces slots : ℕ) → wants ≡ pieces → (pieces ≡ 0) ⊎ (pieces ≡ slots) → (wants ≡ 0) ⊎ (wants ≡ slots)
as_wanted wants pieces slots e (inl none) = inl (e ∙ none)
as_wanted wants pieces slots e (inr all) = inr (e ∙ all)

pub first_node : (plan : Plan) (node : NodeView) → fault_in plan ≡ None → IsNewNode plan node → IsNode node
first_node plan node accepted new = record {
  turns = let most = (sound_plan plan accepted).turns_most in omega (arith, new.turns);
  few = omega (arith, new.past);
  lines_in = new.lines_in.count;
  lines_out = new.lines_out.count;
  counts = λ a line has.
      let kind : line.kind ≡ (form_in plan a).kind = ap (λ (f : LineForm). f.kind) (new.lines_in.stands a line has no_input).is_form in
      record {
        pieces = new.lines_in.pieces a line has ∙ sym (new.fresh.none (index_of (port.LineIn a)));
        want = as_wanted (wanted_of node.pieces (port.LineIn a)) (pieces_of plan (port.LineIn a)) (slots_of line.kind) (new.wants (port.LineIn a)) (none_or_all plan a line kind);
      };
  frames = λ b line has.
      as_wanted (wanted_of node.pieces (port.LineOut b)) (pieces_of plan (port.LineOut b)) (slots_of line.form.kind) (new.wants (port.LineOut b))
      (none_or_all_out plan b line (new.lines_out.made b line has no_output).is_form);
  most = λ name. omega (arith, new.fresh.none (index_of name));
}

-- ---- after the end of a turn

same_wants : (old new : NodeView) → FenceMove old new → (name : PortName) → wanted_of new.pieces name ≡ wanted_of old.pieces name
same_wants old new m name = ap (λ w. get_or w (index_of name) 0) m.wants

-- of a line that is used, and of one that is not
used_count : (old new : NodeView) (a : ℕ) (line next : LineView) → FenceMove old new → HasLineIn old a line → HasLineIn new a next → wanted_of old.pieces (port.LineIn a) ≢ 0
    → LineCount (wanted_of old.pieces (port.LineIn a)) (done_at old (port.LineIn a)) line → LineCount (wanted_of new.pieces (port.LineIn a)) (done_at new (port.LineIn a)) next
used_count old new a line next m had has some h =
    let ends = m.used a line next some had has in
    record {
      pieces = ends.pieces ∙ sym (m.fresh.none (index_of (port.LineIn a)));
      want = rw (same_wants old new m (port.LineIn a), ends.kind) h.want;
    }

idle_count : (old new : NodeView) (a : ℕ) (line next : LineView) → FenceMove old new → HasLineIn old a line → HasLineIn new a next → wanted_of old.pieces (port.LineIn a) ≡ 0
    → done_at old (port.LineIn a) ≤ wanted_of old.pieces (port.LineIn a) → LineCount (wanted_of old.pieces (port.LineIn a)) (done_at old (port.LineIn a)) line
    → LineCount (wanted_of new.pieces (port.LineIn a)) (done_at new (port.LineIn a)) next
idle_count old new a line next m had has none most h =
    let kept : Some next ≡ Some line = sym has ∙ m.idle a none ∙ had in
    let same : next ≡ line = cc in
    let zeroth : line.pieces ≡ 0 = (let e = h.pieces in omega arith) in
    record {
      pieces = ap (λ (l : LineView). l.pieces) same ∙ zeroth ∙ sym (m.fresh.none (index_of (port.LineIn a)));
      want = inl (same_wants old new m (port.LineIn a) ∙ none);
    }

pub fence_node : (old new : NodeView) → old.past < old.turns → FenceMove old new → IsNode old → IsNode new
fence_node old new going m h = record {
  turns = let most = h.turns in omega (arith, m.turns);
  few = omega (arith, m.past, m.turns);
  lines_in = m.count ∙ h.lines_in;
  lines_out = ap length m.lines_out ∙ h.lines_out;
  counts = λ a next has.
      let line = known_at new.lines_in old.lines_in a next m.count has in
      let count = h.counts a line.0 line.1 in
      elim (eqb_tells (wanted_of old.pieces (port.LineIn a)) 0) [
        | inl t ↦ idle_count old new a line.0 next m line.1 has t.1 (h.most (port.LineIn a)) count
        | inr t ↦ used_count old new a line.0 next m line.1 has t.1 count
      ];
  frames = λ b line has. rw (same_wants old new m (port.LineOut b)) (h.frames b line (sym (ap (λ (l : List LineOutView). slice_get l b) m.lines_out) ∙ has));
  most = λ name. omega (arith, m.fresh.none (index_of name));
}
