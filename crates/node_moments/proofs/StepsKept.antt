-- What holds of every node holds after a piece.
use Rattle.std.proofs.Common.{◌≡◌, ◌≢◌, ◌⊎◌, ◌<◌, ◌+◌, ℕ, zero, suc, Bool, true, false, nat_lt, List, [], ◌∷◌, Some, length, slice_get, set, arith, refl, sym, ap, subst, ◌∙◌, inl, inr}
use Rattle.std.specs.Prelude.{⊤}
use Rattle.std.proofs.lemmas.Bool.Decides.{nat_tests}
use Rattle.otn_base.specs.LineSlots.{slots_of}
use Rattle.otn_base.specs.declared.kind.PortName.{PortName}
use Rattle.otn_base.specs.declared.kind.PortName.TheVariants as port
use Rattle.port_base.specs.Views.{InView, OutView}
use Rattle.line_side.specs.LineOutput.{LineOutView}
use Rattle.line_side.specs.LineStands.{LineView}
use Rattle.node_moments.specs.NodeView.{NodeView, HasLineIn, HasLineOut, LineCount, IsNode, done_at, is_ready, ready_number}
use Rattle.node_moments.specs.Steps.NodeMoves.{OnePiece, LineInMove, LineOutMove}
use Rattle.turn_pieces.specs.Pieces.{wanted_of, is_open, open_count}
use Rattle.node_moments.proofs.Later.{ready_open}
use Rattle.node_moments.proofs.LinkPorts.{same_port}
use Rattle.node_moments.proofs.Parts.{one_at, ready}
use Rattle.turn_pieces.proofs.PieceCounts.{done_more, done_same, wants_same}
use Rattle.turn_pieces.proofs.PiecesLeft.{most_counted}

-- ---- one element of a list set

pub set_here : {A : Type 0} (xs : List A) (i : ℕ) (x y : A) → slice_get xs i ≡ Some x → slice_get (set xs i y) i ≡ Some y
set_here [] i x y e = cc
set_here (z ∷ zs) zero x y e = refl
set_here (z ∷ zs) (suc i) x y e = set_here zs i x y e

pub set_there : {A : Type 0} (xs : List A) (i m : ℕ) (y : A) → m ≢ i → slice_get (set xs i y) m ≡ slice_get xs m
set_there [] zero m y d = refl
set_there [] (suc i) m y d = refl
set_there (z ∷ zs) zero zero y d = absurd (d refl)
set_there (z ∷ zs) zero (suc m) y d = refl
set_there (z ∷ zs) (suc i) zero y d = refl
set_there (z ∷ zs) (suc i) (suc m) y d = set_there zs i m y (λ e. d (ap suc e))

pub set_count : {A : Type 0} (xs : List A) (i : ℕ) (y : A) → length (set xs i y) ≡ length xs
set_count [] zero y = refl
set_count [] (suc i) y = refl
set_count (z ∷ zs) zero y = refl
set_count (z ∷ zs) (suc i) y = ap suc (set_count zs i y)

-- ---- a line that is ready has a piece to do

fewer : (pieces done wants slots : ℕ) → pieces ≡ done → done < wants → (wants ≡ 0) ⊎ (wants ≡ slots) → pieces < slots
fewer pieces done wants slots e less (inl none) = absurd (omega arith)
fewer pieces done wants slots e less (inr all) = omega arith

pub line_unspent : (a : ℕ) (node : NodeView) (line : LineView) → IsNode node → is_ready node (port.LineIn a) ≡ true → HasLineIn node a line → line.pieces < slots_of line.kind
line_unspent a node line h is has =
    let count = h.counts a line has in
    let r = ready node (port.LineIn a) is in
    fewer line.pieces (done_at node (port.LineIn a)) (wanted_of node.pieces (port.LineIn a)) (slots_of line.kind) count.pieces r.wants count.want

pub frames_left : (b : ℕ) (node : NodeView) (line : LineOutView) → IsNode node → is_ready node (port.LineOut b) ≡ true → HasLineOut node b line → done_at node (port.LineOut b) < slots_of line.form.kind
frames_left b node line h is has =
    let r = ready node (port.LineOut b) is in
    fewer (done_at node (port.LineOut b)) (done_at node (port.LineOut b)) (wanted_of node.pieces (port.LineOut b)) (slots_of line.form.kind) refl r.wants (h.frames b line has)

-- ---- after a piece

-- what is then left to show of its own line
abbrev pub KeptAt : NodeView → PortName → Type 0
KeptAt node (port.LineIn a) = (line : LineView) → HasLineIn node a line → LineCount (wanted_of node.pieces (port.LineIn a)) (done_at node (port.LineIn a)) line
KeptAt node (port.LineOut b) = (line : LineOutView) → HasLineOut node b line → (wanted_of node.pieces (port.LineOut b) ≡ 0) ⊎ (wanted_of node.pieces (port.LineOut b) ≡ slots_of line.form.kind)
KeptAt node (port.ClientIn n) = ⊤
KeptAt node (port.ClientOut n) = ⊤

pub piece_kept : (name : PortName) (old new : NodeView) → IsNode old → is_ready old name ≡ true → OnePiece name old new → length new.lines_in ≡ length old.lines_in → length new.lines_out ≡ length old.lines_out → KeptAt new name
    → IsNode new
piece_kept name old new h is m ins outs mine =
    let r = ready old name is in
    record {
      turns = rw m.turns h.turns;
      few = rw (m.turns, m.past) h.few;
      lines_in = ins ∙ h.lines_in;
      lines_out = outs ∙ h.lines_out;
      counts = λ a line has. elim (same_port name (port.LineIn a) r.within) [
        | inl e ↦ let here : KeptAt new (port.LineIn a) = subst (λ p. KeptAt new p) (sym e) mine in here line has
        | inr d ↦
            let was = h.counts a line (sym (m.lines_in a d) ∙ has) in
            record {
              pieces = was.pieces ∙ sym (done_same name old.pieces new.pieces (port.LineIn a) m.counted r.within d);
              want = rw (wants_same name old.pieces new.pieces (port.LineIn a) m.counted) was.want;
            }
      ];
      frames = λ b line has. elim (same_port name (port.LineOut b) r.within) [
        | inl e ↦ let here : KeptAt new (port.LineOut b) = subst (λ p. KeptAt new p) (sym e) mine in here line has
        | inr d ↦ rw (wants_same name old.pieces new.pieces (port.LineOut b) m.counted) (h.frames b line (sym (m.lines_out b d) ∙ has))
      ];
      most = most_counted name old.pieces new.pieces (ready_open old name is) m.counted h.most;
    }

pub line_in_kept : (a : ℕ) (old new : NodeView) (was is : InView) → IsNode old → is_ready old (port.LineIn a) ≡ true → LineInMove a old was new is → length new.lines_in ≡ length old.lines_in
    → length new.lines_out ≡ length old.lines_out → IsNode new
line_in_kept a old new was is h ready m ins outs = piece_kept (port.LineIn a) old new h ready m.piece ins outs (λ line has.
    let same : line ≡ m.next = one_at new.lines_in a line m.next has m.has in
    let count = h.counts a m.line m.had in
    rw same (record {
      pieces = m.reads.pieces ∙ ap (λ n. n + 1) count.pieces ∙ sym (done_more (port.LineIn a) old.pieces new.pieces m.piece.counted);
      want = rw (wants_same (port.LineIn a) old.pieces new.pieces (port.LineIn a) m.piece.counted, m.reads.kind) count.want;
    }))

pub line_out_kept : (b : ℕ) (old new : NodeView) (was is : OutView) → IsNode old → is_ready old (port.LineOut b) ≡ true → LineOutMove b old was new is → length new.lines_in ≡ length old.lines_in
    → length new.lines_out ≡ length old.lines_out → IsNode new
line_out_kept b old new was is h ready m ins outs = piece_kept (port.LineOut b) old new h ready m.piece ins outs (λ line has.
    let same : line ≡ m.next = one_at new.lines_out b line m.next has m.has in
    rw (same, m.writes.form, wants_same (port.LineOut b) old.pieces new.pieces (port.LineOut b) m.piece.counted) (h.frames b m.line m.had))

-- ---- ports that are ready

pub count_going : (node : NodeView) (i : ℕ) → i < ready_number node → node.past < node.turns
count_going node i h = go (nat_lt node.past node.turns) refl
  where
    go : (b : Bool) → nat_lt node.past node.turns ≡ b → node.past < node.turns
    go true e = grind (arith, nat_tests)
    go false e = let none : i < 0 = (rw e at h) in absurd (omega arith)

pub count_open : (node : NodeView) (i : ℕ) → i < ready_number node → i < open_count node.pieces
count_open node i h = let on : nat_lt node.past node.turns ≡ true = (let going = count_going node i h in grind (arith, nat_tests)) in (rw on at h)

pub open_ready : (node : NodeView) (i : ℕ) (name : PortName) → i < ready_number node → is_open node.pieces name ≡ true → is_ready node name ≡ true
open_ready node i name h e = let on : nat_lt node.past node.turns ≡ true = (let going = count_going node i h in grind (arith, nat_tests)) in rw on e
