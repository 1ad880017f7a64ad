-- The parts of the end of a turn make the whole.
use Rattle.std.proofs.Common.{◌≡◌, ◌≢◌, ◌⊎◌, ◌<◌, ◌≤◌, ◌+◌, ℕ, zero, suc, Bool, true, false, nat_lt, List, [], ◌∷◌, Some, length, slice_get, get_or, arith, refl, sym, ap, subst, ◌∙◌, inl, inr}
use Rattle.std.proofs.lemmas.Bool.Decides.{nat_tests}
use Rattle.std.proofs.lemmas.Option.{slice_get_within}
use Rattle.otn_base.specs.LineSlots.{slots_of}
use Rattle.otn_base.specs.declared.kind.PortName.{PortName}
use Rattle.otn_base.specs.declared.kind.PortName.TheVariants as port
use Rattle.line_side.specs.LineStands.{LineView}
use Rattle.node_links.specs.LineEnds.{LinesEnd, ends_if}
use Rattle.node_links.specs.Moves.{EachLink, LineEnds, Fences}
use Rattle.node_links.specs.LinkEnds.{Starts, TurnsOver, whole_for}
use Rattle.node_moments.specs.NodeMoves.{FenceMove}
use Rattle.node_moments.specs.NodeView.{NodeView, HasLineIn, IsNode, is_ready}
use Rattle.turn_pieces.specs.Pieces.{PiecesView, wanted_of, done_of, IsFresh}
use Rattle.turn_pieces.specs.Ports.{index_of}
use Rattle.node_links.specs.declared.link.Link.{Link}
use Rattle.node_moments.proofs.Later.{shut_ports}
use Rattle.turn_pieces.proofs.PieceCounts.{shut_done}
use Rattle.node_moments.proofs.Retired.{known_at}

-- ---- lines

-- where no port is ready a line that is used has done all pieces of its turn
pub line_spent : (node : NodeView) (a : ℕ) (line : LineView) → IsNode node → node.past < node.turns → ((name : PortName) → is_ready node name ≡ false) → HasLineIn node a line
    → 1 ≤ wanted_of node.pieces (port.LineIn a) → line.pieces ≡ slots_of line.kind
line_spent node a line h going none has some =
    let count = h.counts a line has in
    let within : a < 4 = (let less = slice_get_within node.lines_in a line has in let four = h.lines_in in omega arith) in
    let number : index_of (port.LineIn a) < 40 = grind (arith, nat_tests) in
    let least : wanted_of node.pieces (port.LineIn a) ≤ done_of node.pieces (port.LineIn a) = shut_done node.pieces (port.LineIn a) (shut_ports node going none (port.LineIn a)) number in
    let most : done_of node.pieces (port.LineIn a) ≤ wanted_of node.pieces (port.LineIn a) = h.most (port.LineIn a) in
    all_wanted line.pieces (done_of node.pieces (port.LineIn a)) (wanted_of node.pieces (port.LineIn a)) (slots_of line.kind) count.pieces least most some count.want
  where
    all_wanted : (pieces done wants slots : ℕ) → pieces ≡ done → wants ≤ done → done ≤ wants → 1 ≤ wants → (wants ≡ 0) ⊎ (wants ≡ slots) → pieces ≡ slots
    all_wanted pieces done wants slots e least most some (inl none) = absurd (omega arith)
    all_wanted pieces done wants slots e least most some (inr all) = omega arith

at_least_one : (n : ℕ) → n ≢ 0 → 1 ≤ n
at_least_one zero h = absurd (h refl)
at_least_one (suc n) h = omega arith

is_some_wanted : (n : ℕ) → n ≢ 0 → nat_lt 0 n ≡ true
is_some_wanted n h = let some = at_least_one n h in grind (arith, nat_tests)

line_ends : (pieces : PiecesView) (olds news : List LineView) (wholes : List Bool) → LinesEnd pieces olds news wholes → (a : ℕ) (line next : LineView) → wanted_of pieces (port.LineIn a) ≢ 0
    → slice_get olds a ≡ Some line → slice_get news a ≡ Some next → LineEnds line next (get_or wholes a false)
line_ends pieces olds news wholes ends a line next some had has =
    subst (λ b. ends_if b line next (get_or wholes a false)) (is_some_wanted (wanted_of pieces (port.LineIn a)) some) (ends.each a line next had has)

same_at : (xs ys : List LineView) (a : ℕ) → length ys ≡ length xs → ((x y : LineView) → slice_get xs a ≡ Some x → slice_get ys a ≡ Some y → y ≡ x) → slice_get ys a ≡ slice_get xs a
same_at [] [] a len h = refl
same_at [] (y ∷ ys) a len h = absurd (omega arith)
same_at (x ∷ xs) [] a len h = absurd (omega arith)
same_at (x ∷ xs) (y ∷ ys) zero len h = ap Some (h x y refl refl)
same_at (x ∷ xs) (y ∷ ys) (suc a) len h = same_at xs ys a (omega arith) h

line_stays : (pieces : PiecesView) (olds news : List LineView) (wholes : List Bool) → length news ≡ length olds → LinesEnd pieces olds news wholes → (a : ℕ) → wanted_of pieces (port.LineIn a) ≡ 0
    → slice_get news a ≡ slice_get olds a
line_stays pieces olds news wholes len ends a none =
    same_at olds news a len (λ x y had has. (subst (λ b. ends_if b x y (get_or wholes a false)) (ap (λ n. nat_lt 0 n) none) (ends.each a x y had has)).0)

-- ---- connections

both_turns : (past : ℕ) (wholes : List Bool) (olds mids news : List Link) → EachLink (λ link next. Fences past (whole_for link.entry.from wholes) link next) olds mids → EachLink (λ link next. Starts (past + 1) link next) mids news
    → EachLink (TurnsOver past wholes) olds news
both_turns past wholes olds mids news fences starts = record {
  count = starts.count ∙ fences.count;
  each = λ i old new had has.
      let mid = known_at olds mids i old (sym fences.count) had in
      record { between = mid.0; fences = fences.each i old mid.0 had mid.1; starts = starts.each i mid.0 new mid.1 has };
}

-- ---- the node

pub fence_move : (old new : NodeView) (wholes : List Bool) (mids : List Link) → IsNode old → new.turns ≡ old.turns → new.past ≡ old.past + 1 → new.pieces.wants ≡ old.pieces.wants → IsFresh new.pieces
    → LinesEnd old.pieces old.lines_in new.lines_in wholes → length new.lines_in ≡ 4 → new.lines_out ≡ old.lines_out
    → EachLink (λ link next. Fences old.past (whole_for link.entry.from wholes) link next) old.links mids → EachLink (λ link next. Starts (old.past + 1) link next) mids new.links → FenceMove old new
fence_move old new wholes mids h turns past wants fresh ends four outs fences starts =
    let count : length new.lines_in ≡ length old.lines_in = four ∙ sym h.lines_in in
    record {
      turns = turns;
      past = past;
      wants = wants;
      fresh = fresh;
      wholes = wholes;
      used = line_ends old.pieces old.lines_in new.lines_in wholes ends;
      idle = line_stays old.pieces old.lines_in new.lines_in wholes count ends;
      lines = h.lines_in;
      count = count;
      lines_out = outs;
      links = both_turns old.past wholes old.links mids new.links fences starts;
    }
