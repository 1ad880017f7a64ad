-- Where an input line stands after a piece and after a turn.
use Rattle.std.proofs.Common.{◌≡◌, ◌+◌, ℕ, zero, suc, Bool, true, false, eqb, List, [], ◌++◌, Option, Some, None, length, arith, refl, sym, ap, ◌∙◌, subst, append-nil, add-one}
use Rattle.std.specs.Prelude.{is_some}
use Rattle.std.proofs.lemmas.Bool.Decides.{nat_tests}
use Rattle.otn_base.specs.LineSlots.{slots_of}
use Rattle.otn_base.specs.declared.line_kind.LineKind.{LineKind}
use Rattle.otn_base.specs.declared.line_kind.LineKind.TheVariants.{Otu2, Otu3}
use Rattle.port_base.specs.Views.{InView}
use Rattle.port_base.specs.Given.{Gave, DiedUnended}
use Rattle.port_base.proofs.GivenLaws.{gave_none, gave_twice}
use Rattle.multiframe.specs.LineTurns.{LineState, lock_of, line_state, multiframe}
use Rattle.multiframe.specs.Alignment.{Alignment}
use Rattle.line_side.specs.LineForm.{LineForm, size_of}
use Rattle.line_side.specs.LineFile.{mfas_of}
use Rattle.line_side.specs.MayBe.{MayBe}
use Rattle.line_side.specs.Counted.{HasCounted}
use Rattle.line_side.specs.Reader.{ReaderView, EndedAs}
use Rattle.line_side.specs.Steps.Reader.{ReadStep}
use Rattle.line_side.specs.LineStands.{LineView, form_of, IsLine, LineStands, PieceStands}
use Rattle.line_side.specs.Steps.LineMoves.{TakesNext, Hunts, Waits, StepMoves, EndMoves}
use Rattle.line_side.specs.declared.ending.Ending.{Ending}
use Rattle.line_side.specs.declared.ending.Ending.TheVariants.{Open}
use Rattle.line_side.proofs.Giving.{step_none, may_before}
use Rattle.line_side.proofs.Turns.{LineIs, MemberIs, Moved, is_first, turn_piece}
use Rattle.line_side.proofs.TurnEnds.{Ends, turn_end, turn_first, line_state_suc, line_state_none}
use Rattle.line_side.proofs.Hands.{hand_is}

-- ---- a piece

-- the bytes that came in a piece, and what it does for all bytes that may come
pub record Stepped (size : ℕ) (first result : Bool) (old : LineView) (was : InView) (new : LineView) (is : InView) : Type 0 where
  pub further : List ℕ
  pub step : ReadStep old.reader was further new.reader is
  pub moved : (available read : List ℕ) → MayBe new.reader.scrambled new.reader.ending (read ++ further) available → Moved size available (length read) (length (read ++ further)) first result old new

waits : (size : ℕ) (first result : Bool) (old : LineView) (was : InView) (new : LineView) (is : InView) → Waits result old was new is
    → (old.ended ≡ false → (a : Alignment) → old.alignment ≡ Some a → ⊥) → (old.ended ≡ false → old.alignment ≡ None → first ≡ true → ⊥) → Stepped size first result old was new is
waits size first result old was new is w locked hunting = record {
  further = [];
  step = rw (w.line, w.place) (step_none old.reader was);
  moved = λ available read may. let same : length (read ++ []) ≡ length read = ap length (append-nil read) in record {
    over = λ e. (same, w.line, w.answer);
    lost = ap (λ (l : LineView). l.lost) w.line;
    lead_in = λ a e. ap (λ (l : LineView). l.lead_in) w.line;
    frame = λ a e f. absurd (locked e a f);
    none = λ a e f. absurd (locked e a f);
    locks = λ e f g. absurd (hunting e f g);
    fails = λ e f g. absurd (hunting e f g);
    waiting = λ e f g. (same, w.line, w.answer);
  };
}

takes : (size : ℕ) (first result : Bool) (a : Alignment) (old : LineView) (was : InView) (new : LineView) (is : InView) → old.ended ≡ false → old.alignment ≡ Some a → TakesNext result old was new is → Stepped size first result old was new is
takes size first result a old was new is opened some m = record {
  further = m.further;
  step = m.step;
  moved = λ available read may. record {
    over = λ e. absurd (cc);
    lost = m.keeps.lost;
    lead_in = λ _ _. m.lead_in;
    frame = λ _ _ _ f u w h. m.frame f available read u w may h;
    none = λ _ _ _ f u w h. m.none f available read u w may h;
    locks = λ e f. absurd (cc);
    fails = λ e f. absurd (cc);
    waiting = λ e f. absurd (cc);
  };
}

hunts : (size : ℕ) (result : Bool) (old : LineView) (was : InView) (new : LineView) (is : InView) → old.ended ≡ false → old.alignment ≡ None → Hunts size result old was new is → Stepped size true result old was new is
hunts size result old was new is opened none m = record {
  further = m.further;
  step = m.step;
  moved = λ available read may. record {
    over = λ e. absurd (cc);
    lost = m.keeps.lost;
    lead_in = λ a e. absurd (cc);
    frame = λ a e f. absurd (cc);
    none = λ a e f. absurd (cc);
    locks = λ _ _ _ f i w h. m.locks f available read i w may h;
    fails = λ _ _ _ f i w h. m.fails f available read i w may h;
    waiting = λ e f g. absurd (cc);
  };
}

pub stepped : (size : ℕ) (first result : Bool) (old : LineView) (was : InView) (new : LineView) (is : InView) → StepMoves size first result old was new is → Stepped size first result old was new is
stepped size first result old was new is m = by_cases first old.ended old.alignment refl refl refl
  where
    by_cases : (f ended : Bool) (alignment : Option Alignment) → first ≡ f → old.ended ≡ ended → old.alignment ≡ alignment → Stepped size first result old was new is
    by_cases f true a e g h = waits size first result old was new is (m.over g) (λ o. absurd (cc)) (λ o. absurd (cc))
    by_cases f false (Some a) e g h = takes size first result a old was new is g h (m.locked a g h)
    by_cases true false None e g h = rw e (hunts size result old was new is g h (m.hunting g h e))
    by_cases false false None e g h = waits size first result old was new is (m.waiting g h e) (λ o a f. cc) (λ o a f. cc)

-- ---- a line between its definition and its views

-- the same line with so many pieces done, of which the last came so
abbrev pub with_pieces : LineView → ℕ → Bool → LineView
with_pieces line k has_frame = record { kind = line.kind; alignment = line.alignment; reader = line.reader; pieces = k; has_frame = has_frame; ended = line.ended; lead_in = line.lead_in; lost = line.lost }

is_line : (size : ℕ) (available : List ℕ) (n t k : ℕ) (result : Bool) (line : LineView) → LineIs size available n t (line_state size (mfas_of available) t) (suc k) line → MemberIs size available (line_state size (mfas_of available) t) k result line
    → IsLine size available n t (with_pieces line (suc k) result)
is_line size available n t k result line h m =
    let hand = hand_is available (lock_of size (mfas_of available) (line_state size (mfas_of available) t)) k result line.reader.hand m.has_frame m.hand in
    record {
      read = h.read;
      alignment = h.alignment;
      has_frame = hand.has_frame;
      hand = hand.frame;
      ended = h.ended;
      lead_in = h.lead_in;
      lost = h.lost;
    }

of_line : (size : ℕ) (available : List ℕ) (n t : ℕ) (line : LineView) → IsLine size available n t line → LineIs size available n t (line_state size (mfas_of available) t) line.pieces line
of_line size available n t line h = record { read = h.read; alignment = h.alignment; ended = h.ended; lead_in = h.lead_in; lost = h.lost }

-- a line before a turn
at_turn : (size : ℕ) (available : List ℕ) (n t : ℕ) (line : LineView) → LineIs size available n t (line_state size (mfas_of available) t) 0 line → IsLine size available n t (with_pieces line 0 false)
at_turn size available n t line h = record { read = h.read; alignment = h.alignment; has_frame = refl; hand = tt; ended = h.ended; lead_in = h.lead_in; lost = h.lost }

-- ---- the three laws

-- a line has frames in its multiframes
some_frames : (kind : LineKind) → (p : ℕ) × (slots_of kind ≡ suc p)
some_frames Otu2 = (7, refl)
some_frames Otu3 = (31, refl)

-- the form of a new line
pub new_form : (k kind : LineKind) (s scrambled : Bool) → k ≡ kind → s ≡ scrambled → ◌≡◌ {A = LineForm} (record { kind = k; scrambled = s }) (record { kind = kind; scrambled = scrambled })
new_form k kind s scrambled e f =
    let of_kind : LineKind → LineForm = λ x. record { kind = x; scrambled = s } in
    let of_mask : Bool → LineForm = λ x. record { kind = kind; scrambled = x } in
    ap of_kind e ∙ ap of_mask f

-- a new line stands before its first turn on any place
pub new_stands : (form : LineForm) (first : InView) (line : LineView) → form_of line ≡ form → line.alignment ≡ None → line.reader.ahead ≡ None → line.reader.ending ≡ Open → line.reader.frames ≡ 0 → line.reader.rest ≡ 0
    → HasCounted [] line.reader.seen → line.ended ≡ false → line.lead_in ≡ 0 → line.lost ≡ 0 → line.pieces ≡ 0 → line.has_frame ≡ false → LineStands form first first [] 0 line
new_stands form first line is_form alignment ahead opened frames rest seen ended lead lost pieces has_frame = let size = size_of form in record {
  is_form = is_form;
  gave = gave_none first;
  ending = record { died = λ d. absurd (cc); seen = λ s. absurd (cc) };
  over = λ closed. absurd (closed opened);
  unended = λ _. refl;
  is_line = λ available m.
      let fresh : LineIs size available 0 0 (line_state size (mfas_of available) 0) 0 line = (let P : LineState → Type 0 = λ s. LineIs size available 0 0 s 0 line in
      subst P (sym (line_state_none size (mfas_of available))) (turn_first size available line alignment ahead opened frames rest seen ended lead lost)) in
      let P : ℕ → Type 0 = λ k. IsLine size available 0 0 (with_pieces line k line.has_frame) in
      let Q : Bool → Type 0 = λ b. IsLine size available 0 0 (with_pieces line 0 b) in
      subst P (sym pieces) (subst Q (sym has_frame) (at_turn size available 0 0 line fresh));
}

-- a piece, by the bytes that came in it
piece_is : (size : ℕ) (was is : InView) (read available : List ℕ) (t : ℕ) (result : Bool) (old new : LineView) → (s : Stepped size (is_first old.pieces) result (with_pieces old (old.pieces + 1) false) was new is)
    → new.pieces ≡ old.pieces + 1 → IsLine size available (length read) t old → MayBe new.reader.scrambled new.reader.ending (read ++ s.further) available
    → IsLine size available (length (read ++ s.further)) t (with_pieces new new.pieces result)
piece_is size was is read available t result old new s pieces h may =
    let line = of_line size available (length read) t old h in
    let before : LineIs size available (length read) t (line_state size (mfas_of available) t) old.pieces (with_pieces old (old.pieces + 1) false)
    = record { read = line.read; alignment = line.alignment; ended = line.ended; lead_in = line.lead_in; lost = line.lost } in
    let after = turn_piece size available (length read) (length (read ++ s.further)) t (line_state size (mfas_of available) t) old.pieces result (with_pieces old (old.pieces + 1) false) new before (s.moved available read may) in
    let P : ℕ → Type 0 = λ k. IsLine size available (length (read ++ s.further)) t (with_pieces new k result) in
    subst P (sym (pieces ∙ add-one old.pieces)) (is_line size available (length (read ++ s.further)) t old.pieces result new after.0 after.1)

-- the form of a line stays
same_form : (old new : LineView) → new.kind ≡ old.kind → new.reader.scrambled ≡ old.reader.scrambled → form_of new ≡ form_of old
same_form old new kind scrambled = new_form new.kind old.kind new.reader.scrambled old.reader.scrambled kind scrambled

piece_of : (first was is : InView) (read : List ℕ) (t : ℕ) (b result : Bool) (old new : LineView) → b ≡ is_first old.pieces → StepMoves (slots_of old.kind) b result (with_pieces old (old.pieces + 1) false) was new is
    → new.pieces ≡ old.pieces + 1 → new.kind ≡ old.kind → LineStands (form_of old) first was read t old → PieceStands (form_of old) first is read t old (with_pieces new new.pieces result)
piece_of first was is read t b result old new e moves pieces kind h =
    let size = slots_of old.kind in
    let F : Bool → Type 0 = λ b. StepMoves size b result (with_pieces old (old.pieces + 1) false) was new is in
    let s = stepped size (is_first old.pieces) result (with_pieces old (old.pieces + 1) false) was new is (subst F e moves) in
    let M : List ℕ → Bool → Type 0 = λ available m. MayBe m new.reader.ending (read ++ s.further) available in
    let here : (available : List ℕ) → MayBe old.reader.scrambled new.reader.ending (read ++ s.further) available → MayBe new.reader.scrambled new.reader.ending (read ++ s.further) available
    = λ available may. subst (M available) (sym s.step.scrambled) may in
    let earlier : (available : List ℕ) → MayBe old.reader.scrambled new.reader.ending (read ++ s.further) available → MayBe old.reader.scrambled old.reader.ending read available
    = λ available may. may_before old.reader new.reader was is s.further read available s.step (here available may) in
    record {
      further = s.further;
      stands = record {
        is_form = same_form old (with_pieces new new.pieces result) kind s.step.scrambled;
        gave = gave_twice first was is read s.further h.gave s.step.gave;
        ending = s.step.ended h.ending;
        over = s.step.over h.over;
        unended = λ other. let q = s.step.unended other in q.1 ∙ h.unended q.0;
        is_line = λ available may. piece_is size was is read available t result old new s pieces (h.is_line available (earlier available may)) (here available may);
      };
      earlier = earlier;
    }

pub piece_stands : (form : LineForm) (first was is : InView) (read : List ℕ) (t : ℕ) (b result : Bool) (old new : LineView) → b ≡ is_first old.pieces
    → StepMoves (slots_of old.kind) b result (with_pieces old (old.pieces + 1) false) was new is → new.pieces ≡ old.pieces + 1 → new.kind ≡ old.kind
    → LineStands form first was read t old → PieceStands form first is read t old (with_pieces new new.pieces result)
piece_stands form first was is read t b result old new e moves pieces kind h =
    let P : LineForm → Type 0 = λ f. LineStands f first was read t old → PieceStands f first is read t old (with_pieces new new.pieces result) in
    subst P h.is_form (piece_of first was is read t b result old new e moves pieces kind) h

-- a place that is dead has answered no end
pub died_unended : (form : LineForm) (first now : InView) (read : List ℕ) (t : ℕ) (line : LineView) → LineStands form first now read t line → DiedUnended first now
died_unended form first now read t line h dead = h.unended (λ seen. h.ending.seen seen dead)

-- bytes are taken of the place in a piece, or none
pub piece_gave : (size : ℕ) (was is : InView) (b result : Bool) (old new : LineView) → StepMoves size b result old was new is → (further : List ℕ) × Gave was further is
piece_gave size was is b result old new moves = let s = stepped size b result old was new is moves in (s.further, s.step.gave)

-- the end of a turn
ends_of : (form : LineForm) (first now : InView) (read available : List ℕ) (t : ℕ) (result : Bool) (old new : LineView) → old.pieces ≡ size_of form → EndMoves (size_of form) result old new
    → LineStands form first now read t old → MayBe form.scrambled old.reader.ending read available → Ends (size_of form) available (length read) t (line_state (size_of form) (mfas_of available) t) result new
ends_of form first now read available t result old new all m h may =
    let size = size_of form in
    let some = some_frames form.kind in
    let P : ℕ → Type 0 = λ k. LineIs size available (length read) t (line_state size (mfas_of available) t) k old in
    turn_end size available (length read) t (line_state size (mfas_of available) t) some.0 result old new some.1 refl (subst P all (of_line size available (length read) t old (h.is_line available may))) m

-- how the bytes ended stays
pub same_ending : (size : ℕ) (result : Bool) (old new : LineView) → EndMoves size result old new → new.reader.ending ≡ old.reader.ending
same_ending size result old new m = ap (λ (r : ReaderView). r.ending) m.reader

-- the end of a turn, said of the form of the line as it stands
pub record TurnMoves (form : LineForm) (result : Bool) (old new : LineView) : Type 0 where
  pub all : old.pieces ≡ size_of form
  pub moves : EndMoves (size_of form) result old new

pub turn_moves : (form : LineForm) (result : Bool) (old new : LineView) → form_of old ≡ form → old.pieces ≡ slots_of old.kind → EndMoves (slots_of old.kind) result old new → TurnMoves form result old new
turn_moves form result old new e all m = let P : LineForm → Type 0 = λ f. TurnMoves f result old new in subst P e (record { all = all; moves = m })

pub end_stands : (form : LineForm) (first now : InView) (read : List ℕ) (t : ℕ) (result : Bool) (old new : LineView) → old.pieces ≡ slots_of old.kind → EndMoves (slots_of old.kind) result old new
    → LineStands form first now read t old → LineStands form first now read (t + 1) new
end_stands form first now read t result old new all moves h =
    let size = size_of form in
    let turn = turn_moves form result old new h.is_form all moves in
    let m = turn.moves in
    let same = same_ending size result old new m in
    record {
      is_form = same_form old new m.kind (ap (λ (r : ReaderView). r.scrambled) m.reader) ∙ h.is_form;
      gave = h.gave;
      ending = (let P : Ending → Type 0 = λ e. EndedAs e now in subst P (sym same) h.ending);
      over = λ closed. h.over (λ opened. closed (same ∙ opened));
      unended = λ other. h.unended (λ seen. other (same ∙ seen));
      is_line = λ available may.
          let e = ends_of form first now read available t result old new turn.all m h (let P : Ending → Type 0 = λ e. MayBe form.scrambled e read available in subst P same may) in
          let P : LineState → Type 0 = λ s. LineIs size available (length read) (suc t) s 0 new in
          let next = subst P (sym (line_state_suc size (mfas_of available) t)) e.line in
          let Q : ℕ → Type 0 = λ t. IsLine size available (length read) t new in
          let R : ℕ → Type 0 = λ k. IsLine size available (length read) (suc t) (with_pieces new k new.has_frame) in
          let S : Bool → Type 0 = λ b. IsLine size available (length read) (suc t) (with_pieces new 0 b) in
          subst Q (sym (add-one t)) (subst R (sym m.pieces) (subst S (sym m.has_frame) (at_turn size available (length read) (suc t) new next)));
    }

pub end_multiframe : (form : LineForm) (first now : InView) (read available : List ℕ) (t : ℕ) (result : Bool) (old new : LineView) → old.pieces ≡ slots_of old.kind → EndMoves (slots_of old.kind) result old new
    → LineStands form first now read t old → MayBe form.scrambled old.reader.ending read available → result ≡ is_some (multiframe (size_of form) (mfas_of available) t)
end_multiframe form first now read available t result old new all moves h may =
    let turn = turn_moves form result old new h.is_form all moves in
    (ends_of form first now read available t result old new turn.all turn.moves h may).multiframe

pub first_is : (k : ℕ) → eqb k 0 ≡ is_first k
first_is zero = refl
first_is (suc k) = grind (arith, nat_tests)
