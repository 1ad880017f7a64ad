-- The moves of an input line, over plain views.
use Rattle.std.proofs.Common.{◌≡◌, ◌<◌, ◌+◌, ◌-◌, ◌%◌, ◌^◌, min, max, ℕ, Bool, true, false, eqb, ltb, List, ◌++◌, Option, Some, None, length, arith, refl, sym, ap, ◌∙◌, append_assoc, length-append}
use Rattle.std.specs.Prelude.{slice_index, option_map, ◌&&◌, IsSome, IsSomeAnd}
use Rattle.std.proofs.lemmas.Bool.{ltb-true, lt-ltb}
use Rattle.port_base.specs.Views.{InView}
use Rattle.multiframe.specs.LineTurns.{one_if, looked_ahead, is_start}
use Rattle.multiframe.specs.Alignment.{Alignment, aligned_at, with_frame}
use Rattle.line_side.specs.LineFile.{frame_at, frame_mfas, mfas_of}
use Rattle.line_side.specs.Reader.{ReaderView}
use Rattle.line_side.specs.Steps.Reader.{Advances, Begins}
use Rattle.otn_base.specs.Counts.{saturated}
use Rattle.line_side.specs.LineStands.{LineView, taken_count}
use Rattle.line_side.specs.Steps.LineMoves.{Keeps, TakesMember, TakesNext, Tries, Waits, StepMoves}
use Rattle.line_side.specs.declared.tried.Tried.TheVariants.{Locks, Passes, Ends}
use Rattle.line_side.proofs.Giving.{step_twice, may_first, may_second}
use Rattle.line_side.proofs.Beginnings.{same_wanted}
use Rattle.line_side.proofs.Mfas.{index_mfas}

-- no frame was taken
stays : (old new : LineView) → new.alignment ≡ old.alignment → TakesMember false old new
stays old new e = record { aligned = λ t. absurd (cc); stays = λ _. e; count = (let f = ap taken_count e in omega arith) }

-- one more frame was taken
joined : (m pieces : ℕ) (o : Option Alignment) → IsSomeAnd o (λ a. length a.taken < pieces) → IsSome (option_map (with_frame m) o) × (taken_count (option_map (with_frame m) o) ≡ taken_count o + 1)
joined m pieces None h = absurd h
joined m pieces (Some a) h = (refl, simp length-append refl)

pub takes_none : (old : LineView) (was is : InView) (r : ReaderView) → Advances false old.reader was r is → TakesNext false old was (record old { reader = r; ended = true }) is
takes_none old was is r a = record {
  further = a.further;
  step = a.step;
  keeps = record { kind = refl; pieces = refl; lost = refl };
  member = stays _ _ refl;
  lead_in = refl;
  over = λ _. refl;
  frame = λ t. absurd (cc);
  none = λ _ available read u w may h. let x = (a.line available read u w may h).none refl in
      record { read = x.0; end = x.1; alignment = refl; ended = refl };
}

pub takes_frame : (old : LineView) (was is : InView) (r : ReaderView) (m pieces : ℕ) → IsSomeAnd old.alignment (λ a. length a.taken < pieces) → Advances true old.reader was r is → m ≡ frame_mfas r.hand
    → TakesNext true old was (record old { reader = r; alignment = option_map (with_frame m) old.alignment }) is
takes_frame old was is r m pieces room a e = record {
  further = a.further;
  step = a.step;
  keeps = record { kind = refl; pieces = refl; lost = refl };
  member = (let x = joined m pieces old.alignment room in record { aligned = λ _. x.0; stays = λ f. absurd (cc); count = x.1 });
  lead_in = refl;
  over = λ f. absurd (cc);
  frame = λ _ available read u w may h. let x = (a.line available read u w may h).frame refl in
      record {
        read = x.0;
        there = x.1;
        hand = x.2;
        alignment = ap (λ k. option_map (with_frame k) old.alignment) (e ∙ ap frame_mfas x.2 ∙ sym (index_mfas available u x.1));
        ended = refl;
      };
  none = λ f. absurd (cc);
}

-- a turn that takes no lead-in frame
none_passed : (lead : ℕ) (before : ℕ) → lead ≡ saturated before → lead ≡ saturated (before + 0)
none_passed lead before e = omega arith

one_passed : (lead : ℕ) (before : ℕ) → lead ≡ saturated before → min (lead + 1) (2 ^ 64 - 1) ≡ saturated (before + 1)
one_passed lead before e = omega arith

pub tries_ends : (size : ℕ) (old : LineView) (was is : InView) (r : ReaderView) → Advances false old.reader was r is → Tries size Ends old was (record old { reader = r; ended = true }) is
tries_ends size old was is r a = record {
  further = a.further;
  step = a.step;
  keeps = record { kind = refl; pieces = refl; lost = refl };
  member = stays _ _ refl;
  passes_over = none_passed old.lead_in;
  passed = λ t. absurd (cc);
  locks = λ t. absurd (cc);
  passes = λ t. absurd (cc);
  ends = λ _ available read u w may h. let x = (a.line available read u w may h).none refl in
      record { read = x.0; end = x.1; alignment = refl; ended = refl };
}

twice_wanted : (w u x : ℕ) → max (max w (u + 1)) (u + 1 + x) ≡ max w (u + 1 + x)
twice_wanted w u x = omega arith

pub tries_passes : (size : ℕ) (old : LineView) (was mid is : InView) (r s : ReaderView) → Advances true old.reader was r mid → Begins size false r mid s is
    → Tries size Passes old was (record old { reader = s; lead_in = min (old.lead_in + 1) (2 ^ 64 - 1) }) is
tries_passes size old was mid is r s a b = record {
  further = a.further ++ b.further;
  step = step_twice old.reader r s was mid is a.further b.further a.step b.step;
  keeps = record { kind = refl; pieces = refl; lost = refl };
  member = stays _ _ refl;
  passes_over = one_passed old.lead_in;
  passed = λ _. (refl, refl);
  locks = λ t. absurd (cc);
  passes = λ _ available read u w may h.
      let x = (a.line available read u w (may_first r s mid is a.further b.further read available b.step may) h).frame refl in
      let y = b.line available (read ++ a.further) (u + 1) (max w (u + 1)) (may_second s a.further b.further read available may) x.0 u refl x.2 in
      record {
        read = rw (← append_assoc read a.further b.further) (same_wanted available _ (u + 1) _ _ s (twice_wanted w u (one_if (looked_ahead size (mfas_of available) u))) y.read);
        start = y.start;
      };
  ends = λ t. absurd (cc);
}

and_first : (a b : Bool) → (a && b) ≡ true → a ≡ true
and_first true b e = refl
and_first false b e = absurd (cc)

and_second : (a b : Bool) → (a && b) ≡ true → b ≡ true
and_second true b e = e
and_second false b e = absurd (cc)

-- a frame at which a multiframe begins is one of those after which the next one is looked at
pub start_looked : (size : ℕ) (ms : List ℕ) (u : ℕ) → is_start size ms u ≡ true → (u + 1 < length ms) × (looked_ahead size ms u ≡ true)
start_looked size ms u e =
    let inside = ltb-true (u + 1) (length ms) (and_first _ _ e) in
    let here : ltb u (length ms) ≡ true = lt-ltb u (length ms) (omega arith) in
    let fits : eqb (slice_index ms u % size) 0 ≡ true = and_first (eqb (slice_index ms u % size) 0) _ (and_second (ltb (u + 1) (length ms)) _ e) in
    (inside, ap (λ b. b && eqb (slice_index ms u % size) 0) here ∙ fits)

pub tries_locks : (size : ℕ) (old : LineView) (was mid is : InView) (r s : ReaderView) (m : ℕ) → old.alignment ≡ None → Advances true old.reader was r mid → Begins size true r mid s is → m ≡ frame_mfas s.hand
    → Tries size Locks old was (record old { reader = s; alignment = Some (with_frame m (aligned_at m)) }) is
tries_locks size old was mid is r s m none a b e = record {
  further = a.further ++ b.further;
  step = step_twice old.reader r s was mid is a.further b.further a.step b.step;
  keeps = record { kind = refl; pieces = refl; lost = refl };
  member = record { aligned = λ _. refl; stays = λ f. absurd (cc); count = (let e = ap taken_count none in omega arith) };
  passes_over = none_passed old.lead_in;
  passed = λ t. absurd (cc);
  locks = λ _ available read u w may h.
      let x = (a.line available read u w (may_first r s mid is a.further b.further read available b.step may) h).frame refl in
      let y = b.line available (read ++ a.further) (u + 1) (max w (u + 1)) (may_second s a.further b.further read available may) x.0 u refl x.2 in
      let hand : s.hand ≡ frame_at available u = b.hand ∙ x.2 in
      let looked : one_if (looked_ahead size (mfas_of available) u) ≡ 1 = ap one_if (start_looked size (mfas_of available) u y.start).1 in
      record {
        read = rw (← append_assoc read a.further b.further) (same_wanted available _ (u + 1) _ _ s (twice_wanted w u (one_if (looked_ahead size (mfas_of available) u)) ∙ ap (λ k. max w (u + 1 + k)) looked) y.read);
        start = y.start;
        hand = hand;
        alignment = ap (λ k. Some (with_frame k (aligned_at k))) (e ∙ ap frame_mfas hand ∙ sym (index_mfas available u x.1));
        ended = refl;
      };
  passes = λ t. absurd (cc);
  ends = λ t. absurd (cc);
}

waited : (result : Bool) (old : LineView) (was : InView) (new : LineView) (is : InView) → Waits result old was new is → Keeps old new
waited result old was new is w = rw w.line (record { kind = refl; pieces = refl; lost = refl })

-- what stays in a piece, however the line stands
pub step_keeps : (size : ℕ) (first result : Bool) (old : LineView) (was : InView) (new : LineView) (is : InView) → StepMoves size first result old was new is → Keeps old new
step_keeps size first result old was new is m = by_cases first old.ended old.alignment refl refl refl
  where
    by_cases : (f ended : Bool) (alignment : Option Alignment) → first ≡ f → old.ended ≡ ended → old.alignment ≡ alignment → Keeps old new
    by_cases f true a e g h = waited result old was new is (m.over g)
    by_cases f false (Some a) e g h = (m.locked a g h).keeps
    by_cases true false None e g h = (m.hunting g h e).keeps
    by_cases false false None e g h = waited result old was new is (m.waiting g h e)
