-- The turns of a walk, one after another.
use Rattle.std.proofs.Common.{◌≡◌, ◌<◌, ◌+◌, ◌∙◌, ◌⊎◌, ℕ, Bool, true, false, List, ◌++◌, ltb, refl, ap, subst, inl, inr, arith}
use Rattle.std.proofs.lemmas.Bool.{ltb-true, ltb-false}
use Rattle.port_base.specs.Views.{InView}
use Rattle.line_side.specs.LineFile.{mfas_of}
use Rattle.line_side.specs.LineForm.{LineForm, size_of}
use Rattle.line_side.specs.LineStands.{LineView}
use Rattle.line_side.specs.MayBe.{MayBe}
use Rattle.multiframe.specs.LineTurns.{line_state, has_ended}
use Rattle.tributary_line.specs.Walking.{OfTurns, Walked, TurnWalked, GoesOn, WalkDone, WalkLost}
use Rattle.tributary_line.specs.declared.walking.After.TheVariants.{NextTurn, LineEnded, ReportFailed}

-- t turns went by, and the line had not ended before any of them nor after the last one
pub record SoFar (form : LineForm) (first now : InView) (t : ℕ) (line : LineView) (Holds : OfTurns) : Type 0 where
  pub read : List ℕ
  pub walked : Walked form first now read t line Holds
  pub unended : (available : List ℕ) → MayBe form.scrambled line.reader.ending read available → GoesOn form available (t + 1)

-- a number below t + 1 is below t, or is t
last_or_before : (s t : ℕ) → s < t + 1 → (s < t) ⊎ (s ≡ t)
last_or_before s t within = by_test (ltb s t) refl
  where
    by_test : (b : Bool) → ltb s t ≡ b → (s < t) ⊎ (s ≡ t)
    by_test true e = inl (ltb-true s t e)
    by_test false e = let above = ltb-false s t e in inr (omega (arith, above, within))

-- nor does it end before the turn behind one after which it goes on
goes_on : (form : LineForm) (available : List ℕ) (t : ℕ) → GoesOn form available t
    → has_ended (line_state (size_of form) (mfas_of available) t) ≡ false → GoesOn form available (t + 1)
goes_on form available t before last s within = by_place (last_or_before s t within)
  where
    by_place : (s < t) ⊎ (s ≡ t) → has_ended (line_state (size_of form) (mfas_of available) s) ≡ false
    by_place (inl less) = before s less
    by_place (inr same) = ap (λ k. has_ended (line_state (size_of form) (mfas_of available) k)) same ∙ last

-- a line hunts before its first turn
first_open : (size : ℕ) (ms : List ℕ) → has_ended (line_state size ms 0) ≡ false
unfolding line_state
first_open size ms = refl

-- before the first turn
pub so_far_none : (form : LineForm) (first now : InView) (read : List ℕ) (line : LineView) (Holds : OfTurns)
    → Walked form first now read 0 line Holds → SoFar form first now 0 line Holds
so_far_none form first now read line Holds walked = record {
  read = read;
  walked = walked;
  unended = λ available may. goes_on form available 0 (λ s less. absurd (omega (arith, less))) (first_open (size_of form) (mfas_of available));
}

-- a turn more, after which the line goes on
pub so_far_more : (form : LineForm) (first was now : InView) (t : ℕ) (old new : LineView) (Held Holds Lost : OfTurns)
    → (h : SoFar form first was t old Held) → TurnWalked NextTurn form first now h.read t old new Holds Lost
    → SoFar form first now (t + 1) new Holds
so_far_more form first was now t old new Held Holds Lost h turn = record {
  read = h.read ++ turn.further;
  walked = record { stands = turn.stands; between = turn.between; holds = turn.holds };
  unended = λ available may. goes_on form available (t + 1) (h.unended available (turn.earlier available may)) (turn.ended available may);
}

-- the last one: the line has ended with it
pub so_far_ended : (form : LineForm) (first was now : InView) (t : ℕ) (old new : LineView) (Held Holds Lost : OfTurns)
    → (h : SoFar form first was t old Held) → t < 16384 → TurnWalked LineEnded form first now h.read t old new Holds Lost
    → WalkDone form first now (t + 1) new Holds
so_far_ended form first was now t old new Held Holds Lost h few turn = record {
  read = h.read ++ turn.further;
  walked = record { stands = turn.stands; between = turn.between; holds = turn.holds };
  few = omega (arith, few);
  unended = λ available may. h.unended available (turn.earlier available may);
  last = λ available may. inl (turn.ended available may);
}

-- or its write failed
pub so_far_lost : (form : LineForm) (first was now : InView) (t : ℕ) (old new : LineView) (Held Holds Lost : OfTurns)
    → (h : SoFar form first was t old Held) → t < 16384 → TurnWalked ReportFailed form first now h.read t old new Holds Lost
    → WalkLost form first now new Lost
so_far_lost form first was now t old new Held Holds Lost h few turn = record {
  read = h.read ++ turn.further;
  t = t;
  few = few;
  stands = turn.stands;
  between = turn.between;
  unended = λ available may. h.unended available (turn.earlier available may);
  lost = turn.holds;
}

-- and as many were done as may be
pub so_far_all : (form : LineForm) (first now : InView) (t : ℕ) (line : LineView) (Holds : OfTurns) → SoFar form first now t line Holds
    → t ≡ 16384 → WalkDone form first now 16384 line Holds
so_far_all form first now t line Holds h all =
    subst (λ n. WalkDone form first now n line Holds) all (record {
      read = h.read;
      walked = h.walked;
      few = omega (arith, all);
      unended = λ available may s less. h.unended available may s (omega (arith, less));
      last = λ available may. inr all;
    })
