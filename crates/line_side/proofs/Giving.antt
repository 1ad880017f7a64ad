-- What a line may turn out to have, from one step of its reader to the next.
use Rattle.std.proofs.Common.{◌≡◌, ◌≢◌, ℕ, List, [], ◌++◌, refl, sym, ap, ◌∙◌, append_assoc, subst}
use Rattle.port_base.specs.Views.{Live, Dead, Empty, InView}
use Rattle.port_base.proofs.GivenLaws.{gave_none, gave_twice}
use Rattle.line_side.specs.declared.ending.Ending.{Ending}
use Rattle.line_side.specs.LineForm.{through_mask}
use Rattle.line_side.specs.MayBe.{MayBe}
use Rattle.line_side.specs.Reader.{ReaderView, EndedAs}
use Rattle.line_side.specs.Steps.Reader.{ReadStep}

pub dead_not_live : Dead ≢ Live
dead_not_live e = cc

pub empty_not_live : Empty ≢ Live
empty_not_live e = cc

-- nothing was read
pub step_kept : (old new : ReaderView) (place : InView) → new.scrambled ≡ old.scrambled → new.ending ≡ old.ending → ReadStep old place [] new place
step_kept old new place same kept = record {
  scrambled = same;
  gave = gave_none place;
  quiet = λ closed. (refl, λ opened. closed (sym kept ∙ opened));
  over = λ h closed. h (λ opened. closed (kept ∙ opened));
  ended = λ h. (let P : Ending → Type 0 = λ e. EndedAs e place in subst P (sym kept) h);
  unended = λ other. (λ seen. other (kept ∙ seen), refl);
}

pub step_none : (r : ReaderView) (place : InView) → ReadStep r place [] r place
step_none r place = step_kept r r place refl refl

-- two steps
pub step_twice : (old mid new : ReaderView) (was half is : InView) (x y : List ℕ) → ReadStep old was x mid half → ReadStep mid half y new is → ReadStep old was (x ++ y) new is
step_twice old mid new was half is x y g h = record {
  scrambled = h.scrambled ∙ g.scrambled;
  gave = gave_twice was half is x y g.gave h.gave;
  quiet = λ closed. let p = g.quiet closed in let q = h.quiet p.1 in (rw (p.0, q.0) refl, q.1);
  over = λ ended. h.over (g.over ended);
  ended = λ e. h.ended (g.ended e);
  unended = λ other. let q = h.unended other in let p = g.unended q.0 in (p.0, q.1 ∙ p.1);
}

-- what the line may have after a step it might have before
pub may_before : (old new : ReaderView) (was is : InView) (further read available : List ℕ) → ReadStep old was further new is → MayBe new.scrambled new.ending (read ++ further) available
    → MayBe old.scrambled old.ending read available
may_before old new was is further read available step may = record {
  rest = further ++ may.rest;
  over = λ closed. let q = step.quiet closed in rw (q.0, may.over q.1) refl;
  parts = may.parts ∙ ap (λ s. through_mask s ((read ++ further) ++ may.rest)) step.scrambled ∙ ap (through_mask old.scrambled) (append_assoc read further may.rest);
}

-- the parts of two steps
pub may_second : (new : ReaderView) (x y read available : List ℕ) → MayBe new.scrambled new.ending (read ++ (x ++ y)) available → MayBe new.scrambled new.ending ((read ++ x) ++ y) available
may_second new x y read available may = let P : List ℕ → Type 0 = λ l. MayBe new.scrambled new.ending l available in subst P (sym (append_assoc read x y)) may

pub may_first : (mid new : ReaderView) (half is : InView) (x y read available : List ℕ) → ReadStep mid half y new is → MayBe new.scrambled new.ending (read ++ (x ++ y)) available
    → MayBe mid.scrambled mid.ending (read ++ x) available
may_first mid new half is x y read available step may = may_before mid new half is y (read ++ x) available step (may_second new x y read available may)
