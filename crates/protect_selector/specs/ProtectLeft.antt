-- Believed: what the command leaves, from its places and the report as they were first to how they are last.
use Rattle.std.specs.Prelude.{◌≡◌, ◌⊎◌, ◌↔◌, ◌<◌, ℕ, suc, Bool, List, ◌++◌, length, take}
use Rattle.port_base.specs.PortViews.{SinkGot}
use Rattle.port_base.specs.Views.{Dead}
use Rattle.line_side.specs.LineForm.{plain_otu2}
use Rattle.tributary_model.specs.Places.{Tributary}
use Rattle.device_model.specs.Moments.{line_read}
use Rattle.tributary_line.specs.TurnsLeft.{HasMore, OutputDue, TookOf}
use Rattle.device_model.specs.LineAsked.{MayHave, InputLeft}
use Rattle.protect_selector.specs.OfLines.{due_before, switch_text, switch_text_at}
use Rattle.protect_selector.specs.Protecting.{Ends}
use Rattle.port_base.specs.declared.ended.Ended.{Ended}
use Rattle.port_base.specs.declared.ended.Ended.TheVariants.{Unfinished, Cut, ReportFault, Memory}

-- a place of the command is dead
abbrev pub IsCut : Ends → Type 0
IsCut last = (last.working.state ≡ Dead) ⊎ (last.protection.state ≡ Dead) ⊎ (last.output.state ≡ Dead)

-- where the report did not fail: all turns were done, and all lines written; the lines of both were taken
pub record AllDone (own : Tributary) (turns n : ℕ) (first last : Ends) (ended : Ended)
    (working protection w p : List ℕ) : Type 0 where
  pub output : OutputDue own (due_before own n w p turns) turns first.output last.output
  pub report : SinkGot first.report (switch_text own n w p turns) last.report
  pub working_took : TookOf turns w working
  pub protection_took : TookOf turns p protection
  pub cut : (ended ≡ Cut) ↔ IsCut last
  pub unfinished : (ended ≡ Unfinished) ↔ ((IsCut last → ⊥) × (HasMore turns w ⊎ HasMore turns p))

-- Where it failed: that was at the line of the switch in turn t + 1, of which a part was written and not all, behind
-- the lines before. The frames of the turns before were written.
pub record StoppedIn (own : Tributary) (t n : ℕ) (first last : Ends) (w p : List ℕ) : Type 0 where
  pub output : OutputDue own (due_before own n w p t) t first.output last.output
  pub written : ℕ
  pub part : written < length (switch_text_at own n w p t)
  pub report : SinkGot first.report (switch_text own n w p t ++ take written (switch_text_at own n w p t)) last.report

-- That ended the command at once: of both lines was taken what the turns up to turn t + 1 want, and no more.
pub record StoppedTaking (t : ℕ) (working protection w p : List ℕ) : Type 0 where
  pub of_working : length working ≡ line_read plain_otu2 w (suc t) 0
  pub of_protection : length protection ≡ line_read plain_otu2 p (suc t) 0

-- by how the command ended, where the lines are these, of so many turns
abbrev pub LeftSo : (ended : Ended) → Tributary → (turns n t : ℕ) → (first last : Ends)
    → (working protection w p : List ℕ) → Type 0
LeftSo ReportFault own turns n t first last working protection w p = (t < turns) × StoppedIn own t n first last w p
    × StoppedTaking t working protection w p
LeftSo Memory own turns n t first last working protection w p = ⊥
LeftSo ended own turns n t first last working protection w p =
    AllDone own turns n first last ended working protection w p

-- These bytes were taken of the lines. More may stand behind them; whatever both turn out to be, this is left.
pub record ProtectRan (own : Tributary) (turns n : ℕ) (first last : Ends) (ended : Ended) : Type 0 where
  pub working : List ℕ
  pub protection : List ℕ
  pub working_more : Bool
  pub protection_more : Bool
  pub working_left : InputLeft first.working last.working working working_more
  pub protection_left : InputLeft first.protection last.protection protection protection_more
  -- the turn at whose switch the report failed, from 0, where it did
  pub stopped : ℕ
  pub left : (w p : List ℕ) → MayHave working_more working w → MayHave protection_more protection p
      → LeftSo ended own turns n stopped first last working protection w p
