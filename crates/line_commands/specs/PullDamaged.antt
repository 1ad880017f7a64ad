-- API: what `pull` writes of two lines that differ, for its tributary, in one damaged message.
use Rattle.std.specs.Prelude.{◌≡◌, ℕ, Bool, List, Some, length}
use Rattle.line_side.specs.LineFile.{mfas_of}
use Rattle.tributary_model.specs.declared.turns.Hearing.TheVariants.{Damaged, Pair}
use Rattle.tributary_model.specs.Places.{Tributary, View}
use Rattle.tributary_model.specs.Messages.{hears_message}
use Rattle.tributary_model.specs.Stretches.{course}
use Rattle.tributary_model.specs.Damage.{pair_had, NeverThree}
use Rattle.device_model.specs.LineViews.{view_at, views_until}
use Rattle.line_commands.specs.PullReport.{pull_report, tributary}

-- Two lines show the same of a tributary but for the message of turn i + 1, before which its sink is Up: on the first
-- line this is damaged, on the other it gives the pair of the turn before. On neither are three messages in a row
-- damaged.
pub record LinesDifferInOneMessage (own : Tributary) (one other : List ℕ) (i : ℕ) : Type 0 where
  pub mfas : mfas_of one ≡ mfas_of other
  pub views : (t : ℕ) → (t ≡ i → ⊥) → view_at own one t ≡ view_at own other t
  pub view : View
  pub said : List ℕ
  pub here : view_at own one i ≡ Some view
  pub there : view_at own other i ≡ Some (record view { message = said })
  pub cm : ℕ
  pub cnd : ℕ
  pub equal : Bool
  pub had : pair_had (course own (views_until own one i)) ≡ Some (cm, cnd)
  pub damaged : hears_message (Some cm) (length own.slots) view.message ≡ Damaged
  pub repeats : hears_message (Some cm) (length own.slots) said ≡ Pair cm cnd equal
  pub one_calm : (t : ℕ) → NeverThree own (views_until own one t)
  pub other_calm : (t : ℕ) → NeverThree own (views_until own other t)

-- They give `pull` one report.
abbrev pub WritesAsIfRepeated : Type 0
WritesAsIfRepeated = (port : ℕ) (slots one other : List ℕ) (i : ℕ)
    → LinesDifferInOneMessage (tributary port slots) one other i
    → pull_report (tributary port slots) one ≡ pull_report (tributary port slots) other
