-- API: what is carried on the working line of a protected tributary.
use Rattle.std.specs.Prelude.{◌≡◌, ℕ, suc, ◌*◌, ◌≤◌, List, ◌∷◌, None}
use Rattle.std.specs.List.{concat}
use Rattle.otn_base.specs.declared.limits.TheConstants.{OTU2_SLOTS}
use Rattle.tributary_model.specs.Carriage.{Arrives}
use Rattle.tributary_model.specs.Laws.{IsTributary}
use Rattle.tributary_model.specs.Places.{Tributary}
use Rattle.tributary_model.specs.Sending.{IsSent}
use Rattle.device_model.specs.Agreements.{AgreeOnTributary}
use Rattle.device_model.specs.LineViews.{view_at, emitted_at}
use Rattle.tributary_line.specs.TributaryFile.{IsTributaryFile}
use Rattle.protect_selector.specs.declared.side.Side.TheVariants.{Working}
use Rattle.protect_selector.specs.OfLines.{choice_at, due_at, due_before, switch_text}

-- Where the working line carries a sender's bytes in steady numbers from the first turn to turn u, there is no switch
-- until then, whatever protection brings, and all that the working sink emits goes on.
pub record Stays (own : Tributary) (n : ℕ) (w p : List ℕ) (t : ℕ) : Type 0 where
  pub choice : choice_at own n w p t ≡ record { side = Working; skip = 0; cause = None }
  pub due : due_at own n w p t ≡ emitted_at own w t

abbrev pub StaysWhileCarried : Type 0
StaysWhileCarried = (own : Tributary) (n : ℕ) (bytes numbers w p : List ℕ) (u : ℕ)
    → Arrives own bytes numbers (view_at own w) 0 0 0 u → (t : ℕ) → t ≤ u → Stays own n w p t

-- Then the file of the line output carries the same bytes, two turns later.
abbrev pub CarriesTwoLater : Type 0
CarriesTwoLater = (own : Tributary) (n b : ℕ) (bytes numbers w p : List ℕ) (frames : List (List ℕ)) (u : ℕ)
    → IsSent own → own.line_slots ≡ OTU2_SLOTS → 1 ≤ own.port → Arrives own bytes numbers (view_at own w) 0 0 0 u
    → IsTributaryFile b own (due_before own n w p (suc u)) (OTU2_SLOTS * suc u) frames
    → Arrives own bytes (0 ∷ 0 ∷ numbers) (view_at own (concat frames)) 0 0 0 u

-- What goes on, and what is told, is fixed by the own places of both lines and their MFAS bytes: on lines that agree on
-- these it is the same.
abbrev pub IsApart : Type 0
IsApart = (own : Tributary) (n : ℕ) (w w' p p' : List ℕ) (t : ℕ) → IsTributary own → AgreeOnTributary own w w'
    → AgreeOnTributary own p p'
    → (due_before own n w p t ≡ due_before own n w' p' t) × (switch_text own n w p t ≡ switch_text own n w' p' t)
