-- API: what the file of one tributary carries.
use Rattle.std.specs.Prelude.{◌≡◌, ℕ, ◌+◌, ◌*◌, ◌≤◌, List, length}
use Rattle.std.specs.List.{concat}
use Rattle.otn_base.specs.declared.limits.TheConstants.{GROUPS, OTU2_SLOTS}
use Rattle.tributary_model.specs.Carries.{cm_in, Carries}
use Rattle.tributary_model.specs.Places.{Tributary}
use Rattle.tributary_model.specs.Puts.{lengths_of}
use Rattle.tributary_model.specs.Sending.{IsSent}
use Rattle.device_model.specs.LineViews.{view_at}
use Rattle.tributary_line.specs.TributaryFile.{IsTributaryFile}

-- The first u + 1 turns of the file of an OTU2 line that a tributary is put on carry the bytes of its turns, where its
-- numbers fit a multiframe.
abbrev pub CarriesItsTurns : Type 0
CarriesItsTurns = (b : ℕ) (own : Tributary) (turns frames : List (List ℕ)) (u : ℕ)
    → IsSent own → own.line_slots ≡ OTU2_SLOTS → 1 ≤ own.port
    → IsTributaryFile b own turns (OTU2_SLOTS * (u + 1)) frames → u + 1 ≤ length turns
    → ((i : ℕ) → i ≤ u → cm_in (length own.slots) (lengths_of turns) i ≤ GROUPS)
    → Carries own (concat turns) (lengths_of turns) (view_at own (concat frames)) 0 0 u
