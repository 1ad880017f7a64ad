-- API: what `pull` writes of a line on which a tributary carries a client's bytes.
use Rattle.std.specs.Prelude.{◌≡◌, ℕ, ◌+◌, ◌-◌, ◌*◌, ◌/◌, ◌<◌, ◌≤◌, true, List, ◌++◌, length, take, slice_range}
use Rattle.otn_base.specs.SlotList.{IsSlotList}
use Rattle.otn_base.specs.declared.limits.TheConstants.{MOST_TURNS, OTU2_SLOTS}
use Rattle.line_side.specs.LineFile.{mfas_of}
use Rattle.multiframe.specs.LineTurns.{line_state, has_ended}
use Rattle.tributary_model.specs.Places.{Tributary}
use Rattle.tributary_model.specs.Carries.{sent, Carries, IsSteady}
use Rattle.tributary_model.specs.Carriage.{SaysAnew}
use Rattle.device_model.specs.LineViews.{view_at}
use Rattle.line_commands.specs.PullReport.{emitted_until, pull_report, tributary}

-- In the turns b + 1 to u + 1 a line carries the bytes for a tributary, by the numbers of p, of a sender that began
-- with turn s + 1. Up to turn u + 1 the numbers are steady.
pub record LineCarries (own : Tributary) (available bytes p : List ℕ) (s b u : ℕ) : Type 0 where
  pub carries : Carries own bytes p (view_at own available) s b u
  pub steady : IsSteady (length own.slots) (take (u + 1 - s) p)

-- Where it does so from turn 1 to turn u + 1, the report begins with the bytes that the sender took up to turn u - 1,
-- exactly.
abbrev pub BeginsWithWhatIsCarried : Type 0
BeginsWithWhatIsCarried = (port : ℕ) (slots available bytes p : List ℕ) (u : ℕ)
    → IsSlotList OTU2_SLOTS slots → LineCarries (tributary port slots) available bytes p 0 0 u → u < MOST_TURNS
    → (rest : List ℕ) × (pull_report (tributary port slots) available ≡ take (sent p (u - 1)) bytes ++ rest)

-- Where the line ends in the turn after these, the report is exactly the whole groups that came: those of the turns 1
-- to u.
abbrev pub IsTheWholeGroups : Type 0
IsTheWholeGroups = (port : ℕ) (slots available bytes p : List ℕ) (u : ℕ)
    → IsSlotList OTU2_SLOTS slots → LineCarries (tributary port slots) available bytes p 0 0 u → u + 2 ≤ MOST_TURNS
    → has_ended (line_state OTU2_SLOTS (mfas_of available) (u + 2)) ≡ true
    → pull_report (tributary port slots) available ≡ take (length slots * (sent p u / length slots)) bytes

-- Whatever came before turn b + 1: after a turn h + 1 from there on whose message has equal indicators, and at which no
-- slot of the tributary is marked, the report has, behind what the turns up to h + 3 emit, exactly the bytes that the
-- sender took in the turns h + 2 to u - 1.
abbrev pub HasWhatIsCarriedAfterDamage : Type 0
HasWhatIsCarriedAfterDamage = (port : ℕ) (slots available bytes p : List ℕ) (s b u h : ℕ)
    → IsSlotList OTU2_SLOTS slots → LineCarries (tributary port slots) available bytes p s b u → b ≤ h
    → SaysAnew (tributary port slots) (view_at (tributary port slots) available) 0 h
    → h + 3 ≤ u → u < MOST_TURNS
    → (rest : List ℕ)
    × (pull_report (tributary port slots) available
    ≡ emitted_until (tributary port slots) available (h + 3)
    ++ (slice_range bytes (sent p (h + 1 - s)) (sent p (u - s - 1)) ++ rest))
