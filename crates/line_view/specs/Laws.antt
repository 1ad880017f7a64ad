-- API: what is proved of views.
use Rattle.std.specs.Prelude.{◌≡◌, ◌+◌, ℕ, List, [], ◌∷◌, length, map, take, drop}
use Rattle.std.specs.List.{concat, flat_map}
use Rattle.line_side.specs.LineFile.{mfas_of}
use Rattle.line_commands.specs.PullReport.{pull_report, tributary}
use Rattle.tributary_model.specs.Laws.{IsTributary}
use Rattle.tributary_model.specs.Places.{Tributary}
use Rattle.device_model.specs.Agreements.{AgreeOnTributary}
use Rattle.device_model.specs.LineViews.{emitted_at}
use Rattle.line_view.specs.ViewText.{Showing, showing_text, told_at}
use Rattle.tributary_line.specs.TurnsDone.{turns_of}

-- Lines that agree on a tributary's own places have the same lines of it, turn by turn, whatever stands elsewhere.
abbrev pub TellsTheSame : Type 0
TellsTheSame = (x : Showing) (one other : List ℕ) (t : ℕ) → IsTributary x.own → AgreeOnTributary x.own one other
    → showing_text one t x ≡ showing_text other t x

-- how many bytes are told in these turns together of a tributary that is shown from the first turn on
abbrev pub bytes_told : Tributary → (available : List ℕ) → (turns : List ℕ) → ℕ
bytes_told own available [] = 0
bytes_told own available (t ∷ turns) = (told_at own 0 available t).bytes + bytes_told own available turns

-- They are as many as its sink emits in them.
abbrev pub TellsAllBytes : Type 0
TellsAllBytes = (own : Tributary) (available : List ℕ) (turns : List ℕ)
    → bytes_told own available turns ≡ length (flat_map (emitted_at own available) turns)

-- ---- what `pull` writes

-- a list cut from the front into pieces of these lengths
abbrev pub pieces_of : (lengths : List ℕ) → List ℕ → List (List ℕ)
pieces_of [] bytes = []
pieces_of (n ∷ lengths) bytes = take n bytes ∷ pieces_of lengths (drop n bytes)

-- how many bytes are told in each turn of a view of such a tributary
abbrev pub each_told : Tributary → (available : List ℕ) → List ℕ
each_told own available = map (λ t. (told_at own 0 available t).bytes) (turns_of own.line_slots (mfas_of available))

-- What `pull` writes of an OTU2 line, cut by these numbers: the piece of each turn is what the sink emits in it, and
-- together the pieces are all that `pull` writes, byte by byte.
pub record TellsPull (own : Tributary) (available : List ℕ) : Type 0 where
  pub turns : pieces_of (each_told own available) (pull_report own available)
      ≡ map (emitted_at own available) (turns_of own.line_slots (mfas_of available))
  pub together : concat (pieces_of (each_told own available) (pull_report own available)) ≡ pull_report own available

abbrev pub TellsWhatPullWrites : Type 0
TellsWhatPullWrites = (port : ℕ) (slots available : List ℕ) → TellsPull (tributary port slots) available
