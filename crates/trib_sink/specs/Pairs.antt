-- API: the pair of numbers that a sink last took.
use Rattle.std.specs.Prelude.{ℕ, List, [], ◌∷◌, Option, Some, None}
use Rattle.tributary_model.specs.Places.{Tributary, View}
use Rattle.tributary_model.specs.Stretches.{Member, Part, WaitingTurn, DownTurn, StretchTurn, EndingTurn, course}

-- the pair of the last turn of a stretch, whose turns are listed with the last first: Cm and CnD
abbrev pub last_pair : List Member → Option (ℕ × ℕ)
last_pair [] = None
last_pair (last ∷ before) = Some (last.cm, last.cnd)

-- that of the last of these turns, where it is of a stretch that goes on
abbrev pub pair_of : List Part → Option (ℕ × ℕ)
pair_of [] = None
pair_of (WaitingTurn ∷ parts) = None
pair_of (DownTurn ∷ parts) = None
pair_of (StretchTurn stretch ∷ parts) = last_pair stretch
pair_of (EndingTurn stretch ∷ parts) = None

-- G.709 Annex D: Cm and CnD of the last of the turns of these views, where a stretch goes on with it; of a damaged
-- message those that its stretch had before it
abbrev pub pair_after : Tributary → List (Option View) → Option (ℕ × ℕ)
pair_after own past = pair_of (course own past)
