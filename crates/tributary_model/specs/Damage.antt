-- Believed: what one damaged message does to a sink that is Up: it is as if the pair before it were said again.
use Rattle.std.specs.Prelude.{◌≡◌, ℕ, List, [], ◌∷◌, ◌++◌, Bool, false, ◌&&◌, Option, Some, None, length}
use Rattle.tributary_model.specs.declared.turns.Hearing.TheVariants.{Damaged, Pair}
use Rattle.tributary_model.specs.declared.turns.SinkState.{SinkState}
use Rattle.tributary_model.specs.Places.{Tributary, View}
use Rattle.tributary_model.specs.Messages.{hears_message}
use Rattle.tributary_model.specs.Stretches.{Part, WaitingTurn, DownTurn, StretchTurn, EndingTurn, is_damaged, two_damaged, course, state_after}
use Rattle.tributary_model.specs.Emission.{emission}

-- the pair C and D that a sink had in the last of these turns, where it is Up
abbrev pub pair_had : List Part → Option (ℕ × ℕ)
pair_had [] = None
pair_had (WaitingTurn ∷ parts) = None
pair_had (DownTurn ∷ parts) = None
pair_had (EndingTurn stretch ∷ parts) = None
pair_had (StretchTurn [] ∷ parts) = None
pair_had (StretchTurn (last ∷ before) ∷ parts) = Some (last.cm, last.cnd)

-- whether the message of a turn with this view is the third damaged one in a row of the stretch that goes on
abbrev pub is_third : Tributary → Option View → List Part → Bool
is_third own view [] = false
is_third own view (WaitingTurn ∷ parts) = false
is_third own view (DownTurn ∷ parts) = false
is_third own view (EndingTurn stretch ∷ parts) = false
is_third own view (StretchTurn [] ∷ parts) = false
is_third own None (StretchTurn (last ∷ before) ∷ parts) = false
is_third own (Some view) (StretchTurn (last ∷ before) ∷ parts) =
    two_damaged (last ∷ before) && is_damaged (hears_message (Some last.cm) (length own.slots) view.message)

-- no stretch has a third damaged message in a row in any of these turns, the last first; outside a stretch damaged ones
-- do not count
abbrev pub NeverThree : Tributary → List (Option View) → Type 0
NeverThree own [] = Unit {0}
NeverThree own (view ∷ past) = (is_third own view (course own past) ≡ false) × NeverThree own past

-- what a sink emits in each of these turns, the last first
abbrev pub emissions : Tributary → (ais : ℕ → ℕ) → List (Option View) → List (List ℕ)
emissions own ais [] = []
emissions own ais (view ∷ past) = emission own ais past view ∷ emissions own ais past

-- how the sink stands after each of these turns, the last first
abbrev pub states : Tributary → List (Option View) → List SinkState
states own [] = []
states own (view ∷ past) = state_after own (view ∷ past) ∷ states own past

-- Two lists of views that differ in the message of one turn alone, before which the sink is Up. In the first list it is
-- damaged, in the second it gives the pair of the turn before; and in neither are three messages in a row damaged. Then
-- every emission and every state is equal for both.
abbrev pub IsAsIfRepeated : Type 0
IsAsIfRepeated = (own : Tributary) (ais : ℕ → ℕ) (past later : List (Option View)) (view : View) (said : List ℕ)
    (cm cnd : ℕ) (equal : Bool)
    → pair_had (course own past) ≡ Some (cm, cnd)
    → hears_message (Some cm) (length own.slots) view.message ≡ Damaged
    → hears_message (Some cm) (length own.slots) said ≡ Pair cm cnd equal
    → NeverThree own (later ++ Some view ∷ past)
    → NeverThree own (later ++ Some (record view { message = said }) ∷ past)
    → (emissions own ais (later ++ Some view ∷ past)
    ≡ emissions own ais (later ++ Some (record view { message = said }) ∷ past))
    × (states own (later ++ Some view ∷ past) ≡ states own (later ++ Some (record view { message = said }) ∷ past))
