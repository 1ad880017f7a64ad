-- API: what holds of every choice.
use Rattle.std.specs.Prelude.{◌≡◌, ℕ, ◌+◌, ◌/◌, ◌%◌, ◌<◌, ◌≤◌, List, ◌∷◌, true, false, Some, None}
use Rattle.protect_selector.specs.declared.side.Side.{Side}
use Rattle.protect_selector.specs.declared.side.Side.TheVariants.{Working, Protection}
use Rattle.protect_selector.specs.declared.side.SwitchCause.TheVariants.{Defect, Restored}
use Rattle.protect_selector.specs.Selected.{BothTurn, of_side, other, is_up, turns_up, emitted_by_side, selection, choice_in}

-- a turn of both lines after which the sink of this side is Up
abbrev pub IsUpIn : Side → BothTurn → Type 0
IsUpIn side now = is_up (of_side side now).state ≡ true

-- after which it is not
abbrev pub IsNotUpIn : Side → BothTurn → Type 0
IsNotUpIn side now = is_up (of_side side now).state ≡ false

-- why a turn's choice is as it is, after a turn in which this was the side
pub record HasCause (m n : ℕ) (now : BothTurn) (past : List BothTurn) (before : Side) : Type 0 where
  pub none : (choice_in m n now past).cause ≡ None → (choice_in m n now past).side ≡ before
  pub defect : (choice_in m n now past).cause ≡ Some Defect
      → ((choice_in m n now past).side ≡ other before) × IsNotUpIn before now × IsUpIn (other before) now
  pub restored : (choice_in m n now past).cause ≡ Some Restored
      → (before ≡ Protection) × ((choice_in m n now past).side ≡ Working) × (0 < n) × (n ≤ turns_up (now ∷ past))
      × IsUpIn Working now

-- Every switch has its cause: after a defect the side was not Up and the other is; a side that is restored was Up for
-- so many turns.
abbrev pub HaveCauses : Type 0
HaveCauses = (m n : ℕ) (now : BothTurn) (past : List BothTurn) → HasCause m n now past (selection m n past).side

-- After each turn in which a sink of the two is Up, that of the side is.
abbrev pub IsUpWhereOneIs : Type 0
IsUpWhereOneIs = (m n : ℕ) (now : BothTurn) (past : List BothTurn) (side : Side) → IsUpIn side now
    → IsUpIn (choice_in m n now past).side now

-- In a turn without a switch that begins with nothing to be skipped, nothing is skipped.
abbrev pub GivesAllOn : Type 0
GivesAllOn = (m n : ℕ) (now : BothTurn) (past : List BothTurn)
    → (choice_in m n now past).cause ≡ None → (selection m n past).to_skip ≡ 0 → (choice_in m n now past).skip ≡ 0

-- A side's groups of m bytes and those that are given on stay one behind the other.
abbrev pub AreAligned : Type 0
AreAligned = (m n : ℕ) (past : List BothTurn) → 0 < m
    → (selection m n past).due % m ≡ (emitted_by_side (selection m n past).side past + (selection m n past).to_skip) % m

-- A turn that is given on completes no more groups than its side's emission does.
abbrev pub CompletesNoMore : Type 0
CompletesNoMore = (m n most : ℕ) (now : BothTurn) (past : List BothTurn) → 0 < m
    → emitted_by_side (choice_in m n now past).side (now ∷ past) / m
    ≤ emitted_by_side (choice_in m n now past).side past / m + most
    → (selection m n (now ∷ past)).due / m ≤ (selection m n past).due / m + most
