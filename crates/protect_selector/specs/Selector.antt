-- API: a selector after some turns.
use Rattle.std.specs.Prelude.{◌≡◌, ℕ, ◌+◌, ◌%◌, ◌<◌, ◌≤◌, min, List}
use Rattle.otn_base.specs.declared.limits.TheConstants.{MOST_SLOTS}
use Rattle.protect_selector.specs.declared.side.Side.{Side}
use Rattle.protect_selector.specs.declared.side.Side.TheVariants.{Working, Protection}
use Rattle.protect_selector.specs.Selected.{BothTurn, selection, turns_up, emitted_by_side}

-- what is seen of a selector: its slots, the turns that are waited for, the side, for how many turns working was Up, at
-- most as many as are waited for, what is still to be skipped, and modulo the slots how many bytes were given on and
-- emitted by each side
pub record SelectorView : Type 0 where
  pub m : ℕ
  pub n : ℕ
  pub side : Side
  pub up : ℕ
  pub skip : ℕ
  pub due : ℕ
  pub working : ℕ
  pub protection : ℕ

-- what a side has, of what both have
abbrev pub number_by : Side → (working protection : ℕ) → ℕ
number_by Working working protection = working
number_by Protection working protection = protection

-- how many bytes a side emitted, modulo the slots
abbrev pub emitted_modulo : Side → SelectorView → ℕ
emitted_modulo side s = number_by side s.working s.protection

-- What holds of every selector: it has slots, counts modulo these, and once it has skipped what is still to be skipped,
-- the groups that it gives on are those of the side.
pub record IsSelector (s : SelectorView) : Type 0 where
  pub some : 1 ≤ s.m
  pub few : s.m ≤ MOST_SLOTS
  pub up_high : s.up ≤ s.n
  pub skip_high : s.skip < s.m
  pub due_high : s.due < s.m
  pub working_high : s.working < s.m
  pub protection_high : s.protection < s.m
  pub aligned : s.due ≡ (emitted_modulo s.side s + s.skip) % s.m

-- It is one of m slots that waits for n turns, and these turns went by, the last first.
pub record HasChosen (m n : ℕ) (past : List BothTurn) (s : SelectorView) : Type 0 where
  pub slots : s.m ≡ m
  pub waits : s.n ≡ n
  pub up : s.up ≡ min n (turns_up past)
  pub side : s.side ≡ (selection m n past).side
  pub to_skip : s.skip ≡ (selection m n past).to_skip
  pub due : s.due ≡ (selection m n past).due % m
  pub working : s.working ≡ emitted_by_side Working past % m
  pub protection : s.protection ≡ emitted_by_side Protection past % m
