use Rattle.std.proofs.Common.{◌-◌, refl, sym}
use Rattle.protect_selector.specs.declared.side.Choice.{Choice}
use Rattle.protect_selector.specs.Selected.{BothTurn}
use Rattle.protect_selector.specs.Selector.{SelectorView}
use Rattle.protect_selector.proofs.Turns.{Picks, next_agrees, stays_selector, few_groups, skip_low}
use Rattle.protect_selector.proofs.selector.Selector.pick.Goals as goal

abbrev now_of : goal.After-self-5-1 → BothTurn
now_of c = record { working = record { state = c.args.working; bytes = c.args.working_len }; protection = record { state = c.args.protection; bytes = c.args.protection_len } }

abbrev old_of : goal.After-self-5-1 → SelectorView
old_of c = record { m = c.self.inside.slots; n = c.self.inside.wait; side = c.self.inside.side; up = c.self.inside.up; skip = c.self.inside.skip; due = c.self.inside.due; working = c.self.inside.working; protection = c.self.inside.protection }

abbrev new_of : goal.After-self-5-1 → SelectorView
new_of c = record { m = c.self.inside.slots; n = c.self.inside.wait; side = c.side_by-side.result; up = c.turns_up-self-inside.result; skip = c.to_skip_in-to_skip.result - c.min-skip.result; due = c.added-self-inside.result; working = c.added-self-inside-2.result; protection = c.added-self-inside-3.result }

abbrev choice_of : goal.After-self-5-1 → Choice
choice_of c = record { side = c.side_by-side.result; skip = c.min-skip.result; cause = c.cause_of-cause.result }

picks : (c : goal.After-self-5-1) → Picks (old_of c) (now_of c) (choice_of c) (new_of c)
picks c = record {
  to_skip = c.to_skip_in-to_skip.result;
  m = refl;
  n = refl;
  up = c.turns_up-self-inside.ensures;
  cause = c.cause_of-cause.ensures;
  side = c.side_by-side.ensures;
  side_new = refl;
  to_skip_is = rw (sym c.of_side-emitted.ensures) c.to_skip_in-to_skip.ensures;
  skip = rw (sym c.bytes_of-bytes.ensures) c.min-skip.ensures;
  skip_new = refl;
  due = rw (sym c.bytes_of-bytes.ensures) c.added-self-inside.ensures.value;
  working = c.added-self-inside-2.ensures.value;
  protection = c.added-self-inside-3.ensures.value;
}

pub invariant_of-self : goal.invariant_of-self
invariant_of-self c = stays_selector (old_of c) (now_of c) (choice_of c) (new_of c) c.self.invariant (picks c)

pub returns-clause-choice : goal.returns-clause-choice
returns-clause-choice c = λ m n past old.
    let agrees = next_agrees m n (now_of c) past (old_of c) (choice_of c) (new_of c) (rw (sym c.self.view_is) at old) (picks c) in (agrees.choice_is, agrees.stands)

pub returns-clause-groups : goal.returns-clause-groups
returns-clause-groups c = rw (sym c.self.view_is) (few_groups (old_of c) (now_of c) (choice_of c) (new_of c) c.self.invariant (picks c))

pub returns-clause-within : goal.returns-clause-within
returns-clause-within c = rw (picks c).skip (skip_low (picks c).to_skip (choice_of c).side (now_of c))
