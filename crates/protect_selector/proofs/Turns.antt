-- A turn of a selector is the turn that is defined.
use Rattle.std.proofs.Common.{◌≡◌, ℕ, suc, ◌+◌, ◌/◌, ◌%◌, ◌-◌, ◌<◌, ◌≤◌, min, List, [], ◌∷◌, Bool, true, false, cond, leb, Option, Some, None, refl, sym, ◌∙◌, arith}
use Rattle.std.proofs.Math.Nat.{mod-add-mod, mod-lt, mod-eq_of_lt}
use Rattle.std.proofs.lemmas.Bool.Decides.{nat_tests}
use Rattle.protect_selector.specs.declared.side.Side.{Side}
use Rattle.protect_selector.specs.declared.side.Side.TheVariants.{Working, Protection}
use Rattle.protect_selector.specs.declared.side.SwitchCause.{SwitchCause}
use Rattle.protect_selector.specs.declared.side.Choice.{Choice}
use Rattle.protect_selector.specs.Selected.{BothTurn, Selection, of_side, other, is_up, turns_up, cause_in, side_by, emitted_by_side, to_skip_in, choice_in, selection, selection_after}
use Rattle.protect_selector.specs.Selector.{SelectorView, HasChosen, IsSelector, number_by, emitted_modulo}
use Rattle.protect_selector.specs.Steps.Selector.{state_by, cause_by, to_skip_by}
use Rattle.protect_selector.specs.Laws.{AreAligned, CompletesNoMore}
use Rattle.protect_selector.proofs.Modulo.{still_aligned, aligned_at_switch, no_more_groups, no_more_in_total}

pub selection_next : (m n : ℕ) (now : BothTurn) (past : List BothTurn) → selection m n (now ∷ past) ≡ selection_after m n (selection m n past) now past
unfolding selection
selection_next m n now past = refl

pub selection_start : (m n : ℕ) → selection m n [] ≡ record { side = Working; to_skip = 0; due = 0 }
unfolding selection
selection_start m n = refl

-- ---- what a side has

pub state_is : (side : Side) (now : BothTurn) → state_by side now.working.state now.protection.state ≡ (of_side side now).state
state_is Working now = refl
state_is Protection now = refl

pub bytes_is : (side : Side) (now : BothTurn) → number_by side now.working.bytes now.protection.bytes ≡ (of_side side now).bytes
bytes_is Working now = refl
bytes_is Protection now = refl

pub came_is : (m : ℕ) (side : Side) (past : List BothTurn) → number_by side (emitted_by_side Working past % m) (emitted_by_side Protection past % m) ≡ emitted_by_side side past % m
came_is m Working past = refl
came_is m Protection past = refl

-- ---- the cause

up_counted : (n t : ℕ) (up : Bool) → cond up (min n (min n t + 1)) 0 ≡ min n (cond up (suc t) 0)
up_counted n t true = omega arith
up_counted n t false = omega arith

enough : (n t : ℕ) → leb n (min n t) ≡ leb n t
enough n t = grind (arith, nat_tests)

cause_is : (n : ℕ) (side : Side) (now : BothTurn) (past : List BothTurn)
    → cause_by n (min n (turns_up (now ∷ past))) side (state_by side now.working.state now.protection.state) (state_by (other side) now.working.state now.protection.state) ≡ cause_in n side now past
cause_is n side now past = rw (state_is side now, state_is (other side) now, enough n (turns_up (now ∷ past))) refl

-- ---- what is skipped

to_skip_is : (m : ℕ) (side : Side) (past : List BothTurn) (cause : Option SwitchCause) (before : Selection)
    → to_skip_by m (emitted_by_side side past % m) cause before.to_skip (before.due % m) ≡ to_skip_in m (emitted_by_side side past) cause before
to_skip_is m side past None before = refl
to_skip_is m side past (Some cause) before = mod-add-mod before.due m (m - emitted_by_side side past % m)

-- ---- a turn

-- what a selector comes to in a turn
pub record Picks (s : SelectorView) (now : BothTurn) (choice : Choice) (new : SelectorView) : Type 0 where
  pub to_skip : ℕ
  pub m : new.m ≡ s.m
  pub n : new.n ≡ s.n
  pub up : new.up ≡ cond (is_up now.working.state) (min s.n (s.up + 1)) 0
  pub cause : choice.cause ≡ cause_by s.n new.up s.side (state_by s.side now.working.state now.protection.state) (state_by (other s.side) now.working.state now.protection.state)
  pub side : choice.side ≡ side_by s.side choice.cause
  pub side_new : new.side ≡ choice.side
  pub to_skip_is : to_skip ≡ to_skip_by s.m (number_by choice.side s.working s.protection) choice.cause s.skip s.due
  pub skip : choice.skip ≡ min to_skip (number_by choice.side now.working.bytes now.protection.bytes)
  pub skip_new : new.skip ≡ to_skip - choice.skip
  pub due : new.due ≡ (s.due + (number_by choice.side now.working.bytes now.protection.bytes - choice.skip)) % s.m
  pub working : new.working ≡ (s.working + now.working.bytes) % s.m
  pub protection : new.protection ≡ (s.protection + now.protection.bytes) % s.m

-- the same choice and the same turn as are defined
pub record Agrees (m n : ℕ) (now : BothTurn) (past : List BothTurn) (choice : Choice) (new : SelectorView) : Type 0 where
  pub choice_is : choice ≡ choice_in m n now past
  pub stands : HasChosen m n (now ∷ past) new

choice_of : (side side' : Side) (skip skip' : ℕ) (cause cause' : Option SwitchCause) → side ≡ side' → skip ≡ skip' → cause ≡ cause'
    → ◌≡◌ {A = Choice} (record { side = side; skip = skip; cause = cause }) (record { side = side'; skip = skip'; cause = cause' })
choice_of side side' skip skip' cause cause' e f g = rw (e, f, g) refl

pub next_agrees : (m n : ℕ) (now : BothTurn) (past : List BothTurn) (s : SelectorView) (choice : Choice) (new : SelectorView)
    → HasChosen m n past s → Picks s now choice new → Agrees m n now past choice new
next_agrees m n now past s choice new old turn =
    let up : new.up ≡ min n (turns_up (now ∷ past)) = turn.up ∙ rw (old.waits, old.up) (up_counted n (turns_up past) (is_up now.working.state)) in
    let before = selection m n past in
    let cause : choice.cause ≡ cause_in n before.side now past = turn.cause ∙ rw (old.waits, up, old.side) (cause_is n before.side now past) in
    let side : choice.side ≡ side_by before.side (cause_in n before.side now past) = turn.side ∙ rw (old.side, cause) refl in
    let chosen = side_by before.side (cause_in n before.side now past) in
    let emitted : number_by choice.side s.working s.protection ≡ emitted_by_side chosen past % m = rw (side, old.working, old.protection) (came_is m chosen past) in
    let bytes : number_by choice.side now.working.bytes now.protection.bytes ≡ (of_side chosen now).bytes = rw side (bytes_is chosen now) in
    let to_skip : turn.to_skip ≡ to_skip_in m (emitted_by_side chosen past) (cause_in n before.side now past) before =
    turn.to_skip_is ∙ rw (emitted, old.slots, cause, old.to_skip, old.due) (to_skip_is m chosen past (cause_in n before.side now past) before) in
    let skip : choice.skip ≡ (choice_in m n now past).skip = turn.skip ∙ rw (to_skip, bytes) refl in
    record {
      choice_is = choice_of choice.side chosen choice.skip _ choice.cause _ side skip cause;
      stands = record {
        slots = turn.m ∙ old.slots;
        waits = turn.n ∙ old.waits;
        up = up;
        side = turn.side_new ∙ side ∙ rw (selection_next m n now past) refl;
        to_skip = turn.skip_new ∙ rw (to_skip, skip, selection_next m n now past) refl;
        due = turn.due ∙ rw (old.due, old.slots, bytes, skip, selection_next m n now past) (mod-add-mod before.due m ((of_side chosen now).bytes - (choice_in m n now past).skip));
        working = turn.working ∙ rw (old.working, old.slots) (mod-add-mod (emitted_by_side Working past) m now.working.bytes);
        protection = turn.protection ∙ rw (old.protection, old.slots) (mod-add-mod (emitted_by_side Protection past) m now.protection.bytes);
      };
    }

-- ---- what holds of every selector

came_below : (m : ℕ) (side : Side) (s : SelectorView) → s.working < m → s.protection < m → emitted_modulo side s < m
came_below m Working s w p = w
came_below m Protection s w p = p

-- what is to be skipped is less than a group, and with it what was given on and what came are alike
pub record FitsBefore (s : SelectorView) (emitted skip : ℕ) : Type 0 where
  pub low : skip < s.m
  pub aligned : s.due % s.m ≡ (emitted + skip) % s.m

fits_by : (s : SelectorView) (side : Side) (cause : Option SwitchCause) → IsSelector s → side ≡ side_by s.side cause
    → FitsBefore s (emitted_modulo side s) (to_skip_by s.m (emitted_modulo side s) cause s.skip s.due)
fits_by s side None is e = record {
  low = is.skip_high;
  aligned = rw e (mod-eq_of_lt is.due_high ∙ is.aligned);
}
fits_by s side (Some cause) is e =
    let pos : 0 < s.m = (let some = is.some in omega arith) in
    let low : emitted_modulo side s % s.m ≡ emitted_modulo side s = mod-eq_of_lt (came_below s.m side s is.working_high is.protection_high) in
    record {
      low = mod-lt (s.due + (s.m - emitted_modulo side s)) pos;
      aligned = aligned_at_switch s.m (emitted_modulo side s) s.due pos ∙ rw low refl;
    }

-- what came of a side, with one turn more
came_next : (m : ℕ) (side : Side) (w p wb pb w' p' : ℕ) → w' ≡ (w + wb) % m → p' ≡ (p + pb) % m
    → number_by side w' p' ≡ (number_by side w p + number_by side wb pb) % m
came_next m Working w p wb pb w' p' e f = e
came_next m Protection w p wb pb w' p' e f = f

up_bound : (n up : ℕ) (is : Bool) → cond is (min n (up + 1)) 0 ≤ n
up_bound n up true = omega arith
up_bound n up false = omega arith

fits_in : (s : SelectorView) (now : BothTurn) (choice : Choice) (new : SelectorView) → IsSelector s → (turn : Picks s now choice new)
    → FitsBefore s (emitted_modulo choice.side s) turn.to_skip
fits_in s now choice new is turn = rw turn.to_skip_is (fits_by s choice.side choice.cause is turn.side)

pub stays_selector : (s : SelectorView) (now : BothTurn) (choice : Choice) (new : SelectorView) → IsSelector s → Picks s now choice new → IsSelector new
stays_selector s now choice new is turn =
    let pos : 0 < s.m = (let some = is.some in omega arith) in
    let fits = fits_in s now choice new is turn in
    let low = fits.low in
    let bytes = number_by choice.side now.working.bytes now.protection.bytes in
    let emitted : emitted_modulo choice.side new ≡ (emitted_modulo choice.side s + bytes) % s.m =
    came_next s.m choice.side s.working s.protection now.working.bytes now.protection.bytes new.working new.protection turn.working turn.protection in
    let even = still_aligned s.m (emitted_modulo choice.side s) turn.to_skip s.due bytes fits.aligned in
    record {
      some = rw turn.m is.some;
      few = rw turn.m is.few;
      up_high = rw (turn.up, turn.n) (up_bound s.n s.up (is_up now.working.state));
      skip_high = rw (turn.skip_new, turn.m) (let f : turn.to_skip - choice.skip < s.m = omega arith in f);
      due_high = rw (turn.due, turn.m) (mod-lt (s.due + (bytes - choice.skip)) pos);
      working_high = rw (turn.working, turn.m) (mod-lt (s.working + now.working.bytes) pos);
      protection_high = rw (turn.protection, turn.m) (mod-lt (s.protection + now.protection.bytes) pos);
      aligned = rw (turn.due, turn.m, turn.side_new, emitted, turn.skip_new, turn.skip) (even ∙ sym (mod-add-mod (emitted_modulo choice.side s + bytes) s.m (turn.to_skip - min turn.to_skip bytes)));
    }

pub few_groups : (s : SelectorView) (now : BothTurn) (choice : Choice) (new : SelectorView) → IsSelector s → Picks s now choice new
    → (s.due + ((of_side choice.side now).bytes - choice.skip)) / s.m ≤ (emitted_modulo choice.side s + (of_side choice.side now).bytes) / s.m
few_groups s now choice new is turn =
    let fits = fits_in s now choice new is turn in
    let bytes = number_by choice.side now.working.bytes now.protection.bytes in
    let low = came_below s.m choice.side s is.working_high is.protection_high in
    let even : s.due ≡ (emitted_modulo choice.side s + turn.to_skip) % s.m = sym (mod-eq_of_lt is.due_high) ∙ fits.aligned in
    rw (turn.skip, sym (bytes_is choice.side now)) (no_more_groups s.m (emitted_modulo choice.side s) turn.to_skip s.due bytes low fits.low is.due_high even)

pub skip_low : (to_skip : ℕ) (side : Side) (now : BothTurn) → min to_skip (number_by side now.working.bytes now.protection.bytes) ≤ (of_side side now).bytes
skip_low to_skip side now = rw (bytes_is side now) (omega arith)

-- ---- the laws

-- what is to be skipped is less than a group, and with it what was given on and what came are alike
pub record AlignedIn (m : ℕ) (before : Selection) (emitted skip : ℕ) : Type 0 where
  pub low : skip < m
  pub aligned : before.due % m ≡ (emitted + skip) % m

abbrev AlignedAfter : (m : ℕ) → Selection → List BothTurn → Type 0
AlignedAfter m after past = AlignedIn m after (emitted_by_side after.side past) after.to_skip

aligned_in : (m n : ℕ) (past : List BothTurn) (cause : Option SwitchCause) → 0 < m → AlignedAfter m (selection m n past) past
    → AlignedIn m (selection m n past) (emitted_by_side (side_by (selection m n past).side cause) past) (to_skip_in m (emitted_by_side (side_by (selection m n past).side cause) past) cause (selection m n past))
aligned_in m n past None pos is = record { low = is.low; aligned = is.aligned }
aligned_in m n past (Some cause) pos is = record {
  low = mod-lt ((selection m n past).due + (m - emitted_by_side (other (selection m n past).side) past % m)) pos;
  aligned = aligned_at_switch m (emitted_by_side (other (selection m n past).side) past) (selection m n past).due pos;
}

pub aligned_after : (m n : ℕ) (past : List BothTurn) → 0 < m → AlignedAfter m (selection m n past) past
unfolding selection
aligned_after m n [] pos = record { low = pos; aligned = refl }
aligned_after m n (now ∷ past) pos =
    let before = selection m n past in
    let cause = cause_in n before.side now past in
    let side = side_by before.side cause in
    let is = aligned_in m n past cause pos (aligned_after m n past pos) in
    let to_skip = to_skip_in m (emitted_by_side side past) cause before in
    let bytes = (of_side side now).bytes in
    let low = is.low in
    record {
      low = (let f : to_skip - min to_skip bytes < m = omega arith in f);
      aligned = still_aligned m (emitted_by_side side past) to_skip before.due bytes is.aligned;
    }

pub aligned_law : AreAligned
aligned_law m n past pos = (aligned_after m n past pos).aligned

pub groups_law : CompletesNoMore
groups_law m n most now past pos fits =
    let before = selection m n past in
    let cause = cause_in n before.side now past in
    let side = side_by before.side cause in
    let is = aligned_in m n past cause pos (aligned_after m n past pos) in
    rw (selection_next m n now past) (no_more_in_total m (emitted_by_side side past) (to_skip_in m (emitted_by_side side past) cause before) before.due (of_side side now).bytes most pos is.low is.aligned fits)
