-- The totals of what two lines bring of a tributary, and of what is given on of it.
use Rattle.std.proofs.Common.{◌≡◌, ◌<◌, ◌≤◌, ◌+◌, ◌-◌, ◌/◌, ℕ, zero, suc, List, [], ◌∷◌, ◌++◌, length, refl, ap, sym, subst, ◌∙◌, length-drop, arith}
use Rattle.std.specs.Prelude.{sum}
use Rattle.std.proofs.lemmas.List.{map-append, length-map, take_all}
use Rattle.std.proofs.lemmas.List.Sums.{sum_by-append}
use Rattle.maintenance_signals.specs.Stream.{signal_byte}
use Rattle.maintenance_signals.specs.declared.signal.Signal.TheVariants.{Ais}
use Rattle.tributary_model.specs.Carries.{sent}
use Rattle.tributary_model.specs.Emission.{emission, emitted_so_far}
use Rattle.tributary_model.specs.Laws.{IsTributary}
use Rattle.tributary_model.specs.Places.{Tributary, AreWholeTurns}
use Rattle.tributary_model.specs.Puts.{lengths_of}
use Rattle.tributary_model.proofs.Groups.{total_next, total_start, completes_at_most}
use Rattle.device_model.specs.LineViews.{view_at, views_until, emitted_at}
use Rattle.device_model.proofs.LineViews.{whole_at}
use Rattle.tributary_line.specs.FeedTurn.{Completes}
use Rattle.protect_selector.specs.declared.side.Side.{Side}
use Rattle.protect_selector.specs.declared.side.Side.TheVariants.{Working, Protection}
use Rattle.protect_selector.specs.Selected.{SideTurn, of_side, emitted_by_side, selection}
use Rattle.protect_selector.specs.OfLines.{side_turn, both_turn, turns_before, choice_at, bytes_of, due_at, due_before}
use Rattle.protect_selector.proofs.Turns.{selection_next, selection_start, groups_law}

-- ---- one turn more

pub turns_next : (own : Tributary) (w p : List ℕ) (t : ℕ) → turns_before own w p (suc t) ≡ both_turn own w p t ∷ turns_before own w p t
unfolding turns_before
turns_next own w p t = refl

pub given_next : (own : Tributary) (n : ℕ) (w p : List ℕ) (t : ℕ) → due_before own n w p (suc t) ≡ due_before own n w p t ++ due_at own n w p t ∷ []
unfolding due_before
given_next own n w p t = refl

views_next : (own : Tributary) (available : List ℕ) (t : ℕ) → views_until own available (suc t) ≡ view_at own available t ∷ views_until own available t
unfolding views_until
views_next own available t = refl

emission_at : (own : Tributary) (available : List ℕ) (t : ℕ) → emission own (signal_byte Ais) (views_until own available t) (view_at own available t) ≡ emitted_at own available t
unfolding emitted_at
emission_at own available t = refl

pub side_of : (own : Tributary) (w p : List ℕ) (t : ℕ) (side : Side) → of_side side (both_turn own w p t) ≡ side_turn own (bytes_of side w p) t
side_of own w p t Working = refl
side_of own w p t Protection = refl

-- ---- totals

some_slots : (own : Tributary) → IsTributary own → 0 < length own.slots
some_slots own is = is.slots.taken

-- what came of a side is what its sink emitted
came_total : (own : Tributary) (w p : List ℕ) (side : Side) (t : ℕ) → emitted_by_side side (turns_before own w p t) ≡ emitted_so_far own (signal_byte Ais) (views_until own (bytes_of side w p) t)
unfolding turns_before views_until
came_total own w p side zero = sym (total_start own (signal_byte Ais))
came_total own w p side (suc t) =
    let line = bytes_of side w p in
    let before = came_total own w p side t in
    let now : (of_side side (both_turn own w p t)).bytes ≡ length (emission own (signal_byte Ais) (views_until own line t) (view_at own line t)) =
    ap (λ (turn : SideTurn). turn.bytes) (side_of own w p t side) ∙ ap length (sym (emission_at own line t)) in
    let next = total_next own (signal_byte Ais) (views_until own line t) (view_at own line t) in
    omega arith

whole_until : (own : Tributary) (available : List ℕ) (t : ℕ) → IsTributary own → AreWholeTurns (length own.slots) (views_until own available t)
unfolding views_until
whole_until own available zero is = tt
whole_until own available (suc t) is = (whole_at own available t is, whole_until own available t is)

-- a side completes no more groups in a turn than a multiframe has
few_came : (own : Tributary) (w p : List ℕ) (side : Side) (t : ℕ) → IsTributary own
    → emitted_by_side side (both_turn own w p t ∷ turns_before own w p t) / length own.slots ≤ emitted_by_side side (turns_before own w p t) / length own.slots + 15232
few_came own w p side t is =
    let line = bytes_of side w p in
    let m = length own.slots in
    let some : 1 ≤ m = (let s = some_slots own is in omega arith) in
    let next : emitted_by_side side (both_turn own w p t ∷ turns_before own w p t) ≡ emitted_so_far own (signal_byte Ais) (view_at own line t ∷ views_until own line t) =
    ap (emitted_by_side side) (sym (turns_next own w p t)) ∙ came_total own w p side (suc t) ∙ ap (emitted_so_far own (signal_byte Ais)) (views_next own line t) in
    let bound = completes_at_most m some own (signal_byte Ais) (views_until own line t) (view_at own line t) refl (whole_at own line t is, whole_until own line t is) in
    subst (λ x. x / m ≤ emitted_by_side side (turns_before own w p t) / m + 15232) (sym next)
    (subst (λ x. emitted_so_far own (signal_byte Ais) (view_at own line t ∷ views_until own line t) / m ≤ x / m + 15232) (sym (came_total own w p side t)) bound)

-- how many bytes a turn gives on
given_size : (own : Tributary) (n : ℕ) (w p : List ℕ) (t : ℕ)
    → length (due_at own n w p t) ≡ (of_side (choice_at own n w p t).side (both_turn own w p t)).bytes - (choice_at own n w p t).skip
unfolding due_at
given_size own n w p t =
    let choice = choice_at own n w p t in
    length-drop choice.skip (emitted_at own (bytes_of choice.side w p) t)
    ∙ ap (λ (turn : SideTurn). turn.bytes - choice.skip) (sym (side_of own w p t choice.side))

-- what is given on in all is what the selection counts
pub given_total : (own : Tributary) (n : ℕ) (w p : List ℕ) (t : ℕ) → sum (lengths_of (due_before own n w p t)) ≡ (selection (length own.slots) n (turns_before own w p t)).due
unfolding due_before turns_before choice_at
given_total own n w p zero = rw (selection_start (length own.slots) n) refl
given_total own n w p (suc t) =
    let before = given_total own n w p t in
    let size = given_size own n w p t in
    rw (selection_next (length own.slots) n (both_turn own w p t) (turns_before own w p t))
    (ap sum (map-append length (due_before own n w p t) (due_at own n w p t ∷ []))
    ∙ sum_by-append (λ x. x) (lengths_of (due_before own n w p t)) (length (due_at own n w p t) ∷ [])
    ∙ (let one : sum (length (due_at own n w p t) ∷ []) ≡ length (due_at own n w p t) = omega arith in omega arith))

pub sent_all : (turns : List (List ℕ)) → sent (lengths_of turns) (length turns) ≡ sum (lengths_of turns)
sent_all turns = ap sum (take_all (length turns) (lengths_of turns) (let many : length (lengths_of turns) ≡ length turns = rw length-map refl in omega arith))

-- A turn that is given on completes at most 15,232 groups.
pub completes_on : (own : Tributary) (n : ℕ) (w p : List ℕ) (t : ℕ) → IsTributary own → Completes own (due_before own n w p t) (due_at own n w p t)
unfolding choice_at
completes_on own n w p t is =
    let m = length own.slots in
    let past = turns_before own w p t in
    let now = both_turn own w p t in
    let choice = choice_at own n w p t in
    let law = groups_law m n 15232 now past (some_slots own is) (few_came own w p choice.side t is) in
    let total = sent_all (due_before own n w p t) ∙ given_total own n w p t in
    let next : (selection m n (now ∷ past)).due ≡ (selection m n past).due + length (due_at own n w p t) =
    rw (selection_next m n now past) (let size = given_size own n w p t in omega arith) in
    subst (λ x. (x + length (due_at own n w p t)) / m ≤ x / m + 15232) (sym total) (subst (λ x. x / m ≤ (selection m n past).due / m + 15232) next law)
