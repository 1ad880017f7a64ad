-- What leaves on a connection is fixed by what its own input shows.
use Rattle.std.proofs.Common.{rules, ◌≡◌, ℕ, zero, suc, ◌+◌, ◌-◌, ◌∷◌, ◌++◌, [], Option, None, Some, refl, sym, ap, ◌∙◌}
use Rattle.std.specs.List.{concat, Contains}
use Rattle.std.specs.Prelude.{if◌then◌else◌, ◌==◌, length}
use Rattle.std.proofs.lemmas.Option.{slice_get_read}
use Rattle.maintenance_signals.specs.Stream.{signal_byte}
use Rattle.maintenance_signals.specs.declared.signal.Signal.TheVariants.{Ais}
use Rattle.odu_client.specs.ClientOutput.{arriving_text}
use Rattle.plan_file.specs.Answer.{fault_in}
use Rattle.plan_file.specs.declared.connection.Connection.{Connection}
use Rattle.plan_file.specs.declared.connection.FromEnd.{FromEnd}
use Rattle.plan_file.specs.declared.connection.FromEnd.TheVariants as from_end
use Rattle.plan_file.specs.declared.plan.Plan.{Plan}
use Rattle.tributary_model.specs.Carries.{past_of}
use Rattle.tributary_model.specs.Emission.{emission}
use Rattle.tributary_model.specs.Places.{View, tributary_of}
use Rattle.tributary_model.specs.Stretches.{state_after}
use Rattle.tributary_model.proofs.OnLine.{is_tributary}
use Rattle.device_model.specs.Entries.{first_turn}
use Rattle.device_model.specs.Moments.{turns_done, client_due}
use Rattle.device_model.specs.Numbers.{last_state}
use Rattle.device_model.specs.SoundPlans.{IsSoundEntry}
use Rattle.device_model.specs.Through.{Inputs, OwnInput, own_input, of_line, of_client, of_signal, own_of, emits_by, emits, got_in, got_by, sink_state, state_by, text_by, arrived_by, state_in}
use Rattle.connection_laws.specs.TwoWorlds.{SameInput, AgreeOnEnd, LeavesAlike}
use Rattle.device_model.proofs.LineViews.{same_view}
use Rattle.device_model.proofs.SoundPlans.{sound_plan}

-- ---- what is emitted

-- what the agreements say
at_turn : (shows others : ℕ → Option View) (t : ℕ) → SameInput (of_line shows) (of_line others) → shows t ≡ others t
at_turn shows others t same = search rules

of_one_client : (n : ℕ) (one other : Inputs) → AgreeOnEnd (from_end.Client n) one other → one.client n ≡ other.client n
of_one_client n one other agree = search rules

same_past : (shows others : ℕ → Option View) (s n : ℕ) → ((t : ℕ) → shows t ≡ others t) → past_of shows s n ≡ past_of others s n
same_past shows others s zero same = refl
same_past shows others s (suc n) same = ap (λ v. v ∷ past_of shows s n) (same (s + n)) ∙ ap (λ past. others (s + n) ∷ past) (same_past shows others s n same)

same_emits_by : (from : FromEnd) (x : Connection) (one other : OwnInput) (n : ℕ) → SameInput one other → emits_by from x one n ≡ emits_by from x other n
same_emits_by (from_end.Line a port slots) x (of_line shows) (of_line others) n same =
    ap (λ past. emission (tributary_of slots port) (signal_byte Ais) past (shows (first_turn x + n))) (same_past shows others (first_turn x) n (λ t. at_turn shows others t same))
    ∙ ap (λ v. emission (tributary_of slots port) (signal_byte Ais) (past_of others (first_turn x) n) v) (at_turn shows others (first_turn x + n) same)
same_emits_by (from_end.Client m) x (of_line shows) (of_line others) n same = refl
same_emits_by (from_end.Signal signal) x (of_line shows) (of_line others) n same = refl
same_emits_by from x (of_client one) (of_client other) n same = ap (λ input. emits_by from x (of_client input) n) same
same_emits_by from x of_signal of_signal n same = refl
same_emits_by from x (of_line shows) (of_client other) n same = absurd same
same_emits_by from x (of_line shows) of_signal n same = absurd same
same_emits_by from x (of_client one) (of_line others) n same = absurd same
same_emits_by from x (of_client one) of_signal n same = absurd same
same_emits_by from x of_signal (of_line others) n same = absurd same
same_emits_by from x of_signal (of_client other) n same = absurd same

pub same_emits : (x : Connection) (one other : OwnInput) (n : ℕ) → SameInput one other → emits x one n ≡ emits x other n
unfolding emits
same_emits x one other n same = same_emits_by x.from x one other n same

-- ---- what is got

same_got_in : (x : Connection) (one other : OwnInput) (n : ℕ) → SameInput one other → got_in x one n ≡ got_in x other n
same_got_in x one other zero same = refl
same_got_in x one other (suc n) same = same_emits x one other n same

pub same_got : (x : Connection) (one other : OwnInput) (n : ℕ) → SameInput one other → got_by x one n ≡ got_by x other n
unfolding got_by
same_got x one other zero same = refl
same_got x one other (suc n) same =
    ap (λ g. g ++ got_in x one n ∷ []) (same_got x one other n same) ∙ ap (λ l. got_by x other n ++ l ∷ []) (same_got_in x one other n same)

-- ---- how the from end stands

same_state_by : (from : FromEnd) (x : Connection) (one other : OwnInput) (n : ℕ) → SameInput one other → state_by from x one n ≡ state_by from x other n
same_state_by (from_end.Line a port slots) x (of_line shows) (of_line others) n same =
    ap (λ past. sink_state (state_after (tributary_of slots port) past)) (same_past shows others (first_turn x) n (λ t. at_turn shows others t same))
same_state_by (from_end.Client m) x (of_line shows) (of_line others) n same = refl
same_state_by (from_end.Signal signal) x (of_line shows) (of_line others) n same = refl
same_state_by from x (of_client one) (of_client other) n same = ap (λ input. state_by from x (of_client input) n) same
same_state_by from x of_signal of_signal n same = refl
same_state_by from x (of_line shows) (of_client other) n same = absurd same
same_state_by from x (of_line shows) of_signal n same = absurd same
same_state_by from x (of_client one) (of_line others) n same = absurd same
same_state_by from x (of_client one) of_signal n same = absurd same
same_state_by from x of_signal (of_line others) n same = absurd same
same_state_by from x of_signal (of_client other) n same = absurd same

same_state : (x : Connection) (one other : OwnInput) (n : ℕ) → SameInput one other → state_in x one n ≡ state_in x other n
same_state x one other n same = same_state_by x.from x one other n same

-- ---- what leaves

same_arrived : (x : Connection) (one other : OwnInput) (n : ℕ) → SameInput one other → arrived_by x one n ≡ arrived_by x other n
same_arrived x one other n same = ap concat (same_got x one other n same)

same_text : (x : Connection) (one other : OwnInput) (n : ℕ) → SameInput one other → text_by x one n ≡ text_by x other n
same_text x one other n same = ap arriving_text (same_arrived x one other n same)

pub leaves_the_same : (x : Connection) (one other : OwnInput) (n : ℕ) → SameInput one other → LeavesAlike x one other n
leaves_the_same x one other n same = record {
  emitted = search (rules, same_emits);
  got = search (rules, same_got);
  arrived = search (rules, same_arrived);
  text = search (rules, same_text);
  state = search (rules, same_state);
}

pub owes_the_same : (x : Connection) (one other : OwnInput) (past pieces : ℕ) → SameInput one other → client_due x one past pieces ≡ client_due x other past pieces
owes_the_same x one other past pieces same = same_text x one other (turns_done x past pieces) same

pub reports_the_same : (x : Connection) (one other : OwnInput) (turns : ℕ) → SameInput one other → last_state turns x one ≡ last_state turns x other
reports_the_same x one other turns same = ap (λ s. if x.stop == turns then Some s else None) (same_state x one other (turns - first_turn x) same)

-- ---- the own input

-- a connection of an accepted plan is sound
pub sound_of : (plan : Plan) (x : Connection) → fault_in plan ≡ None → Contains plan.connections x → IsSoundEntry plan x
sound_of plan x accepted has =
    let sound = sound_plan plan accepted in
    sound.entries has.0 x (slice_get_read plan.connections (length plan.connections) has.0 x refl has.1 (sym has.2))

same_of : (plan : Plan) (x : Connection) (from : FromEnd) (one other : Inputs) → IsSoundEntry plan x → x.from ≡ from → AgreeOnEnd from one other → SameInput (own_of one from) (own_of other from)
same_of plan x (from_end.Line a port slots) one other sound e agree =
    let end = sound.from_line a port slots e in
    let own = is_tributary slots port end.list in
    λ t. search (rules, same_view)
same_of plan x (from_end.Client n) one other sound e agree = of_one_client n one other agree
same_of plan x (from_end.Signal signal) one other sound e agree = tt

pub gives_the_same_input : (plan : Plan) (x : Connection) (one other : Inputs) → fault_in plan ≡ None → Contains plan.connections x → AgreeOnEnd x.from one other → SameInput (own_input one x) (own_input other x)
gives_the_same_input plan x one other accepted has agree = same_of plan x x.from one other (sound_of plan x accepted has) refl agree
