-- What a sink has emitted after some turns of the file of one tributary.
use Rattle.std.proofs.Common.{◌≡◌, ◌≤◌, ◌+◌, ◌-◌, ◌*◌, ◌/◌, ℕ, zero, suc, List, [], ◌∷◌, ◌++◌, length, take, sym, ap, ◌∙◌, subst, refl, arith, None}
use Rattle.std.specs.List.{concat, flat_map, range_with_len}
use Rattle.maintenance_signals.specs.Stream.{signal_byte}
use Rattle.maintenance_signals.specs.declared.signal.Signal.TheVariants.{Ais}
use Rattle.tributary_model.specs.Carriage.{Arrives}
use Rattle.tributary_model.specs.Carries.{IsSteady, cm_in, past_of, sent}
use Rattle.tributary_model.specs.Damage.{emissions}
use Rattle.tributary_model.specs.Emission.{emission}
use Rattle.tributary_model.specs.Passing.{joined_back}
use Rattle.tributary_model.specs.Places.{Tributary}
use Rattle.tributary_model.specs.Puts.{lengths_of}
use Rattle.tributary_model.specs.Sending.{IsSent}
use Rattle.tributary_model.specs.Stretches.{state_after}
use Rattle.tributary_model.specs.declared.turns.SinkState.TheVariants.{Down}
use Rattle.tributary_model.proofs.Intact.{down_without, up_while_carried}
use Rattle.tributary_model.proofs.Passing.{joins_to_whole_groups}
use Rattle.connection_laws.specs.HeldBack.{Comes}
use Rattle.device_model.specs.LineViews.{view_at, views_until, emitted_at}
use Rattle.connection_laws.proofs.HeldBack.{emits_a_front, front_after}
use Rattle.device_model.proofs.LineViews.{whole_at}
use Rattle.tributary_line.specs.TributaryFile.{IsTributaryFile}
use Rattle.tributary_line.proofs.FileTurns.{carries_its_turns, shows_nothing_behind}
use Rattle.unbundle_command.proofs.Turns.{flat_more}

past_views : (own : Tributary) (available : List ℕ) (n : ℕ) → past_of (view_at own available) 0 n ≡ views_until own available n
unfolding views_until
past_views own available zero = refl
past_views own available (suc n) =
    ap (λ past. view_at own available (0 + n) ∷ past) (past_views own available n) ∙ ap (λ k. view_at own available k ∷ views_until own available n) (let e : 0 + n ≡ n = omega arith in e)

emission_of : (own : Tributary) (available : List ℕ) (t : ℕ) → emission own (signal_byte Ais) (past_of (view_at own available) 0 t) (view_at own available (0 + t)) ≡ emitted_at own available t
unfolding emitted_at
emission_of own available t =
    ap (λ past. emission own (signal_byte Ais) past (view_at own available (0 + t))) (past_views own available t)
    ∙ ap (λ k. emission own (signal_byte Ais) (views_until own available t) (view_at own available k)) (let e : 0 + t ≡ t = omega arith in e)

-- what it emits in the first turns, joined
joined_is : (own : Tributary) (available : List ℕ) (t : ℕ) → flat_map (emitted_at own available) (range_with_len 0 t) ≡ joined_back (emissions own (signal_byte Ais) (past_of (view_at own available) 0 t))
joined_is own available zero = refl
joined_is own available (suc t) =
    flat_more (emitted_at own available) t ∙ ap (λ bytes. bytes ++ emitted_at own available t) (joined_is own available t)
    ∙ ap (λ bytes. joined_back (emissions own (signal_byte Ais) (past_of (view_at own available) 0 t)) ++ bytes) (sym (emission_of own available t))

-- In the first turns it is a front of the bytes that were put on it
pub emits_of_file : (b : ℕ) (own : Tributary) (turns frames : List (List ℕ)) (u t : ℕ) → IsSent own → own.line_slots ≡ 8 → 1 ≤ own.port → IsTributaryFile b own turns (8 * (u + 1)) frames
    → u + 1 ≤ length turns → ((i : ℕ) → i ≤ u → cm_in (length own.slots) (lengths_of turns) i ≤ 15232) → t ≤ u + 1
    → flat_map (emitted_at own (concat frames)) (range_with_len 0 t) ≡ take (front_after (length own.slots) (lengths_of turns) t) (concat turns)
emits_of_file b own turns frames u t sends size low file many fits within =
    let comes : Comes own (concat turns) (lengths_of turns) (view_at own (concat frames)) 0 u = record {
      slots = sends.tributary.slots.taken;
      whole = λ k from below. whole_at own (concat frames) k sends.tributary;
      carries = carries_its_turns b own turns frames u sends size low file many fits;
    } in
    joined_is own (concat frames) t ∙ emits_a_front own (signal_byte Ais) (concat turns) (lengths_of turns) (view_at own (concat frames)) 0 u t comes (omega (arith, within))

-- and in steady numbers the turn in which the file ends emits the rest of the whole groups
pub emits_to_the_end : (b : ℕ) (own : Tributary) (turns frames : List (List ℕ)) (u : ℕ) → IsSent own → own.line_slots ≡ 8 → 1 ≤ own.port → IsTributaryFile b own turns (8 * (u + 1)) frames
    → u + 1 ≤ length turns → ((i : ℕ) → i ≤ u → cm_in (length own.slots) (lengths_of turns) i ≤ 15232) → IsSteady (length own.slots) (take (u + 1 - 0) (lengths_of turns))
    → flat_map (emitted_at own (concat frames)) (range_with_len 0 (suc (suc u))) ≡ take (length own.slots * (sent (lengths_of turns) u / length own.slots)) (concat turns)
emits_to_the_end b own turns frames u sends size low file many fits steady =
    let m = length own.slots in
    let p = lengths_of turns in
    let ais = signal_byte Ais in
    let views = view_at own (concat frames) in
    let arrives : Arrives own (concat turns) p views 0 0 0 u = record {
      slots = sends.tributary.slots.taken;
      order = omega arith;
      whole = λ k from below. whole_at own (concat frames) k sends.tributary;
      carries = carries_its_turns b own turns frames u sends size low file many fits;
      steady = steady;
    } in
    let file_here : IsTributaryFile b own turns (own.line_slots * (u + 1)) frames = subst (λ n. IsTributaryFile b own turns (n * (u + 1)) frames) (sym size) file in
    let none : views (0 + suc u) ≡ None = ap views (let e : 0 + suc u ≡ suc u = omega arith in e) ∙ shows_nothing_behind b own turns frames u (omega (arith, size)) file_here in
    let up = up_while_carried own (concat turns) p views 0 u arrives u (omega arith) (omega arith) in
    let down : state_after own (None ∷ past_of views 0 (u + 1 - 0)) ≡ Down = down_without own (past_of views 0 (u + 1 - 0)) up in
    let n : u + 1 - 0 ≡ suc u = omega arith in
    joined_is own (concat frames) (suc (suc u))
    ∙ ap (λ v. joined_back (emissions own ais (v ∷ past_of views 0 (suc u)))) none
    ∙ ap (λ n. joined_back (emissions own ais (None ∷ past_of views 0 n))) (sym n)
    ∙ joins_to_whole_groups own ais (concat turns) p views 0 u None arrives (omega arith) tt down
    ∙ ap (λ k. take (m * (sent p k / m)) (concat turns)) (let e : u - 0 ≡ u = omega arith in e)
