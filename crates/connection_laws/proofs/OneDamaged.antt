-- One damaged message changes nothing of what leaves on a connection.
use Rattle.std.proofs.Common.{rules, ◌≡◌, ◌<◌, ◌≤◌, ◌+◌, ◌-◌, ◌∙◌, ℕ, zero, suc, List, [], ◌∷◌, ◌++◌, Option, Some, length, refl, sym, ap, subst, arith}
use Rattle.std.specs.List.{concat}
use Rattle.maintenance_signals.specs.Stream.{signal_byte}
use Rattle.maintenance_signals.specs.declared.signal.Signal.TheVariants.{Ais}
use Rattle.odu_client.specs.ClientOutput.{arriving_text}
use Rattle.otn_base.specs.LineSlots.{LineSlots}
use Rattle.plan_file.specs.declared.connection.Connection.{Connection}
use Rattle.plan_file.specs.declared.connection.FromEnd.TheVariants as from_end
use Rattle.tributary_model.specs.declared.turns.Hearing.TheVariants.{Pair}
use Rattle.tributary_model.specs.Messages.{hears_message}
use Rattle.tributary_model.specs.Carries.{past_of}
use Rattle.tributary_model.specs.Damage.{pair_had, NeverThree, emissions, states}
use Rattle.tributary_model.specs.Emission.{emission}
use Rattle.tributary_model.specs.Places.{Tributary, tributary_of, View}
use Rattle.tributary_model.specs.Stretches.{course, state_after}
use Rattle.tributary_model.proofs.OneDamaged.{as_if_repeated}
use Rattle.device_model.specs.Entries.{first_turn}
use Rattle.device_model.specs.LineViews.{view_at}
use Rattle.connection_laws.specs.OneDamaged.{DifferInOneMessage, AgreeButForOne, LeavesAlikeInItsTurns}
use Rattle.device_model.specs.Through.{Inputs, own_of, own_input, emits, got_in, got_by, sink_state, state_by, state_in}
use Rattle.connection_laws.proofs.GotTurns.{emits_line}

-- ---- two lists of views

-- the views of k turns behind turn i + 1, the last first
behind : (ℕ → Option View) → (i k : ℕ) → List (Option View)
behind views i zero = []
behind views i (suc k) = views (i + suc k) ∷ behind views i k

-- what is known of the other list
other_calm : (own : Tributary) (one other : ℕ → Option View) (s e i : ℕ) → DifferInOneMessage own one other s e i → NeverThree own (past_of other s (e - s))
other_calm own one other s e i d = search rules

repeats : (own : Tributary) (one other : ℕ → Option View) (s e i : ℕ) → (d : DifferInOneMessage own one other s e i) → hears_message (Some d.cm) (length own.slots) d.said ≡ Pair d.cm d.cnd d.equal
repeats own one other s e i d = search rules

same_at : (own : Tributary) (one other : ℕ → Option View) (s e i t : ℕ) → DifferInOneMessage own one other s e i → s ≤ t → t < e → (t ≡ i → ⊥) → one t ≡ other t
same_at own one other s e i t d low less not = search rules

-- the turns before are the same
same_before : (own : Tributary) (one other : ℕ → Option View) (s e i n : ℕ) → DifferInOneMessage own one other s e i → s + n ≤ i → past_of one s n ≡ past_of other s n
same_before own one other s e i zero d h = refl
same_before own one other s e i (suc n) d h =
    let less = d.turn.1 in
    ap (λ v. v ∷ past_of one s n) (same_at own one other s e i (s + n) d (omega arith) (omega arith) (λ q. omega arith)) ∙ ap (λ past. other (s + n) ∷ past) (same_before own one other s e i n d (omega arith))

same_behind : (own : Tributary) (one other : ℕ → Option View) (s e i k : ℕ) → DifferInOneMessage own one other s e i → i + k < e → behind one i k ≡ behind other i k
unfolding behind
same_behind own one other s e i zero d h = refl
same_behind own one other s e i (suc k) d h =
    let low = d.turn.0 in
    ap (λ v. v ∷ behind one i k) (same_at own one other s e i (i + suc k) d (omega arith) (omega arith) (λ q. omega arith)) ∙ ap (λ past. other (i + suc k) ∷ past) (same_behind own one other s e i k d (omega arith))

split_at : (views : ℕ → Option View) (s n k : ℕ) → past_of views s (n + suc k) ≡ behind views (s + n) k ++ (views (s + n) ∷ past_of views s n)
unfolding behind
split_at views s n zero = ap (past_of views s) (let e : n + suc zero ≡ suc n = omega arith in e)
split_at views s n (suc k) =
    ap (past_of views s) (let e : n + suc (suc k) ≡ suc (n + suc k) = omega arith in e)
    ∙ ap (λ t. views t ∷ past_of views s (n + suc k)) (let e : s + (n + suc k) ≡ s + n + suc k = omega arith in e)
    ∙ ap (λ past. views (s + n + suc k) ∷ past) (split_at views s n k)

-- what a sink emits in all of the turns, and how it stands after each
abbrev SameAfter : Tributary → (one other : ℕ → Option View) → (s n : ℕ) → Type 0
SameAfter own one other s n = (emissions own (signal_byte Ais) (past_of one s n) ≡ emissions own (signal_byte Ais) (past_of other s n)) × (states own (past_of one s n) ≡ states own (past_of other s n))

-- turn i + 1 is turn s + n + 1, and k turns follow it
same_whole : (own : Tributary) (one other : ℕ → Option View) (s e n k : ℕ) → DifferInOneMessage own one other s e (s + n) → s + (n + suc k) ≡ e → SameAfter own one other s (n + suc k)
same_whole own one other s e n k d all =
    let i = s + n in
    let later = behind one i k in
    let past = past_of one s n in
    let there = record d.view { message = d.said } in
    let count : e - s ≡ n + suc k = omega arith in
    let before : i - s ≡ n = omega arith in
    let first : past_of one s (n + suc k) ≡ later ++ (Some d.view ∷ past) = split_at one s n k ∙ ap (λ v. later ++ (v ∷ past)) d.here in
    let second : past_of other s (n + suc k) ≡ later ++ (Some there ∷ past)
    = split_at other s n k
    ∙ ap (λ xs. xs ++ (other i ∷ past_of other s n)) (sym (same_behind own one other s e i k d (omega arith)))
    ∙ ap (λ xs. later ++ (other i ∷ xs)) (sym (same_before own one other s e i n d (omega arith)))
    ∙ ap (λ v. later ++ (v ∷ past)) d.there in
    let law = as_if_repeated own (signal_byte Ais) past later d.view d.said d.cm d.cnd d.equal (subst (λ n. pair_had (course own (past_of one s n)) ≡ Some (d.cm, d.cnd)) before d.had) d.damaged (repeats own one other s e i d)
    (subst (NeverThree own) (ap (past_of one s) count ∙ first) d.one_calm) (subst (NeverThree own) (ap (past_of other s) count ∙ second) (other_calm own one other s e i d)) in (
      ap (emissions own (signal_byte Ais)) first ∙ law.0 ∙ sym (ap (emissions own (signal_byte Ais)) second),
      ap (states own) first ∙ law.1 ∙ sym (ap (states own) second),
    )

-- ---- turn by turn

-- one turn fewer
tails : (own : Tributary) (one other : ℕ → Option View) (s n : ℕ) → SameAfter own one other s (suc n) → SameAfter own one other s n
tails own one other s n same =
    let emitted : emissions own (signal_byte Ais) (past_of one s n) ≡ emissions own (signal_byte Ais) (past_of other s n) = let all = same.0 in cc in
    let stands : states own (past_of one s n) ≡ states own (past_of other s n) = let all = same.1 in cc in
    (emitted, stands)

fewer : (own : Tributary) (one other : ℕ → Option View) (s n k : ℕ) → SameAfter own one other s (n + k) → SameAfter own one other s n
fewer own one other s n zero same = subst (SameAfter own one other s) (let e : n + zero ≡ n = omega arith in e) same
fewer own one other s n (suc k) same = fewer own one other s n k (tails own one other s (n + k) (subst (SameAfter own one other s) (let e : n + suc k ≡ suc (n + k) = omega arith in e) same))

same_by : (own : Tributary) (one other : ℕ → Option View) (s e i n : ℕ) → DifferInOneMessage own one other s e i → s + n ≤ e → SameAfter own one other s n
same_by own one other s e i n d high =
    let low = d.turn.0 in
    let less = d.turn.1 in
    let at = i - s in
    let k = e - i - 1 in
    let place : i ≡ s + at = omega arith in
    let all = same_whole own one other s e at k (subst (DifferInOneMessage own one other s e) place d) (omega arith) in
    fewer own one other s n (at + suc k - n) (subst (SameAfter own one other s) (let q : at + suc k ≡ n + (at + suc k - n) = omega arith in q) all)

same_emission : (own : Tributary) (one other : ℕ → Option View) (s e i n : ℕ) → DifferInOneMessage own one other s e i → s + n < e
    → emission own (signal_byte Ais) (past_of one s n) (one (s + n)) ≡ emission own (signal_byte Ais) (past_of other s n) (other (s + n))
same_emission own one other s e i n d high = let all = (same_by own one other s e i (suc n) d (omega arith)).0 in cc

same_state : (own : Tributary) (one other : ℕ → Option View) (s e i n : ℕ) → DifferInOneMessage own one other s e i → s + n ≤ e → state_after own (past_of one s n) ≡ state_after own (past_of other s n)
same_state own one other s e i zero d high = refl
same_state own one other s e i (suc n) d high = let all = (same_by own one other s e i (suc n) d high).1 in cc

-- ---- what leaves

emits_alike : (one other : Inputs) (x : Connection) (j : ℕ) → AgreeButForOne one other x → first_turn x + j < x.stop → emits x (own_input one x) j ≡ emits x (own_input other x) j
emits_alike one other x j g h =
    let own = tributary_of g.slots g.port in
    emits_line x one g.line g.port j g.slots g.comes
    ∙ same_emission own (view_at own (one.line g.line)) (view_at own (other.line g.line)) (first_turn x) x.stop g.turn j g.differ h
    ∙ sym (emits_line x other g.line g.port j g.slots g.comes)

state_line : (x : Connection) (inputs : Inputs) (a port n : ℕ) (slots : LineSlots) → x.from ≡ from_end.Line a port slots
    → state_in x (own_input inputs x) n ≡ sink_state (state_after (tributary_of slots port) (past_of (view_at (tributary_of slots port) (inputs.line a)) (first_turn x) n))
state_line x inputs a port n slots e = ap (λ f. state_by f x (own_of inputs f) n) e

state_alike : (one other : Inputs) (x : Connection) (n : ℕ) → AgreeButForOne one other x → first_turn x + n ≤ x.stop → state_in x (own_input one x) n ≡ state_in x (own_input other x) n
state_alike one other x n g h =
    let own = tributary_of g.slots g.port in
    state_line x one g.line g.port n g.slots g.comes
    ∙ ap sink_state (same_state own (view_at own (one.line g.line)) (view_at own (other.line g.line)) (first_turn x) x.stop g.turn n g.differ h)
    ∙ sym (state_line x other g.line g.port n g.slots g.comes)

got_alike : (one other : Inputs) (x : Connection) (n : ℕ) → AgreeButForOne one other x → first_turn x + n ≤ x.stop → got_by x (own_input one x) n ≡ got_by x (own_input other x) n
unfolding got_by
got_alike one other x zero g h = refl
got_alike one other x (suc n) g h =
    ap (λ got. got ++ got_in x (own_input one x) n ∷ []) (got_alike one other x n g (omega arith)) ∙ ap (λ l. got_by x (own_input other x) n ++ l ∷ []) (turn n (omega arith))
  where
    turn : (n : ℕ) → first_turn x + n ≤ x.stop → got_in x (own_input one x) n ≡ got_in x (own_input other x) n
    turn zero h = refl
    turn (suc j) h = emits_alike one other x j g (omega arith)

pub leaves_as_if_repeated : (one other : Inputs) (x : Connection) → AgreeButForOne one other x → LeavesAlikeInItsTurns x (own_input one x) (own_input other x)
leaves_as_if_repeated one other x g = record {
  emitted = λ j h. emits_alike one other x j g h;
  got = λ n h. got_alike one other x n g h;
  arrived = λ n h. ap concat (got_alike one other x n g h);
  text = λ n h. ap (λ got. arriving_text (concat got)) (got_alike one other x n g h);
  state = λ n h. state_alike one other x n g h;
}
