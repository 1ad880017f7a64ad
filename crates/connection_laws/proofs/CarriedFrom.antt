-- A connection from a client or a signal carries what it gets.
use Rattle.std.proofs.Common.{rules, ◌≡◌, ◌<◌, ◌≤◌, inl, inr, ◌+◌, ◌-◌, ◌*◌, ◌/◌, ◌%◌, ℕ, zero, suc, Bool, List, [], ◌∷◌, ◌++◌, length, map, take, get_or, refl, sym, ap, ◌∙◌, subst, arith, add-one, Some}
use Rattle.std.specs.Prelude.{All, slice_get}
use Rattle.std.specs.List.{concat, range_with_len}
use Rattle.std.proofs.lemmas.List.{length-take-le, length-drop, map-append}
use Rattle.std.proofs.lemmas.List.Elements.{All-nil, All-cons}
use Rattle.std.proofs.lemmas.List.FromFn.{length-map-range_with_len, get_or-map-range_with_len, take-map-range_with_len, map-range_with_len_more}
use Rattle.std.proofs.lemmas.List.Sums.{sum_by_more}
use Rattle.std.proofs.lemmas.Option.{slice_get-get_or}
use Rattle.std.proofs.Math.Nat.{mod-lt, mul-add-div}
use Rattle.maintenance_signals.specs.Stream.{signal_byte, signal_bytes}
use Rattle.maintenance_signals.specs.declared.signal.Signal.{Signal}
use Rattle.odu_client.specs.ClientFrames.{client_frames, client_stream, frames_begun}
use Rattle.odu_client.specs.ClientInput.{pace_of, emitted_before, input_emits}
use Rattle.odu_client.proofs.FrameLists.{joined_size}
use Rattle.plan_file.specs.declared.connection.Connection.{Connection}
use Rattle.plan_file.specs.declared.connection.FromEnd.TheVariants as from_end
use Rattle.tributary_model.specs.Carriage.{Arrives}
use Rattle.tributary_model.specs.Carries.{sent, cm_in, IsSteady}
use Rattle.tributary_model.specs.Places.{tributary_of, turn_view}
use Rattle.tributary_model.specs.Puts.{lengths_of}
use Rattle.tributary_model.specs.Sending.{ShowsTurn, Sends}
use Rattle.tributary_model.proofs.OnLine.{is_sent}
use Rattle.tributary_model.proofs.PutOn.{arrives_as_it_is_put}
use Rattle.tributary_model.proofs.Totals.{div_up}
use Rattle.connection_laws.specs.Carried.{HasPaces, numbers_got, GoesTo, IsMadeTo}
use Rattle.device_model.specs.Entries.{first_turn}
use Rattle.device_model.specs.LineViews.{view_at}
use Rattle.device_model.specs.Through.{Inputs, OwnInput, own_of, own_input, emits_by, emits, got_by, arrived_by}
use Rattle.connection_laws.proofs.Carried.{turn_frames, shown}
use Rattle.connection_laws.proofs.GotTurns.{many_got, first_got}
use Rattle.plan_file.specs.declared.plan.Plan.{Plan}
use Rattle.otn_base.specs.LineSlots.{LineSlots}

-- ---- its paces

known_pace : (paces : List ℕ) (j : ℕ) → 1 ≤ length paces → slice_get paces (j % length paces) ≡ Some (pace_of paces j)
known_pace paces j some = slice_get-get_or paces (j % length paces) 0 (mod-lt j (omega arith))

least_pace : (m : ℕ) (paces : List ℕ) (i pace : ℕ) → HasPaces m paces → slice_get paces i ≡ Some pace → m ≤ pace
least_pace m paces i pace has known = search rules

most_pace : (m : ℕ) (paces : List ℕ) (i pace : ℕ) → HasPaces m paces → slice_get paces i ≡ Some pace → pace ≤ m * 15232
most_pace m paces i pace has known = search rules

pace_bounds : (m : ℕ) (paces : List ℕ) (j : ℕ) → HasPaces m paces → (m ≤ pace_of paces j) × (pace_of paces j ≤ m * 15232)
pace_bounds m paces j has =
    let known = known_pace paces j has.some in
    (least_pace m paces (j % length paces) (pace_of paces j) has known, most_pace m paces (j % length paces) (pace_of paces j) has known)

all_least : (m : ℕ) (paces : List ℕ) (a n : ℕ) → HasPaces m paces → All (λ x. m ≤ x) (map (pace_of paces) (range_with_len a n))
all_least m paces a zero has = All-nil (λ x. m ≤ x)
all_least m paces a (suc n) has = All-cons (λ x. m ≤ x) (pace_of paces a) (map (pace_of paces) (range_with_len (a + 1) n)) (pace_bounds m paces a has).0 (all_least m paces (a + 1) n has)

all_steady : (m : ℕ) (p : List ℕ) → All (λ x. m ≤ x) p → IsSteady m p
all_steady m [] h = tt
all_steady m (x ∷ p) h = inr h

steady_got : (m : ℕ) (paces : List ℕ) (n k : ℕ) → HasPaces m paces → k ≤ n + 1 → IsSteady m (take k (numbers_got paces n))
steady_got m paces n zero has h = tt
steady_got m paces n (suc k) has h =
    inl (refl, subst (IsSteady m) (sym (take-map-range_with_len (pace_of paces) 0 n k (omega arith))) (all_steady m (map (pace_of paces) (range_with_len 0 k)) (all_least m paces 0 k has)))

-- ---- its numbers fit

number_got : (m : ℕ) (paces : List ℕ) (n i : ℕ) → HasPaces m paces → i ≤ n → get_or (numbers_got paces n) i 0 ≤ m * 15232
number_got m paces n zero has h = omega arith
number_got m paces n (suc i) has h =
    let is : get_or (map (pace_of paces) (range_with_len 0 n)) i 0 ≡ pace_of paces i = get_or-map-range_with_len (pace_of paces) 0 n i i 0 (omega arith) (omega arith) in
    let most = (pace_bounds m paces i has).1 in
    omega arith

few_in : (m a b : ℕ) → 0 < m → b ≤ a + m * 15232 → b / m - a / m ≤ 15232
few_in m a b some h =
    let up : b / m ≤ (m * 15232 + a) / m = div_up m b (m * 15232 + a) some (omega arith) in
    let parts = mul-add-div some 15232 a in
    omega arith

fits_got : (m : ℕ) (paces : List ℕ) (n i : ℕ) → 0 < m → HasPaces m paces → i ≤ n → cm_in m (numbers_got paces n) i ≤ 15232
fits_got m paces n i some has h =
    let p = numbers_got paces n in
    let long = length-map-range_with_len (pace_of paces) 0 n in
    let next = sum_by_more (λ k. k) p i 0 (omega arith) in
    let most = number_got m paces n i has h in
    few_in m (sent p i) (sent p (i + 1)) some (omega arith)

-- ---- what it gets

lengths_got : (x : Connection) (input : OwnInput) (n : ℕ) → ((i : ℕ) → length (emits x input i) ≡ pace_of x.pace i) → lengths_of (got_by x input (suc n)) ≡ numbers_got x.pace n
unfolding got_by
lengths_got x input zero h = refl
lengths_got x input (suc n) h =
    map-append length (got_by x input (suc n)) (emits x input n ∷ [])
    ∙ ap (λ l. l ++ length (emits x input n) ∷ []) (lengths_got x input n h)
    ∙ ap (λ k. numbers_got x.pace n ++ k ∷ []) (h n)
    ∙ ap (λ l. 0 ∷ l) (sym (map-range_with_len_more (pace_of x.pace) 0 n n (omega arith)))
    ∙ ap (numbers_got x.pace) (add-one n)

gets : (x : Connection) → ((inputs : Inputs) (i : ℕ) → length (emits x (own_input inputs x) i) ≡ pace_of x.pace i) → (plan : Plan) (inputs : Inputs) (b port u n : ℕ) (slots : LineSlots) (frames : List (List ℕ))
    → GoesTo plan x b port slots → HasPaces (length slots.list) x.pace → IsMadeTo plan inputs x b u frames → u ≤ first_turn x + n
    → Arrives (tributary_of slots port) (arrived_by x (own_input inputs x) (n + 1)) (numbers_got x.pace n) (view_at (tributary_of slots port) (concat frames)) (first_turn x) (first_turn x) (first_turn x) u
unfolding view_at
gets x h plan inputs b port u n slots frames goes has made high =
    let s = first_turn x in
    let own = tributary_of slots port in
    let m = length slots.list in
    let input = own_input inputs x in
    let turns = got_by x input (n + 1) in
    let some = goes.end.list.taken in
    let many = many_got x input (n + 1) in
    let lengths : lengths_of turns ≡ numbers_got x.pace n = ap (λ k. lengths_of (got_by x input k)) (add-one n) ∙ lengths_got x input n (h inputs) in
    let sends : Sends own turns (turn_frames own (concat frames)) s u = record {
      own_is = is_sent slots port goes.end.list;
      enough = omega arith;
      fits = λ i l. subst (λ p. cm_in m p i ≤ 15232) (sym lengths) (fits_got m x.pace n i some has (omega arith));
      each = λ t low below.
          let seen = shown plan inputs x b port u t slots frames goes made low below in
          let same : got_by x input (t - s + 1) ≡ take (t + 1 - s) turns = ap (got_by x input) (let e : t - s + 1 ≡ t + 1 - s = omega arith in e) ∙ sym (first_got x input (n + 1) (t + 1 - s) (omega arith)) in
          (seen.0, (seen.1.0, subst (λ g. ShowsTurn own g (t - s) seen.0) same seen.1.1));
    } in
    let steady : IsSteady m (take (u + 1 - s) (lengths_of turns)) = subst (λ p. IsSteady m (take (u + 1 - s) p)) (sym lengths) (steady_got m x.pace n (u + 1 - s) has (omega arith)) in
    subst (λ p. Arrives own (concat turns) p (λ t. turn_view own (turn_frames own (concat frames) t)) s s s u) lengths (arrives_as_it_is_put own turns (turn_frames own (concat frames)) s u sends steady)

-- ---- from a client

frames_long : (sapi : List ℕ) (n : ℕ) (available : List ℕ) → length (take n (concat (client_frames sapi (frames_begun n) available))) ≡ n
frames_long sapi n available = let all = joined_size sapi (frames_begun n) available in length-take-le n (concat (client_frames sapi (frames_begun n) available)) (omega arith)

pub stream_long : (sapi : List ℕ) (packets : List (List ℕ)) (fcs : Bool) (n : ℕ) → length (client_stream sapi packets fcs n) ≡ n
unfolding client_stream
stream_long sapi packets fcs n = frames_long sapi n _

client_pace : (inputs : Inputs) (x : Connection) (client i : ℕ) → x.from ≡ from_end.Client client → length (emits x (own_input inputs x) i) ≡ pace_of x.pace i
unfolding emits input_emits
client_pace inputs x client i e =
    let packets = (inputs.client client).packets in
    let from = emitted_before x.pace i in
    let long = stream_long x.trace packets x.fcs (from + pace_of x.pace i) in
    ap (λ f. length (emits_by f x (own_of inputs f) i)) e ∙ length-drop from (client_stream x.trace packets x.fcs (from + pace_of x.pace i)) ∙ omega arith

pub carries_a_client : (x : Connection) (client : ℕ) → x.from ≡ from_end.Client client → (plan : Plan) (inputs : Inputs) (b port u n : ℕ) (slots : LineSlots) (frames : List (List ℕ))
    → GoesTo plan x b port slots → HasPaces (length slots.list) x.pace → IsMadeTo plan inputs x b u frames → u ≤ first_turn x + n
    → Arrives (tributary_of slots port) (arrived_by x (own_input inputs x) (n + 1)) (numbers_got x.pace n) (view_at (tributary_of slots port) (concat frames)) (first_turn x) (first_turn x) (first_turn x) u
carries_a_client x client e = gets x (λ inputs i. client_pace inputs x client i e)

-- ---- from a signal

signal_pace : (inputs : Inputs) (x : Connection) (signal : Signal) (i : ℕ) → x.from ≡ from_end.Signal signal → length (emits x (own_input inputs x) i) ≡ pace_of x.pace i
unfolding emits signal_bytes
signal_pace inputs x signal i e =
    ap (λ f. length (emits_by f x (own_of inputs f) i)) e ∙ length-map-range_with_len (signal_byte signal) (emitted_before x.pace i) (pace_of x.pace i)

pub carries_a_signal : (x : Connection) (signal : Signal) → x.from ≡ from_end.Signal signal → (plan : Plan) (inputs : Inputs) (b port u n : ℕ) (slots : LineSlots) (frames : List (List ℕ))
    → GoesTo plan x b port slots → HasPaces (length slots.list) x.pace → IsMadeTo plan inputs x b u frames → u ≤ first_turn x + n
    → Arrives (tributary_of slots port) (arrived_by x (own_input inputs x) (n + 1)) (numbers_got x.pace n) (view_at (tributary_of slots port) (concat frames)) (first_turn x) (first_turn x) (first_turn x) u
carries_a_signal x signal e = gets x (λ inputs i. signal_pace inputs x signal i e)
