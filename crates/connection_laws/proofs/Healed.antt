-- What a connection gets once its line carries a client's bytes again, and what carries it on.
use Rattle.std.proofs.Common.{rules, ◌≡◌, ◌<◌, ◌≤◌, ◌+◌, ◌-◌, ◌/◌, ℕ, zero, suc, List, [], ◌∷◌, ◌++◌, Option, length, take, sym, ap, ◌∙◌, subst, arith, append-nil, add-one}
use Rattle.std.specs.Prelude.{sum, slice_range}
use Rattle.std.specs.List.{concat}
use Rattle.std.proofs.lemmas.List.{take-map, map-append, append_assoc}
use Rattle.std.proofs.lemmas.List.Folds.{concat-append}
use Rattle.std.proofs.lemmas.List.Sums.{sum_by_push}
use Rattle.otn_base.specs.LineSlots.{LineSlots, slots_of}
use Rattle.otn_base.specs.SlotList.{IsSlotList}
use Rattle.maintenance_signals.specs.Stream.{signal_byte}
use Rattle.maintenance_signals.specs.declared.signal.Signal.TheVariants.{Ais}
use Rattle.plan_file.specs.declared.connection.Connection.{Connection}
use Rattle.plan_file.specs.declared.connection.FromEnd.TheVariants as from_end
use Rattle.plan_file.specs.declared.plan.Plan.{Plan}
use Rattle.tributary_model.specs.Carries.{sent, cm_in, Carries, past_of}
use Rattle.tributary_model.specs.Carriage.{EmitsTwoLater, SaysAnew}
use Rattle.tributary_model.specs.Emission.{emission, emitted_so_far}
use Rattle.tributary_model.specs.Places.{Tributary, tributary_of, View, IsWholeTurn, AreWholeTurns}
use Rattle.tributary_model.specs.Puts.{lengths_of}
use Rattle.tributary_model.specs.Sending.{ShowsTurn, Sends}
use Rattle.tributary_model.proofs.Groups.{total_next, total_start, few_groups}
use Rattle.tributary_model.proofs.Intact.{emits_after_damage}
use Rattle.tributary_model.proofs.OnLine.{is_sent, is_tributary}
use Rattle.tributary_model.proofs.PutOn.{carries_all_that_is_put}
use Rattle.tributary_model.proofs.Ranges.{none_between, joined}
use Rattle.tributary_model.proofs.Totals.{sent_up}
use Rattle.connection_laws.specs.Carried.{GoesTo, IsMadeTo}
use Rattle.device_model.specs.Entries.{first_turn}
use Rattle.connection_laws.specs.Healing.{IsCarriedAgain}
use Rattle.device_model.specs.LineViews.{view_at}
use Rattle.device_model.specs.Through.{Inputs, OwnInput, own_input, emits, got_in, got_by, arrived_by}
use Rattle.connection_laws.proofs.Carried.{turn_frames, shown}
use Rattle.connection_laws.proofs.GotTurns.{many_got, first_got, emits_line}
use Rattle.device_model.proofs.LineViews.{whole_at}

-- ---- what it gets

-- what healing asks of turn h + 1
no_sooner : (line : List ℕ) (x : Connection) (port s b u h : ℕ) (slots : LineSlots) (bytes p : List ℕ) → IsCarriedAgain line x port slots bytes p s b u h → b ≤ h
no_sooner line x port s b u h slots bytes p heals = search rules

says_anew : (line : List ℕ) (x : Connection) (port s b u h : ℕ) (slots : LineSlots) (bytes p : List ℕ) → IsCarriedAgain line x port slots bytes p s b u h
    → SaysAnew (tributary_of slots port) (view_at (tributary_of slots port) line) (first_turn x) h
says_anew line x port s b u h slots bytes p heals = search rules

emits_healed : (inputs : Inputs) (x : Connection) (a port s b u h t j : ℕ) (slots : LineSlots) (bytes p : List ℕ) → x.from ≡ from_end.Line a port slots → IsCarriedAgain (inputs.line a) x port slots bytes p s b u h
    → h + 3 ≤ t → t ≤ u → first_turn x + j ≡ t → emits x (own_input inputs x) j ≡ slice_range bytes (sent p (t - s - 2)) (sent p (t - s - 1))
emits_healed inputs x a port s b u h t j slots bytes p comes heals low high at =
    let own = tributary_of slots port in
    let ais = signal_byte Ais in
    let views = view_at own (inputs.line a) in
    let f = first_turn x in
    let law : EmitsTwoLater own ais bytes p views f s t = emits_after_damage own ais bytes p views f s b u h heals.arrives (no_sooner (inputs.line a) x port s b u h slots bytes p heals) (says_anew (inputs.line a) x port s b u h slots bytes p heals) t low high in
    emits_line x inputs a port j slots comes
    ∙ ap (λ k. emission own ais (past_of views f k) (views (f + j))) (let e : j ≡ t - f = omega arith in e)
    ∙ ap (λ k. emission own ais (past_of views f (t - f)) (views k)) at
    ∙ law

pub gets_what_healed : (inputs : Inputs) (x : Connection) (a port s b u h t : ℕ) (slots : LineSlots) (bytes p : List ℕ) → x.from ≡ from_end.Line a port slots → IsCarriedAgain (inputs.line a) x port slots bytes p s b u h → h + 3 ≤ t → t ≤ u
    → got_in x (own_input inputs x) (t + 1 - first_turn x) ≡ slice_range bytes (sent p (t - s - 2)) (sent p (t - s - 1))
gets_what_healed inputs x a port s b u h t slots bytes p comes heals low high =
    let f = first_turn x in
    let first = heals.arrives.order in
    let order = no_sooner (inputs.line a) x port s b u h slots bytes p heals in
    ap (got_in x (own_input inputs x)) (let e : t + 1 - f ≡ suc (t - f) = omega arith in e)
    ∙ emits_healed inputs x a port s b u h t (t - f) slots bytes p comes heals low high (omega arith)

-- one turn more
arrived_next : (x : Connection) (input : OwnInput) (n : ℕ) → arrived_by x input (suc n) ≡ arrived_by x input n ++ got_in x input n
unfolding got_by
arrived_next x input n = concat-append (got_by x input n) (got_in x input n ∷ []) ∙ ap (λ y. concat (got_by x input n) ++ y) (append-nil (got_in x input n))

-- k turns behind the third after turn h + 1
healed_until : (inputs : Inputs) (x : Connection) (a port s b u h k : ℕ) (slots : LineSlots) (bytes p : List ℕ) → x.from ≡ from_end.Line a port slots → IsCarriedAgain (inputs.line a) x port slots bytes p s b u h
    → h + 2 + k ≤ u
    → arrived_by x (own_input inputs x) (h + 2 + k + 2 - first_turn x) ≡ arrived_by x (own_input inputs x) (h + 4 - first_turn x) ++ slice_range bytes (sent p (h + 1 - s)) (sent p (h + 1 - s + k))
healed_until inputs x a port s b u h zero slots bytes p comes heals high =
    let f = first_turn x in
    let input = own_input inputs x in
    let i = sent p (h + 1 - s) in
    let none = none_between bytes i in
    ap (arrived_by x input) (let e : h + 2 + 0 + 2 - f ≡ h + 4 - f = omega arith in e)
    ∙ sym (append-nil (arrived_by x input (h + 4 - f)))
    ∙ ap (λ y. arrived_by x input (h + 4 - f) ++ y) (sym none)
    ∙ ap (λ j. arrived_by x input (h + 4 - f) ++ slice_range bytes i (sent p j)) (let e : h + 1 - s ≡ h + 1 - s + 0 = omega arith in e)
healed_until inputs x a port s b u h (suc k) slots bytes p comes heals high =
    let f = first_turn x in
    let input = own_input inputs x in
    let first = heals.arrives.order in
    let order = no_sooner (inputs.line a) x port s b u h slots bytes p heals in
    let began = heals.arrives.carries.order in
    let t = h + 3 + k in
    let j = t - f in
    let i = h + 1 - s in
    let before = arrived_by x input (h + 4 - f) in
    ap (arrived_by x input) (let e : h + 2 + suc k + 2 - f ≡ suc (suc j) = omega arith in e)
    ∙ arrived_next x input (suc j)
    ∙ ap (λ y. y ++ emits x input j) (ap (arrived_by x input) (let e : suc j ≡ h + 2 + k + 2 - f = omega arith in e) ∙ healed_until inputs x a port s b u h k slots bytes p comes heals (omega arith))
    ∙ ap (λ y. (before ++ slice_range bytes (sent p i) (sent p (i + k))) ++ y) (emits_healed inputs x a port s b u h t j slots bytes p comes heals (omega arith) (omega arith) (omega arith))
    ∙ ap (λ n. (before ++ slice_range bytes (sent p i) (sent p (i + k))) ++ slice_range bytes (sent p n) (sent p (t - s - 1))) (let e : t - s - 2 ≡ i + k = omega arith in e)
    ∙ ap (λ n. (before ++ slice_range bytes (sent p i) (sent p (i + k))) ++ slice_range bytes (sent p (i + k)) (sent p n)) (let e : t - s - 1 ≡ i + suc k = omega arith in e)
    ∙ append_assoc before (slice_range bytes (sent p i) (sent p (i + k))) (slice_range bytes (sent p (i + k)) (sent p (i + suc k)))
    ∙ ap (λ y. before ++ y) (joined bytes (sent p i) (sent p (i + k)) (sent p (i + suc k)) (sent_up p i (i + k) (omega arith)) (sent_up p (i + k) (i + suc k) (omega arith)))

pub arrives_healed : (inputs : Inputs) (x : Connection) (a port s b u h w : ℕ) (slots : LineSlots) (bytes p : List ℕ) → x.from ≡ from_end.Line a port slots → IsCarriedAgain (inputs.line a) x port slots bytes p s b u h → h + 2 ≤ w → w ≤ u
    → arrived_by x (own_input inputs x) (w + 2 - first_turn x) ≡ arrived_by x (own_input inputs x) (h + 4 - first_turn x) ++ slice_range bytes (sent p (h + 1 - s)) (sent p (w - s - 1))
arrives_healed inputs x a port s b u h w slots bytes p comes heals low high =
    let f = first_turn x in
    let input = own_input inputs x in
    let began = heals.arrives.carries.order in
    let order = no_sooner (inputs.line a) x port s b u h slots bytes p heals in
    let k = w - (h + 2) in
    ap (arrived_by x input) (let e : w + 2 - f ≡ h + 2 + k + 2 - f = omega arith in e)
    ∙ healed_until inputs x a port s b u h k slots bytes p comes heals (omega arith)
    ∙ ap (λ n. arrived_by x input (h + 4 - f) ++ slice_range bytes (sent p (h + 1 - s)) (sent p n)) (let e : h + 1 - s + k ≡ w - s - 1 = omega arith in e)

-- ---- how many bytes it gets

-- by own turn k + 1 as many as its sink emitted before
total_got : (x : Connection) (inputs : Inputs) (a from k : ℕ) (slots : LineSlots) → x.from ≡ from_end.Line a from slots
    → sum (lengths_of (got_by x (own_input inputs x) (suc k))) ≡ emitted_so_far (tributary_of slots from) (signal_byte Ais) (past_of (view_at (tributary_of slots from) (inputs.line a)) (first_turn x) k)
unfolding got_by
total_got x inputs a from zero slots comes = sym (total_start (tributary_of slots from) (signal_byte Ais))
total_got x inputs a from (suc k) slots comes =
    let own = tributary_of slots from in
    let ais = signal_byte Ais in
    let views = view_at own (inputs.line a) in
    let f = first_turn x in
    let input = own_input inputs x in
    let turns = got_by x input (suc k) in
    ap sum (map-append length turns (emits x input k ∷ []))
    ∙ sum_by_push (λ n. n) (lengths_of turns) (length (emits x input k))
    ∙ ap (λ n. n + length (emits x input k)) (total_got x inputs a from k slots comes)
    ∙ ap (λ e. emitted_so_far own ais (past_of views f k) + length e) (emits_line x inputs a from k slots comes)
    ∙ sym (total_next own ais (past_of views f k) (views (f + k)))

total_front : (x : Connection) (inputs : Inputs) (a from n k : ℕ) (slots : LineSlots) → x.from ≡ from_end.Line a from slots → k < n
    → sent (lengths_of (got_by x (own_input inputs x) n)) (suc k) ≡ emitted_so_far (tributary_of slots from) (signal_byte Ais) (past_of (view_at (tributary_of slots from) (inputs.line a)) (first_turn x) k)
total_front x inputs a from n k slots comes less =
    let input = own_input inputs x in
    ap sum (take-map length (suc k) (got_by x input n))
    ∙ ap (λ turns. sum (lengths_of turns)) (first_got x input n (suc k) (omega arith))
    ∙ total_got x inputs a from k slots comes

whole_before : (own : Tributary) (views : ℕ → Option View) (s n : ℕ) → ((t : ℕ) → IsWholeTurn (length own.slots) (views t)) → AreWholeTurns (length own.slots) (past_of views s n)
whole_before own views s zero whole = tt
whole_before own views s (suc n) whole = (whole (s + n), whole_before own views s n whole)

few_in_turn : (x : Connection) (inputs : Inputs) (a from n i : ℕ) (slots : LineSlots) → x.from ≡ from_end.Line a from slots → 0 < length slots.list
    → ((t : ℕ) → IsWholeTurn (length slots.list) (view_at (tributary_of slots from) (inputs.line a) t)) → i < n
    → cm_in (length slots.list) (lengths_of (got_by x (own_input inputs x) n)) i ≤ 15232
few_in_turn x inputs a from n zero slots comes some whole less =
    let m = length slots.list in
    let own = tributary_of slots from in
    let p = lengths_of (got_by x (own_input inputs x) n) in
    let one : sent p (0 + 1) ≡ 0 = total_front x inputs a from n 0 slots comes less ∙ total_start own (signal_byte Ais) in
    subst (λ k. k / m - 0 / m ≤ 15232) (sym one) (omega arith)
few_in_turn x inputs a from n (suc i) slots comes some whole less =
    let m = length slots.list in
    let own = tributary_of slots from in
    let ais = signal_byte Ais in
    let views = view_at own (inputs.line a) in
    let f = first_turn x in
    let p = lengths_of (got_by x (own_input inputs x) n) in
    let next : sent p (suc i + 1) ≡ emitted_so_far own ais (past_of views f (suc i)) = ap (sent p) (add-one (suc i)) ∙ total_front x inputs a from n (suc i) slots comes less in
    let last : sent p (suc i) ≡ emitted_so_far own ais (past_of views f i) = total_front x inputs a from n i slots comes (omega arith) in
    let few = few_groups own ais (past_of views f i) (views (f + i)) some (whole (f + i), whole_before own views f i whole) in
    ap_le m (sent p (suc i + 1)) (sent p (suc i)) (emitted_so_far own ais (past_of views f (suc i))) (emitted_so_far own ais (past_of views f i)) next last few
  where
    ap_le : (m a b c d : ℕ) → a ≡ c → b ≡ d → c / m ≤ d / m + 15232 → a / m - b / m ≤ 15232
    ap_le m a b c d e g h = subst (λ k. k / m - b / m ≤ 15232) (sym e) (subst (λ k. c / m - k / m ≤ 15232) (sym g) (omega arith))

-- ---- what carries it on

pub carries_what_it_gets : (plan : Plan) (inputs : Inputs) (x : Connection) (a from b port u : ℕ) (slots others : LineSlots) (frames : List (List ℕ)) → x.from ≡ from_end.Line a from slots → IsSlotList (slots_of slots.kind) slots.list
    → GoesTo plan x b port others → length others.list ≡ length slots.list → IsMadeTo plan inputs x b u frames → first_turn x ≤ u
    → Carries (tributary_of others port) (arrived_by x (own_input inputs x) (u + 1 - first_turn x)) (lengths_of (got_by x (own_input inputs x) (u + 1 - first_turn x)))
    (view_at (tributary_of others port) (concat frames)) (first_turn x) (first_turn x) u
unfolding view_at
carries_what_it_gets plan inputs x a from b port u slots others frames comes list goes same made low =
    let s = first_turn x in
    let next = tributary_of others port in
    let input = own_input inputs x in
    let n = u + 1 - s in
    let turns = got_by x input n in
    let many = many_got x input n in
    let p = lengths_of turns in
    let sends : Sends next turns (turn_frames next (concat frames)) s u = record {
      own_is = is_sent others port goes.end.list;
      enough = omega arith;
      fits = λ i l. subst (λ m. cm_in m p i ≤ 15232) (sym same) (few_in_turn x inputs a from n i slots comes list.taken (λ t. whole_at (tributary_of slots from) (inputs.line a) t (is_tributary slots from list)) (omega arith));
      each = λ t from below.
          let seen = shown plan inputs x b port u t others frames goes made from below in
          let got : got_by x input (t - s + 1) ≡ take (t + 1 - s) turns = ap (got_by x input) (let e : t - s + 1 ≡ t + 1 - s = omega arith in e) ∙ sym (first_got x input n (t + 1 - s) (omega arith)) in
          (seen.0, (seen.1.0, subst (λ g. ShowsTurn next g (t - s) seen.0) got seen.1.1));
    } in
    carries_all_that_is_put next turns (turn_frames next (concat frames)) s u sends
