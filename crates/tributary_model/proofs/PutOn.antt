-- The whole sending of a source carries its bytes, and a source that a sink feeds sends on.
use Rattle.std.proofs.Common.{◌≡◌, ◌⊎◌, inl, inr, ℕ, zero, suc, ◌+◌, ◌/◌, ◌-◌, ◌<◌, ◌≤◌, List, [], ◌∷◌, ◌++◌, length, take, reverse, Option, Some, refl, ap, ◌∙◌, sym, subst, arith, append-nil}
use Rattle.std.specs.Prelude.{sum}
use Rattle.std.specs.List.{concat}
use Rattle.std.proofs.lemmas.Bool.{cases_lt}
use Rattle.std.proofs.lemmas.Grind.{reverse_onto}
use Rattle.std.proofs.lemmas.List.{length-append, length-map, take-map, take-append-le, take_all, map-append}
use Rattle.std.proofs.lemmas.List.Folds.{concat-append}
use Rattle.std.proofs.lemmas.List.Sums.{sum_by-cons, sum_by_push}
use Rattle.std.proofs.Math.Seq.{take-append-add}
use Rattle.tributary_model.specs.Places.{Tributary, Taken, View, view_of, turn_view, IsWholeTurn, AreWholeTurns}
use Rattle.tributary_model.specs.Emission.{emission, emitted_so_far}
use Rattle.tributary_model.specs.Carries.{sent, cm_in, cm_before, CarriesTurn, past_of}
use Rattle.tributary_model.specs.Damage.{emissions}
use Rattle.tributary_model.specs.Passing.{joined_back, lengths_back}
use Rattle.tributary_model.specs.Puts.{lengths_of}
use Rattle.tributary_model.specs.Sending.{IsSent, ShowsTurn, turns_of, CarriesAllThatIsPut, ArrivesAsItIsPut, SendsOnWhatIsPut}
use Rattle.tributary_model.proofs.Totals.{sent_front, sent_up}
use Rattle.tributary_model.proofs.Groups.{total_next, total_start, few_groups}
use Rattle.tributary_model.proofs.Views.{whole_view}
use Rattle.tributary_model.proofs.Passing.{all_by_fronts}
use Rattle.tributary_model.proofs.PutCarries.{sent_inside, carries_what_is_put}

-- ---- by the turns until then

-- the first turns have a front of the bytes
front_bytes : (turns : List (List ℕ)) (n : ℕ) → concat (take n turns) ≡ take (sent (lengths_of turns) n) (concat turns)
front_bytes turns zero = refl
front_bytes [] (suc n) = refl
front_bytes (x ∷ turns) (suc n) =
    ap (λ y. x ++ y) (front_bytes turns n)
    ∙ sym (take-append-add x (concat turns) (sent (lengths_of turns) n))
    ∙ ap (λ k. take k (x ++ concat turns)) (sym (sum_by-cons (λ k. k) (length x) (take n (lengths_of turns))))

front_lengths : (turns : List (List ℕ)) (n : ℕ) → lengths_of (take n turns) ≡ take n (lengths_of turns)
front_lengths turns n = sym (take-map length n turns)

front_number : (m : ℕ) (p : List ℕ) (k i : ℕ) → i < k → cm_in m (take k p) i ≡ cm_in m p i
front_number m p k i l = ap (λ x. x / m - sent (take k p) i / m) (sent_front p k (i + 1) (omega arith)) ∙ ap (λ x. sent p (i + 1) / m - x / m) (sent_front p k i (omega arith))

front_fits : (m : ℕ) (p : List ℕ) (k t : ℕ) → t < k → ((i : ℕ) → i < t → cm_in m p i ≤ 15232) → cm_before m (take k p) t ≤ 15232
front_fits m p k zero l h = omega arith
front_fits m p k (suc i) l h = let same = front_number m p k i (omega arith) in let fits = h i (omega arith) in omega arith

-- a turn of the sending
turn_sent : (own : Tributary) (turns : List (List ℕ)) (k t : ℕ) (frames : List Taken) → IsSent own → t < k → ((i : ℕ) → i < t → cm_in (length own.slots) (lengths_of turns) i ≤ 15232)
    → ShowsTurn own (take k turns) t frames → CarriesTurn own (concat turns) (lengths_of turns) t (view_of own frames)
turn_sent own turns k t frames is l fits shows =
    let m = length own.slots in
    let p = lengths_of turns in
    let view = view_of own frames in
    let low : cm_before m (lengths_of (take k turns)) t ≤ 15232 = subst (λ q. cm_before m q t ≤ 15232) (sym (front_lengths turns k)) (front_fits m p k t l fits) in
    let front : CarriesTurn own (concat (take k turns)) (lengths_of (take k turns)) t view = carries_what_is_put own (take k turns) t frames is low shows in
    all_by_fronts own (concat turns) p (sent p k) k t view is.tributary.slots.taken (sent_up p t k (omega arith)) l
    (subst (λ xs. CarriesTurn own xs (take k p) t view) (front_bytes turns k) (subst (λ q. CarriesTurn own (concat (take k turns)) q t view) (front_lengths turns k) front))

pub carries_all_that_is_put : CarriesAllThatIsPut
carries_all_that_is_put own turns frames s u h =
    let m = length own.slots in
    let enough = h.enough in
    record {
      order = omega arith;
      numbers = (let many = length-map turns length in omega arith);
      enough = sent_inside turns (u + 1 - s);
      fits = λ t low high. h.fits (t - s) (omega arith);
      each = λ t low high.
          let seen = h.each t low high in (
            view_of own seen.0,
            (
              ap (turn_view own) seen.1.0,
              turn_sent own turns (t + 1 - s) (t - s) seen.0 h.own_is (omega arith) (λ i l. h.fits i (omega arith)) seen.1.1,
            ),
          );
    }

shown_whole : (own : Tributary) (frames : List Taken) (turn : Option (List Taken)) → IsSent own → turn ≡ Some frames → length frames ≡ own.line_slots → IsWholeTurn (length own.slots) (turn_view own turn)
shown_whole own frames turn is e many = subst (λ o. IsWholeTurn (length own.slots) (turn_view own o)) (sym e) (whole_view own frames is.tributary many)

pub arrives_as_it_is_put : ArrivesAsItIsPut
arrives_as_it_is_put own turns frames s u h steady = record {
  slots = h.own_is.tributary.slots.taken;
  order = omega arith;
  whole = λ t low high. let seen = h.each t low high in shown_whole own seen.0 (frames t) h.own_is seen.1.0 seen.1.1.many;
  carries = carries_all_that_is_put own turns frames s u h;
  steady = steady;
}

-- ---- by what a sink emits

concat_turns : (es : List (List ℕ)) → concat (reverse es) ≡ joined_back es
concat_turns [] = refl
concat_turns (e ∷ es) =
    ap concat (reverse_onto es e [])
    ∙ concat-append (reverse es) (e ∷ [])
    ∙ ap (λ y. concat (reverse es) ++ y) (append-nil e)
    ∙ ap (λ y. y ++ e) (concat_turns es)

turn_lengths : (es : List (List ℕ)) → lengths_of (reverse es) ≡ lengths_back es
turn_lengths [] = refl
turn_lengths (e ∷ es) =
    ap lengths_of (reverse_onto es e [])
    ∙ map-append length (reverse es) (e ∷ [])
    ∙ ap (λ y. y ++ length e ∷ []) (turn_lengths es)

-- what was emitted, in all
all_emitted : (own : Tributary) (ais : ℕ → ℕ) (past : List (Option View)) → sum (lengths_back (emissions own ais past)) ≡ emitted_so_far own ais past
all_emitted own ais [] = sym (total_start own ais)
all_emitted own ais (view ∷ past) =
    sum_by_push (λ n. n) (lengths_back (emissions own ais past)) (length (emission own ais past view))
    ∙ ap (λ n. n + length (emission own ais past view)) (all_emitted own ais past)
    ∙ sym (total_next own ais past view)

many_emissions : (own : Tributary) (ais : ℕ → ℕ) (past : List (Option View)) → length (lengths_back (emissions own ais past)) ≡ length past
many_emissions own ais [] = refl
many_emissions own ais (view ∷ past) = length-append (lengths_back (emissions own ais past)) (length (emission own ais past view) ∷ []) ∙ (let before = many_emissions own ais past in omega arith)

many_turns : (views : ℕ → Option View) (s n : ℕ) → length (past_of views s n) ≡ n
many_turns views s zero = refl
many_turns views s (suc n) = ap (λ k. suc k) (many_turns views s n)

first_emissions : (own : Tributary) (ais : ℕ → ℕ) (views : ℕ → Option View) (s n k : ℕ) → k ≤ n
    → take k (lengths_back (emissions own ais (past_of views s n))) ≡ lengths_back (emissions own ais (past_of views s k))
first_emissions own ais views s zero zero h = refl
first_emissions own ais views s zero (suc k) h = absurd (omega arith)
first_emissions own ais views s (suc n) k h = go (λ low. first_emissions own ais views s n k low) (cases_lt n k)
  where
    go : (k ≤ n → take k (lengths_back (emissions own ais (past_of views s n))) ≡ lengths_back (emissions own ais (past_of views s k)))
        → (n < k) ⊎ (k ≤ n) → take k (lengths_back (emissions own ais (past_of views s (suc n)))) ≡ lengths_back (emissions own ais (past_of views s k))
    go rest (inl past) =
        let all : k ≡ suc n = omega arith in
        let long = many_emissions own ais (past_of views s (suc n)) in
        let turns = many_turns views s (suc n) in
        take_all k (lengths_back (emissions own ais (past_of views s (suc n)))) (omega arith) ∙ ap (λ i. lengths_back (emissions own ais (past_of views s i))) (sym all)
    go rest (inr low) =
        let long = many_emissions own ais (past_of views s n) in
        let turns = many_turns views s n in
        take-append-le k (lengths_back (emissions own ais (past_of views s n))) (length (emission own ais (past_of views s n) (views (s + n))) ∷ []) (omega arith)
        ∙ rest low

emitted_until : (own : Tributary) (ais : ℕ → ℕ) (views : ℕ → Option View) (s n k : ℕ) → k ≤ n
    → sent (0 ∷ lengths_back (emissions own ais (past_of views s n))) (suc k) ≡ emitted_so_far own ais (past_of views s k)
emitted_until own ais views s n k h =
    let es = lengths_back (emissions own ais (past_of views s n)) in
    sum_by-cons (λ n. n) 0 (take k es)
    ∙ ap (λ xs. 0 + sum xs) (first_emissions own ais views s n k h)
    ∙ (let e : 0 + sum (lengths_back (emissions own ais (past_of views s k))) ≡ sum (lengths_back (emissions own ais (past_of views s k))) = omega arith in e)
    ∙ all_emitted own ais (past_of views s k)

whole_past : (m : ℕ) (views : ℕ → Option View) (s n : ℕ) → ((i : ℕ) → i < n → IsWholeTurn m (views (s + i))) → AreWholeTurns m (past_of views s n)
whole_past m views s zero h = tt
whole_past m views s (suc n) h = (h n (omega arith), whole_past m views s n (λ i l. h i (omega arith)))

-- the numbers fit of themselves
emissions_fit : (own : Tributary) (ais : ℕ → ℕ) (views : ℕ → Option View) (s n : ℕ) → 0 < length own.slots → ((i : ℕ) → i < n → IsWholeTurn (length own.slots) (views (s + i)))
    → cm_before (length own.slots) (0 ∷ lengths_back (emissions own ais (past_of views s n))) n ≤ 15232
emissions_fit own ais views s zero some whole = omega arith
emissions_fit own ais views s (suc zero) some whole =
    let m = length own.slots in
    let q = 0 ∷ lengths_back (emissions own ais (past_of views s 1)) in
    let one : sent q (0 + 1) ≡ 0 = refl in
    let none : sent q 0 ≡ 0 = refl in
    let same : sent q (0 + 1) / m ≡ sent q 0 / m = ap (λ x. x / m) (one ∙ sym none) in
    omega arith
emissions_fit own ais views s (suc (suc i)) some whole =
    let m = length own.slots in
    let n = suc (suc i) in
    let q = 0 ∷ lengths_back (emissions own ais (past_of views s n)) in
    let next : suc i + 1 ≡ suc (suc i) = omega arith in
    let before = emitted_until own ais views s n i (omega arith) in
    let now = ap (sent q) next ∙ emitted_until own ais views s n (suc i) (omega arith) in
    let few = few_groups own ais (past_of views s i) (views (s + i)) some (whole_past m views s (suc i) (λ k l. whole k (omega arith))) in
    let a : sent q (suc i) / m ≡ emitted_so_far own ais (past_of views s i) / m = ap (λ x. x / m) before in
    let b : sent q (suc i + 1) / m ≡ emitted_so_far own ais (past_of views s (suc i)) / m = ap (λ x. x / m) now in
    omega arith

pub sends_on_what_is_put : SendsOnWhatIsPut
sends_on_what_is_put own next ais views frames s u is same whole each =
    let m = length next.slots in
    let some : 0 < length own.slots = (let taken = is.tributary.slots.taken in omega arith) in
    record {
      slots = same;
      whole = λ t low high. let seen = each t low high in shown_whole next seen.0 (frames t) is seen.1.0 seen.1.1.many;
      each = λ t low high.
          let seen = each t low high in
          let es = emissions own ais (past_of views s (t - s)) in
          let view = view_of next seen.0 in
          let lengths : lengths_of (turns_of es) ≡ 0 ∷ lengths_back es = ap (λ xs. 0 ∷ xs) (turn_lengths es) in
          let few : cm_before (length own.slots) (0 ∷ lengths_back es) (t - s) ≤ 15232 = emissions_fit own ais views s (t - s) some (λ i l. whole (s + i) (omega arith) (omega arith)) in
          let fits : cm_before m (lengths_of (turns_of es)) (t - s) ≤ 15232 =
          subst (λ q. cm_before m q (t - s) ≤ 15232) (sym lengths) (subst (λ k. cm_before k (0 ∷ lengths_back es) (t - s) ≤ 15232) (sym same) few) in
          let turn : CarriesTurn next (concat (turns_of es)) (lengths_of (turns_of es)) (t - s) view = carries_what_is_put next (turns_of es) (t - s) seen.0 is fits seen.1.1 in (
            view,
            (
              ap (turn_view next) seen.1.0,
              subst (λ xs. CarriesTurn next xs (0 ∷ lengths_back es) (t - s) view) (concat_turns es) (subst (λ q. CarriesTurn next (concat (turns_of es)) q (t - s) view) lengths turn),
            ),
          );
    }
