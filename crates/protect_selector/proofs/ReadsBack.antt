-- What a node behind the line output gets.
use Rattle.std.proofs.Common.{◌≡◌, ◌⊎◌, inl, inr, ◌<◌, ◌≤◌, ◌+◌, ◌-◌, ◌*◌, ◌/◌, ℕ, zero, suc, List, [], ◌∷◌, ◌++◌, length, take, refl, ap, sym, subst, ◌∙◌, arith}
use Rattle.std.specs.Prelude.{sum}
use Rattle.std.specs.List.{concat}
use Rattle.std.proofs.lemmas.Bool.{cases_lt}
use Rattle.std.proofs.lemmas.List.{map-append, length-map, take_all, take-append-le}
use Rattle.std.proofs.lemmas.List.Sums.{sum_by-append}
use Rattle.otn_base.specs.LineSlots.{slots_of}
use Rattle.tributary_model.specs.Carries.{sent, cm_in}
use Rattle.tributary_model.specs.Laws.{IsTributary}
use Rattle.tributary_model.specs.Places.{Tributary, tributary_of}
use Rattle.tributary_model.specs.Puts.{lengths_of}
use Rattle.connection_laws.specs.HeldBack.{Comes}
use Rattle.device_model.specs.LineViews.{view_at}
use Rattle.device_model.proofs.LineViews.{whole_at}
use Rattle.connection_laws.proofs.SecondNode.{gets_a_front}
use Rattle.tributary_line.specs.TributaryFile.{IsTributaryFile}
use Rattle.tributary_line.proofs.FileTurns.{carries_its_turns}
use Rattle.protect_selector.specs.OfLines.{due_at, due_before}
use Rattle.protect_selector.specs.ReadsBack.{GetsAFront}
use Rattle.protect_selector.proofs.OfLines.{completes_on, given_next, sent_all}
use Rattle.protect_selector.proofs.ProtectEnds.{given_many}

lengths_many : (turns : List (List ℕ)) → length (lengths_of turns) ≡ length turns
lengths_many turns = rw length-map refl

-- ---- the numbers of the first turns

lengths_next : (own : Tributary) (n : ℕ) (w p : List ℕ) (t : ℕ) → lengths_of (due_before own n w p (suc t)) ≡ lengths_of (due_before own n w p t) ++ length (due_at own n w p t) ∷ []
lengths_next own n w p t = ap lengths_of (given_next own n w p t) ∙ map-append length (due_before own n w p t) (due_at own n w p t ∷ [])

lengths_size : (own : Tributary) (n : ℕ) (w p : List ℕ) (t : ℕ) → length (lengths_of (due_before own n w p t)) ≡ t
lengths_size own n w p t = lengths_many (due_before own n w p t) ∙ given_many own n w p t

first_lengths : (own : Tributary) (n : ℕ) (w p : List ℕ) (t i : ℕ) → i ≤ t → take i (lengths_of (due_before own n w p t)) ≡ lengths_of (due_before own n w p i)
first_lengths own n w p zero zero low = take_all 0 (lengths_of (due_before own n w p 0)) (let s = lengths_size own n w p 0 in omega (arith, s))
first_lengths own n w p zero (suc i) low = absurd (omega arith)
first_lengths own n w p (suc t) i low = go (first_lengths own n w p t i) (cases_lt t i)
  where
    go : (i ≤ t → take i (lengths_of (due_before own n w p t)) ≡ lengths_of (due_before own n w p i)) → (t < i) ⊎ (i ≤ t) → take i (lengths_of (due_before own n w p (suc t))) ≡ lengths_of (due_before own n w p i)
    go earlier (inl last) =
        let same : i ≡ suc t = omega (arith, last, low) in
        let s = lengths_size own n w p (suc t) in
        take_all i (lengths_of (due_before own n w p (suc t))) (omega (arith, s, same)) ∙ ap (λ k. lengths_of (due_before own n w p k)) (sym same)
    go earlier (inr before) =
        let s = lengths_size own n w p t in
        ap (take i) (lengths_next own n w p t)
        ∙ take-append-le i (lengths_of (due_before own n w p t)) (length (due_at own n w p t) ∷ []) (omega (arith, s, before))
        ∙ earlier before

sent_first : (own : Tributary) (n : ℕ) (w p : List ℕ) (t i : ℕ) → i ≤ t → sent (lengths_of (due_before own n w p t)) i ≡ sent (lengths_of (due_before own n w p i)) i
sent_first own n w p t i low =
    let s = lengths_size own n w p i in
    ap sum (first_lengths own n w p t i low) ∙ ap sum (sym (take_all i (lengths_of (due_before own n w p i)) (omega (arith, s))))

-- a turn says no more groups than a multiframe has
says_few : (own : Tributary) (n : ℕ) (w p : List ℕ) (t i : ℕ) → i < t → IsTributary own → cm_in (length own.slots) (lengths_of (due_before own n w p t)) i ≤ 15232
says_few own n w p t i low trib =
    let m = length own.slots in
    let before = due_before own n w p i in
    let few = subst (λ k. (sent (lengths_of before) k + length (due_at own n w p i)) / m ≤ sent (lengths_of before) k / m + 15232) (given_many own n w p i) (completes_on own n w p i trib) in
    let now = sent_first own n w p t i (omega (arith, low)) in
    let here = sent_first own n w p t (i + 1) (omega (arith, low)) in
    let next : sent (lengths_of (due_before own n w p (i + 1))) (i + 1) ≡ sent (lengths_of before) i + length (due_at own n w p i) = next_sent in
    subst (λ x. x / m - sent (lengths_of (due_before own n w p t)) i / m ≤ 15232) (sym (here ∙ next))
    (subst (λ x. (sent (lengths_of before) i + length (due_at own n w p i)) / m - x / m ≤ 15232) (sym now) (omega (arith, few)))
  where
    next_sent : sent (lengths_of (due_before own n w p (i + 1))) (i + 1) ≡ sent (lengths_of (due_before own n w p i)) i + length (due_at own n w p i)
    next_sent =
        let later : i + 1 ≡ suc i = omega arith in
        let turns = due_before own n w p i in
        let x = length (due_at own n w p i) in
        let all = subst (λ k. sent (lengths_of (due_before own n w p k)) k ≡ sum (lengths_of (due_before own n w p k))) (sym later)
        (subst (λ k. sent (lengths_of (due_before own n w p (suc i))) k ≡ sum (lengths_of (due_before own n w p (suc i)))) (given_many own n w p (suc i)) (sent_all (due_before own n w p (suc i)))) in
        let these = subst (λ k. sent (lengths_of turns) k ≡ sum (lengths_of turns)) (given_many own n w p i) (sent_all turns) in
        let one : sum (x ∷ []) ≡ x = omega arith in
        all ∙ ap (λ k. sum (lengths_of (due_before own n w p k))) later ∙ ap sum (lengths_next own n w p i) ∙ sum_by-append (λ k. k) (lengths_of turns) (x ∷ []) ∙ omega (arith, these, one)

-- ---- a node

pub reads_back : GetsAFront
reads_back slots port n b c u k w p frames inputs x sends kind low file reads line first within =
    let own = tributary_of slots port in
    let turns = due_before own n w p (suc u) in
    let size : own.line_slots ≡ 8 = ap slots_of kind in
    let many = given_many own n w p (suc u) in
    let next : suc u ≡ u + 1 = omega arith in
    let carried : Comes own (concat turns) (lengths_of turns) (view_at own (concat frames)) 0 u = record {
      slots = sends.tributary.slots.taken;
      whole = λ t from below. whole_at own (concat frames) t sends.tributary;
      carries = carries_its_turns b own turns frames u sends size low (subst (λ j. IsTributaryFile b own turns (8 * j) frames) next file) (omega (arith, many)) (λ i high. says_few own n w p (suc u) i (omega (arith, high)) sends.tributary);
    } in
    gets_a_front inputs x c port 0 u k slots (concat turns) (lengths_of turns) reads first (subst (λ bytes. Comes own (concat turns) (lengths_of turns) (view_at own bytes) 0 u) (sym line) carried) (omega (arith, within))
