-- What a sink emits of carried bytes, joined, is a front of them; sent on, they are carried three turns later.
use Rattle.std.proofs.Common.{◌≡◌, ◌⊎◌, inl, inr, ℕ, zero, suc, ◌+◌, ◌*◌, ◌/◌, ◌%◌, ◌-◌, ◌<◌, ◌≤◌, List, [], ◌∷◌, ◌++◌, length, take, drop, get_or, Option, Some, refl, ap, ◌∙◌, sym, subst, arith}
use Rattle.std.specs.Prelude.{slice_range, slice_get}
use Rattle.std.proofs.lemmas.List.{take-take, take_more}
use Rattle.std.proofs.lemmas.List.Elements.{All-take}
use Rattle.std.proofs.lemmas.Bool.{cases_lt}
use Rattle.gmp_rule.specs.DataRule.{IsData}
use Rattle.jc_codec.specs.Message.{says}
use Rattle.cnd_codec.specs.Remainder.{says_cnd}
use Rattle.tributary_model.specs.Places.{Tributary, View}
use Rattle.tributary_model.specs.Emission.{emission}
use Rattle.tributary_model.specs.Carries.{sent, cm_in, cnd_in, former_of, cm_before, CarriesGroups, CarriesTurn, IsSteady, past_of}
use Rattle.tributary_model.specs.Damage.{emissions}
use Rattle.tributary_model.specs.Carriage.{Arrives, EmitsTwoLater}
use Rattle.tributary_model.specs.Passing.{joined_back, lengths_back, JoinsToWhatIsCarried, JoinsToWholeGroups, EmitsAsMany, CarriesAllByFronts, PassesOn, SaysThreeLater, later, last_of, CarriesToTheEnd}
use Rattle.tributary_model.proofs.Ranges.{from_start, joined, length-slice, within_front}
use Rattle.tributary_model.proofs.Totals.{steady_before, sent_next, sent_up, sent_front, groups_within, group_ends}
use Rattle.tributary_model.proofs.Intact.{emits_what_is_carried, emits_the_rest}

-- ---- totals

-- three turns later
sent_later : (p : List ℕ) (i : ℕ) → sent (0 ∷ 0 ∷ 0 ∷ p) i ≡ sent p (i - 3)
sent_later p zero = refl
sent_later p (suc zero) = refl
sent_later p (suc (suc zero)) = refl
sent_later p (suc (suc (suc i))) = ap (sent p) (let e : i ≡ suc (suc (suc i)) - 3 = omega arith in e)

-- ---- what the sink emits

-- turn s + n, as the emissions list it
emits_here : (own : Tributary) (ais : ℕ → ℕ) (bytes p : List ℕ) (views : ℕ → Option View) (s u n : ℕ) → Arrives own bytes p views s s s u → s + n ≤ u
    → emission own ais (past_of views s n) (views (s + n)) ≡ slice_range bytes (sent p (n - 2)) (sent p (n - 1))
emits_here own ais bytes p views s u n r h =
    let law : EmitsTwoLater own ais bytes p views s s (s + n) = emits_what_is_carried own ais bytes p views s u r (s + n) (omega arith) h in
    let place : s + n - s ≡ n = omega arith in
    ap (λ k. emission own ais (past_of views s k) (views (s + n))) (sym place) ∙ law ∙ ap (λ k. slice_range bytes (sent p (k - 2)) (sent p (k - 1))) place

pub joins : JoinsToWhatIsCarried
joins own ais bytes p views s u zero r h = refl
joins own ais bytes p views s u (suc n) r h =
    ap (λ xs. xs ++ emission own ais (past_of views s n) (views (s + n))) (joins own ais bytes p views s u n r (omega arith) ∙ sym (from_start bytes (sent p (n - 2))))
    ∙ ap (λ xs. slice_range bytes 0 (sent p (n - 2)) ++ xs) (emits_here own ais bytes p views s u n r (omega arith))
    ∙ joined bytes 0 (sent p (n - 2)) (sent p (n - 1)) (omega arith) (sent_up p (n - 2) (n - 1) (omega arith))
    ∙ from_start bytes (sent p (n - 1))
    ∙ ap (λ k. take (sent p k) bytes) (let e : n - 1 ≡ suc n - 2 = omega arith in e)

pub joins_to_whole_groups : JoinsToWholeGroups
joins_to_whole_groups own ais bytes p views s u view r low whole down =
    let m = length own.slots in
    let n = u + 1 - s in
    let place : n - 2 ≡ u - s - 1 = omega arith in
    let within : sent p (u - s - 1) ≤ m * (sent p (u - s) / m) = steady_before m p (u + 1 - s) (u - s) r.slots r.carries.numbers r.steady (omega arith) in
    ap (λ xs. xs ++ emission own ais (past_of views s n) view) (joins own ais bytes p views s u n r (omega arith) ∙ ap (λ k. take (sent p k) bytes) place ∙ sym (from_start bytes (sent p (u - s - 1))))
    ∙ ap (λ xs. slice_range bytes 0 (sent p (u - s - 1)) ++ xs) (emits_the_rest own ais bytes p views s u view r low whole down)
    ∙ joined bytes 0 (sent p (u - s - 1)) (m * (sent p (u - s) / m)) (omega arith) within
    ∙ from_start bytes (m * (sent p (u - s) / m))

-- how many it emits in turn n
many_here : (own : Tributary) (ais : ℕ → ℕ) (bytes p : List ℕ) (views : ℕ → Option View) (s u n : ℕ) → Arrives own bytes p views s s s u → s + n ≤ u
    → length (emission own ais (past_of views s n) (views (s + n))) ≡ get_or (0 ∷ 0 ∷ p) n 0
many_here own ais bytes p views s u n r h =
    let enough = r.carries.enough in
    let up = sent_up p (n - 1) (u + 1 - s) (omega arith) in
    ap length (emits_here own ais bytes p views s u n r h)
    ∙ length-slice bytes (sent p (n - 2)) (sent p (n - 1)) (omega arith)
    ∙ number n (let numbers = r.carries.numbers in omega arith)
  where
    number : (n : ℕ) → n < length p + 1 → sent p (n - 1) - sent p (n - 2) ≡ get_or (0 ∷ 0 ∷ p) n 0
    number zero l = omega arith
    number (suc zero) l = refl
    number (suc (suc n)) l =
        let one : sent p (suc (suc n) - 1) ≡ sent p (n + 1) = ap (sent p) (let e : suc (suc n) - 1 ≡ n + 1 = omega arith in e) in
        let two : sent p (suc (suc n) - 2) ≡ sent p n = ap (sent p) (let e : suc (suc n) - 2 ≡ n = omega arith in e) in
        let next = sent_next p n (omega arith) in
        omega arith

pub as_many : EmitsAsMany
as_many own ais bytes p views s u zero r h = refl
as_many own ais bytes p views s u (suc n) r h =
    let numbers = r.carries.numbers in
    let n_is : n + 1 ≡ suc n = omega arith in
    ap (λ xs. xs ++ length (emission own ais (past_of views s n) (views (s + n))) ∷ []) (as_many own ais bytes p views s u n r (omega arith))
    ∙ ap (λ k. take n (0 ∷ 0 ∷ p) ++ k ∷ []) (many_here own ais bytes p views s u n r (omega arith))
    ∙ sym (take_more (0 ∷ 0 ∷ p) n 0 (omega arith))
    ∙ ap (λ k. take k (0 ∷ 0 ∷ p)) n_is

-- ---- what is carried by fronts of the bytes and of the numbers

-- a turn speaks of the totals up to its own alone
record SameTotals (p q : List ℕ) (n : ℕ) : Type 0 where
  each : (i : ℕ) → i ≤ n + 1 → sent p i ≡ sent q i

same_number : (m : ℕ) (p q : List ℕ) (n i : ℕ) → SameTotals p q n → i ≤ n → cm_in m p i ≡ cm_in m q i
same_number m p q n i e h = ap (λ x. x / m - sent p i / m) (e.each (i + 1) (omega arith)) ∙ ap (λ x. sent q (i + 1) / m - x / m) (e.each i (omega arith))

same_former : (m : ℕ) (p q : List ℕ) (n i : ℕ) → SameTotals p q n → i ≤ n → former_of m p i ≡ former_of m q i
same_former m p q n zero e h = refl
same_former m p q n (suc i) e h = ap (λ x. Some x) (same_number m p q n i e (omega arith))

same_before : (m : ℕ) (p q : List ℕ) (n i : ℕ) → SameTotals p q n → i ≤ n → cm_before m p i ≡ cm_before m q i
same_before m p q n zero e h = refl
same_before m p q n (suc i) e h = same_number m p q n i e (omega arith)

-- in a turn's groups
groups_on : (m : ℕ) (all front p q : List ℕ) (k n : ℕ) (groups : List (List ℕ)) → 0 < m → front ≡ take k all → sent q n ≤ k → SameTotals p q n → sent q (n - 1) ≤ sent q n
    → CarriesGroups m front p n groups → CarriesGroups m all q n groups
groups_on m all front p q k zero groups hm f low e up h = λ j l r d. absurd (let less : (j * 0) % 15232 < 0 = d in omega arith)
groups_on m all front p q k (suc n) groups hm f low e up h = λ j l r d.
    let c = cm_in m q n in
    let same : cm_in m p n ≡ c = same_number m p q (suc n) n e (omega arith) in
    let before : suc n - 1 ≡ n = omega arith in
    let total : sent p (suc n - 1) ≡ sent q n = e.each (suc n - 1) (omega arith) ∙ ap (sent q) before in
    let old : slice_get groups (j - 1) ≡ Some (take m (drop (m * (sent p (suc n - 1) / m + j * cm_in m p n / 15232 - 1)) front)) = h j l r (subst (λ c. IsData c j) (sym same) d) in
    let place = m * (sent q n / m + j * c / 15232 - 1) in
    let ends : place + m ≤ m * (sent q n / m + c) = group_ends m (sent q n / m) c j d r in
    let next : n + 1 ≡ suc n = omega arith in
    let up_here : sent q n ≤ sent q (n + 1) = subst (λ x. sent q n ≤ sent q x) (sym next) (subst (λ x. sent q x ≤ sent q (suc n)) before up) in
    let whole : m * (sent q n / m + c) ≤ sent q (suc n) = subst (λ x. m * (sent q n / m + c) ≤ sent q x) next (groups_within m (sent q n) (sent q (n + 1)) hm up_here) in
    old
    ∙ ap (λ t. Some (take m (drop (m * (t / m + j * cm_in m p n / 15232 - 1)) front))) total
    ∙ ap (λ c. Some (take m (drop (m * (sent q n / m + j * c / 15232 - 1)) front))) same
    ∙ ap (λ xs. Some (take m (drop place xs))) f
    ∙ ap (λ xs. Some xs) (within_front all m place k (omega arith))
    ∙ ap (λ x. Some (take m (drop (m * (sent q x / m + j * c / 15232 - 1)) all))) (sym before)

turn_on : (own : Tributary) (all front p q : List ℕ) (k n : ℕ) (view : View) → 0 < length own.slots → front ≡ take k all → sent q n ≤ k → SameTotals p q n → sent q (n - 1) ≤ sent q n
    → CarriesTurn own front p n view → CarriesTurn own all q n view
turn_on own all front p q k n view hm f low e up h =
    let m = length own.slots in
    record {
      message =
          h.message
          ∙ ap (λ o. says o (cm_in m p n) ++ says_cnd (cnd_in m p n)) (same_former m p q n n e (omega arith))
          ∙ ap (λ c. says (former_of m q n) c ++ says_cnd (cnd_in m p n)) (same_number m p q n n e (omega arith))
          ∙ ap (λ x. says (former_of m q n) (cm_in m q n) ++ says_cnd (x % m)) (e.each (n + 1) (omega arith));
      msi = h.msi;
      groups = groups_on m all front p q k n view.groups hm f low e up h.groups;
    }

pub all_by_fronts : CarriesAllByFronts
all_by_fronts own bytes p k n t view some low many h =
    turn_on own bytes (take k bytes) (take n p) p k t view some refl low (record { each = λ i l. sent_front p n i (omega arith) }) (sent_up p (t - 1) t (omega arith)) h

-- ---- the pairs three turns later

pub later_pairs : SaysThreeLater
later_pairs m p t =
    let now : sent (0 ∷ 0 ∷ 0 ∷ p) (t + 3) ≡ sent p t = sent_later p (t + 3) ∙ ap (sent p) (let e : t + 3 - 3 ≡ t = omega arith in e) in
    let next : sent (0 ∷ 0 ∷ 0 ∷ p) (t + 3 + 1) ≡ sent p (t + 1) = sent_later p (t + 3 + 1) ∙ ap (sent p) (let e : t + 3 + 1 - 3 ≡ t + 1 = omega arith in e) in
    (ap (λ x. x / m - sent (0 ∷ 0 ∷ 0 ∷ p) (t + 3) / m) next ∙ ap (λ x. sent p (t + 1) / m - x / m) now, ap (λ x. x % m) next)

-- ---- one node

-- the numbers three turns later can be said where the numbers can
later_fits : (m : ℕ) (p : List ℕ) (n : ℕ) → ((i : ℕ) → i + 3 ≡ n → cm_in m p i ≤ 15232) → cm_in m (0 ∷ 0 ∷ 0 ∷ p) n ≤ 15232
later_fits m p n fits =
    let now = sent_later p n in
    let next = sent_later p (n + 1) in
    subst (λ x. x / m - sent (0 ∷ 0 ∷ 0 ∷ p) n / m ≤ 15232) (sym next) (subst (λ x. sent p (n + 1 - 3) / m - x / m ≤ 15232) (sym now) (go (cases_lt n 3)))
  where
    go : (n < 3) ⊎ (3 ≤ n) → sent p (n + 1 - 3) / m - sent p (n - 3) / m ≤ 15232
    go (inl few) =
        let same : sent p (n + 1 - 3) / m ≡ sent p (n - 3) / m = ap (λ i. sent p i / m) (let e : n + 1 - 3 ≡ n - 3 = omega arith in e) in
        omega arith
    go (inr many) = subst (λ i. sent p i / m - sent p (n - 3) / m ≤ 15232) (let e : n - 3 + 1 ≡ n + 1 - 3 = omega arith in e) (fits (n - 3) (omega arith))

-- a front of steady numbers is steady, and so are the numbers three turns later
steady_front : (m k : ℕ) (p : List ℕ) → IsSteady m p → IsSteady m (take k p)
steady_front m zero p h = tt
steady_front m (suc k) [] h = tt
steady_front m (suc k) (n ∷ p) (inl h) = inl (h.0, steady_front m k p h.1)
steady_front m (suc k) (n ∷ p) (inr h) = inr (All-take (λ x. m ≤ x) (suc k) (n ∷ p) h)

steady_later : (m k n : ℕ) (p : List ℕ) → k ≤ n → IsSteady m (take n p) → IsSteady m (take k (0 ∷ 0 ∷ 0 ∷ p))
steady_later m zero n p l h = tt
steady_later m (suc zero) n p l h = inl (refl, tt)
steady_later m (suc (suc zero)) n p l h = inl (refl, inl (refl, tt))
steady_later m (suc (suc (suc k))) n p l h = inl (refl, inl (refl, inl (refl, subst (IsSteady m) (take-take k n p (omega arith)) (steady_front m k (take n p) h))))

-- a turn of the sender
sent_turn : (own next : Tributary) (ais : ℕ → ℕ) (bytes p : List ℕ) (views others : ℕ → Option View) (s u n : ℕ) (view : View)
    → Arrives own bytes p views s s s u → length next.slots ≡ length own.slots → s + n ≤ u
    → CarriesTurn next (joined_back (emissions own ais (past_of views s n))) (0 ∷ lengths_back (emissions own ais (past_of views s n))) n view
    → CarriesTurn next bytes (0 ∷ 0 ∷ 0 ∷ p) n view
sent_turn own next ais bytes p views others s u n view r same h turn =
    let q = 0 ∷ 0 ∷ 0 ∷ p in
    let slots : 0 < length next.slots = (let some = r.slots in omega arith) in
    let front = joins own ais bytes p views s u n r (omega arith) in
    let numbers : (0 ∷ lengths_back (emissions own ais (past_of views s n))) ≡ take (suc n) q = ap (λ xs. 0 ∷ xs) (as_many own ais bytes p views s u n r (omega arith)) in
    let totals : SameTotals (0 ∷ lengths_back (emissions own ais (past_of views s n))) q n = record { each = λ i l. ap (λ xs. sent xs i) numbers ∙ sent_front q (suc n) i (omega arith) } in
    let low : sent q n ≤ sent p (n - 2) = (let a = sent_later p n in let b = sent_up p (n - 3) (n - 2) (omega arith) in omega arith) in
    turn_on next bytes _ _ q (sent p (n - 2)) n view slots front low totals (sent_up q (n - 1) n (omega arith)) turn

pub passes_on : PassesOn
passes_on own next ais bytes p views others s u w r stop sends =
    let m = length own.slots in
    let q = 0 ∷ 0 ∷ 0 ∷ p in
    let numbers = r.carries.numbers in
    let enough = r.carries.enough in
    let some = r.slots in
    let slots = sends.slots in
    record {
      slots = omega arith;
      order = omega arith;
      whole = sends.whole;
      carries = record {
        order = omega arith;
        numbers = omega arith;
        enough = (let a = sent_later p (w + 1 - s) in let b = sent_up p (w + 1 - s - 3) (u + 1 - s) (omega arith) in omega arith);
        fits = λ t low high.
            subst (λ k. cm_in k q (t - s) ≤ 15232) (sym slots)
            (later_fits m p (t - s) (λ i e. subst (λ x. cm_in m p x ≤ 15232) (let f : s + i - s ≡ i = omega arith in f) (r.carries.fits (s + i) (omega arith) (omega arith))));
        each = λ t low high.
            let seen = sends.each t low high in
            (seen.0, (seen.1.0, sent_turn own next ais bytes p views others s u (t - s) seen.0 r slots (omega arith) seen.1.1));
      };
      steady = subst (λ k. IsSteady k (take (w + 1 - s) q)) (sym slots) (steady_later m (w + 1 - s) (u + 1 - s) p (omega arith) r.steady);
    }

-- ---- many nodes

later_first : (k : ℕ) (p : List ℕ) → later k (0 ∷ 0 ∷ 0 ∷ p) ≡ 0 ∷ 0 ∷ 0 ∷ later k p
later_first zero p = refl
later_first (suc k) p = ap (λ (xs : List ℕ). 0 ∷ 0 ∷ 0 ∷ xs) (later_first k p)

pub carries_to_the_end : CarriesToTheEnd
carries_to_the_end ais bytes p s leg [] r chain = r
carries_to_the_end ais bytes p s leg (next ∷ legs) r chain =
    let first : Arrives next.own bytes (0 ∷ 0 ∷ 0 ∷ p) next.views s s s next.stop = passes_on leg.own next.own ais bytes p leg.views next.views s leg.stop next.stop r chain.0 chain.1 in
    subst (λ q. Arrives (last_of next legs).own bytes q (last_of next legs).views s s s (last_of next legs).stop) (later_first (length legs) p)
    (carries_to_the_end ais bytes (0 ∷ 0 ∷ 0 ∷ p) s next legs first chain.2)
