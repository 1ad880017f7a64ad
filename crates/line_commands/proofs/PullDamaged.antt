-- One damaged message changes nothing of what `pull` writes.
use Rattle.std.proofs.Common.{◌≡◌, ◌≤◌, ◌<◌, ◌+◌, ◌-◌, ◌∙◌, ◌⊎◌, inl, inr, ℕ, zero, suc, List, [], ◌∷◌, ◌++◌, Option, Some, refl, sym, ap, subst, arith}
use Rattle.std.specs.List.{flat_map}
use Rattle.std.proofs.lemmas.Bool.{cases_lt}
use Rattle.line_side.specs.LineFile.{mfas_of}
use Rattle.maintenance_signals.specs.Stream.{signal_byte}
use Rattle.maintenance_signals.specs.declared.signal.Signal.TheVariants.{Ais}
use Rattle.tributary_model.specs.Places.{Tributary, View}
use Rattle.tributary_model.specs.Emission.{emission}
use Rattle.tributary_model.specs.Damage.{NeverThree, emissions}
use Rattle.tributary_model.proofs.OneDamaged.{as_if_repeated}
use Rattle.device_model.specs.LineViews.{view_at, views_until, emitted_at}
use Rattle.line_commands.specs.PullReport.{tributary, pull_report}
use Rattle.tributary_line.specs.TurnsDone.{turns_of}
use Rattle.line_commands.specs.PullDamaged.{LinesDifferInOneMessage, WritesAsIfRepeated}
use Rattle.line_commands.proofs.PullWorlds.{same_flat}

views_next : (own : Tributary) (available : List ℕ) (n : ℕ) → views_until own available (suc n) ≡ view_at own available n ∷ views_until own available n
unfolding views_until
views_next own available n = refl

emitted_of : (own : Tributary) (available : List ℕ) (t : ℕ) → emitted_at own available t ≡ emission own (signal_byte Ais) (views_until own available t) (view_at own available t)
unfolding emitted_at
emitted_of own available t = refl

-- the turns before are the same
same_before : (own : Tributary) (one other : List ℕ) (i n : ℕ) → LinesDifferInOneMessage own one other i → n ≤ i → views_until own one n ≡ views_until own other n
unfolding views_until
same_before own one other i zero d h = refl
same_before own one other i (suc n) d h =
    ap (λ v. v ∷ views_until own one n) (d.views n (λ e. omega arith)) ∙ ap (λ past. view_at own other n ∷ past) (same_before own one other i n d (omega arith))

-- the views of k turns behind turn i + 1, the last first
behind : Tributary → List ℕ → (i k : ℕ) → List (Option View)
behind own available i zero = []
behind own available i (suc k) = view_at own available (i + suc k) ∷ behind own available i k

same_behind : (own : Tributary) (one other : List ℕ) (i k : ℕ) → LinesDifferInOneMessage own one other i → behind own one i k ≡ behind own other i k
unfolding behind
same_behind own one other i zero d = refl
same_behind own one other i (suc k) d =
    ap (λ v. v ∷ behind own one i k) (d.views (i + suc k) (λ e. omega arith)) ∙ ap (λ past. view_at own other (i + suc k) ∷ past) (same_behind own one other i k d)

split_at : (own : Tributary) (available : List ℕ) (i k : ℕ) → views_until own available (i + suc k) ≡ behind own available i k ++ (view_at own available i ∷ views_until own available i)
unfolding behind
split_at own available i zero = ap (views_until own available) (let e : i + suc zero ≡ suc i = omega arith in e) ∙ views_next own available i
split_at own available i (suc k) =
    ap (views_until own available) (let e : i + suc (suc k) ≡ suc (i + suc k) = omega arith in e)
    ∙ views_next own available (i + suc k)
    ∙ ap (λ past. view_at own available (i + suc k) ∷ past) (split_at own available i k)

-- all turns of the two lines up to turn i + 1 + k
first_list : (own : Tributary) (one other : List ℕ) (i k : ℕ) → (d : LinesDifferInOneMessage own one other i) → views_until own one (i + suc k) ≡ behind own one i k ++ (Some d.view ∷ views_until own one i)
first_list own one other i k d = split_at own one i k ∙ ap (λ v. behind own one i k ++ (v ∷ views_until own one i)) d.here

second_list : (own : Tributary) (one other : List ℕ) (i k : ℕ) → (d : LinesDifferInOneMessage own one other i)
    → views_until own other (i + suc k) ≡ behind own one i k ++ (Some (record d.view { message = d.said }) ∷ views_until own one i)
second_list own one other i k d =
    split_at own other i k
    ∙ ap (λ later. later ++ (view_at own other i ∷ views_until own other i)) (sym (same_behind own one other i k d))
    ∙ ap (λ past. behind own one i k ++ (view_at own other i ∷ past)) (sym (same_before own one other i i d (omega arith)))
    ∙ ap (λ v. behind own one i k ++ (v ∷ views_until own one i)) d.there

-- the last of some emissions
abbrev last_emission : List (List ℕ) → List ℕ
last_emission [] = []
last_emission (last ∷ before) = last

emissions_next : (own : Tributary) (available : List ℕ) (t : ℕ) → last_emission (emissions own (signal_byte Ais) (views_until own available (suc t))) ≡ emitted_at own available t
emissions_next own available t = ap (λ past. last_emission (emissions own (signal_byte Ais) past)) (views_next own available t) ∙ sym (emitted_of own available t)

same_late : (own : Tributary) (one other : List ℕ) (i k : ℕ) → LinesDifferInOneMessage own one other i → emitted_at own one (i + k) ≡ emitted_at own other (i + k)
same_late own one other i k d =
    let first = first_list own one other i k d in
    let second = second_list own one other i k d in
    let next : suc (i + k) ≡ i + suc k = omega arith in
    let law = as_if_repeated own (signal_byte Ais) (views_until own one i) (behind own one i k) d.view d.said d.cm d.cnd d.equal d.had d.damaged d.repeats
    (subst (NeverThree own) first (d.one_calm (i + suc k))) (subst (NeverThree own) second (d.other_calm (i + suc k))) in
    sym (emissions_next own one (i + k))
    ∙ ap (λ n. last_emission (emissions own (signal_byte Ais) (views_until own one n))) next
    ∙ ap (λ past. last_emission (emissions own (signal_byte Ais) past)) first
    ∙ ap last_emission law.0
    ∙ ap (λ past. last_emission (emissions own (signal_byte Ais) past)) (sym second)
    ∙ ap (λ n. last_emission (emissions own (signal_byte Ais) (views_until own other n))) (sym next)
    ∙ emissions_next own other (i + k)

same_early : (own : Tributary) (one other : List ℕ) (i t : ℕ) → LinesDifferInOneMessage own one other i → t < i → emitted_at own one t ≡ emitted_at own other t
same_early own one other i t d h =
    emitted_of own one t
    ∙ ap (λ past. emission own (signal_byte Ais) past (view_at own one t)) (same_before own one other i t d (omega arith))
    ∙ ap (emission own (signal_byte Ais) (views_until own other t)) (d.views t (λ e. omega arith))
    ∙ sym (emitted_of own other t)

same_all : (own : Tributary) (one other : List ℕ) (i t : ℕ) → LinesDifferInOneMessage own one other i → emitted_at own one t ≡ emitted_at own other t
same_all own one other i t d = go (cases_lt t i)
  where
    go : (t < i) ⊎ (i ≤ t) → emitted_at own one t ≡ emitted_at own other t
    go (inl h) = same_early own one other i t d h
    go (inr h) = subst (λ n. emitted_at own one n ≡ emitted_at own other n) (let e : i + (t - i) ≡ t = omega arith in e) (same_late own one other i (t - i) d)

written_same : (own : Tributary) (one other : List ℕ) (i : ℕ) → LinesDifferInOneMessage own one other i → pull_report own one ≡ pull_report own other
unfolding pull_report
written_same own one other i d =
    same_flat (emitted_at own one) (emitted_at own other) (turns_of 8 (mfas_of one)) (λ t. same_all own one other i t d)
    ∙ ap (λ ms. flat_map (emitted_at own other) (turns_of 8 ms)) d.mfas

pub writes_as_if_repeated : WritesAsIfRepeated
writes_as_if_repeated port slots one other i d = written_same (tributary port slots) one other i d
