-- A line whose MFAS goes on from 0 has a multiframe in each turn.
use Rattle.std.proofs.Common.{◌≡◌, ◌<◌, ◌≤◌, ◌+◌, ◌*◌, ◌/◌, ◌%◌, ℕ, zero, suc, true, cond, List, [], ◌∷◌, Some, None, length, take, drop, get_or, refl, sym, ap, ◌∙◌, arith, add-one}
use Rattle.std.specs.Prelude.{◌==◌, nat_lt}
use Rattle.std.specs.List.{concat}
use Rattle.std.proofs.lemmas.Bool.{and_from, lt-ltb, le-ltb, eq-eqb}
use Rattle.std.proofs.lemmas.List.{get_or-take, get_or-drop, length-take}
use Rattle.std.proofs.Math.Nat.{mod-eq_of_lt, mul-suc, mul-zero, div-add-mod}
use Rattle.line_side.specs.LineFile.{mfas_of}
use Rattle.line_side.specs.LineForm.{size_of}
use Rattle.line_side.proofs.Mfas.{index_mfas, length_mfas}
use Rattle.multiframe.specs.LineTurns.{starts, is_start, least_or, least_start, Lock, LineState, Hunting, Locked, Ended, lock_from, lock_of, wrong_count, CutShort, Lost, Whole, outcome_of, after_outcome, after_hunt, after_turn, line_state, kept_if, multiframe_at, multiframe}
use Rattle.plan_file.specs.declared.plan.Plan.{Plan}
use Rattle.otn_base.specs.LineSlots.{slots_of}
use Rattle.otn_base.specs.declared.line_kind.LineKind.{LineKind}
use Rattle.otn_base.specs.declared.line_kind.LineKind.TheVariants.{Otu2, Otu3}
use Rattle.device_model.specs.Entries.{form_out}
use Rattle.device_model.specs.LineFiles.{IsLineFile}
use Rattle.device_model.specs.Through.{Inputs}
use Rattle.device_model.proofs.MadeFrames.{made_at, made_whole}

-- MFAS bytes that count from 0
pub record GoOn (ms : List ℕ) : Type 0 where
  pub each : (i : ℕ) → i < length ms → get_or ms i 0 ≡ i % 256

pub next_turn : (size past : ℕ) → size * (past + 1) ≡ size * past + size
next_turn size past = ap (λ k. size * k) (add-one past) ∙ mul-suc size past

-- where the multiframe of turn past + 1 starts
abbrev pub lock_at : (size past : ℕ) → Lock
lock_at size past = record { frame = size * past; expected = size * past % 256 }

-- ---- the first turn

begins_here : (size first second : ℕ) → 0 < size → first ≡ 0 → second ≡ 1 → starts size first second ≡ true
begins_here size first second some a b =
    let none : first % size ≡ 0 = ap (λ n. n % size) a ∙ mod-eq_of_lt some in
    and_from (first % size == 0) (second == first + 1) (eq-eqb (first % size) 0 none) (eq-eqb second (first + 1) (omega arith))

starts_here : (size : ℕ) (ms : List ℕ) → 0 < size → 2 ≤ length ms → GoOn ms → is_start size ms 0 ≡ true
starts_here size ms some many on =
    and_from (nat_lt 1 (length ms)) (starts size (get_or ms 0 0) (get_or ms 1 0)) (lt-ltb 1 (length ms) (omega arith))
    (begins_here size (get_or ms 0 0) (get_or ms 1 0) some (on.each 0 (omega arith)) (on.each 1 (omega arith)))

first_start : (size : ℕ) (ms : List ℕ) (k : ℕ) → is_start size ms 0 ≡ true → least_start size ms 0 (suc k) ≡ Some 0
unfolding least_start
first_start size ms zero e = ap (λ t. least_or None t 0) e
first_start size ms (suc k) e = ap (λ o. least_or o (is_start size ms (0 + suc k)) (suc k)) (first_start size ms k e)

first_lock : (size : ℕ) (ms : List ℕ) → 2 ≤ size → size ≤ length ms → GoOn ms → lock_of size ms (Hunting 0) ≡ Some (lock_at size 0)
first_lock zero ms low many on = absurd (omega arith)
first_lock (suc k) ms low many on =
    ap (lock_from ms 0) (first_start (suc k) ms k (starts_here (suc k) ms (omega arith) (omega arith) on))
    ∙ ap (λ n. Some (record { frame = 0; expected = n })) (on.each 0 (omega arith))
    ∙ ap (λ n. Some (record { frame = n; expected = n % 256 })) (sym (mul-zero (suc k)))

-- ---- a turn that is locked

none_wrong : (e f : ℕ) (xs : List ℕ) → e % 256 ≡ f % 256 → ((k : ℕ) → k < length xs → get_or xs k 0 ≡ (f + k) % 256) → wrong_count e xs ≡ 0
none_wrong e f [] same h = refl
none_wrong e f (x ∷ xs) same h =
    let here : x ≡ e % 256 = (let z = h 0 (omega arith) in omega arith) in
    let rest = none_wrong (e + 1) (f + 1) xs (omega arith) (λ k l. let z = h (suc k) (omega arith) in omega arith) in
    ap (λ t. cond t 0 1 + wrong_count (e + 1) xs) (eq-eqb x (e % 256) here) ∙ (let sum : 0 + wrong_count (e + 1) xs ≡ 0 = omega arith in sum)

members : (f size : ℕ) (ms : List ℕ) → f + size ≤ length ms → GoOn ms → wrong_count (f % 256) (take size (drop f ms)) ≡ 0
members f size ms many on = none_wrong (f % 256) f (take size (drop f ms)) (omega arith) (λ k l.
    let one = length-take size (drop f ms) in
    let inside : k < size = omega arith in
    get_or-take size (drop f ms) k 0 inside ∙ get_or-drop f ms k 0 ∙ on.each (f + k) (omega arith))

whole_here : (size past : ℕ) (ms : List ℕ) → size * past + size ≤ length ms → GoOn ms → outcome_of size ms (lock_at size past) ≡ Whole
whole_here size past ms many on =
    let wrong = wrong_count (size * past % 256) (take size (drop (size * past) ms)) in
    let none : wrong ≡ 0 = members (size * past) size ms many on in
    ap (λ t. cond t CutShort (cond (nat_lt (size / 2) wrong) Lost Whole)) (le-ltb (length ms) (size * past + size) many)
    ∙ ap (λ t. cond t Lost Whole) (le-ltb (size / 2) wrong (omega arith))

follows : (size : ℕ) (ms : List ℕ) (was : LineState) (lock : Lock) → lock_of size ms was ≡ Some lock → outcome_of size ms lock ≡ Whole
    → after_turn size ms was ≡ Locked (record { frame = lock.frame + size; expected = (lock.expected + size) % 256 })
follows size ms (Hunting i) lock e whole = ap (after_hunt size ms i) e ∙ ap (after_outcome size lock) whole
follows size ms (Locked l) lock e whole =
    let same : l ≡ lock = cc in
    ap (λ l. after_outcome size l (outcome_of size ms l)) same ∙ ap (after_outcome size lock) whole
follows size ms Ended lock e whole = absurd (cc)

-- ---- each turn

next_lock : (size past : ℕ) → Some (record { frame = size * past + size; expected = (size * past % 256 + size) % 256 }) ≡ Some (lock_at size (suc past))
next_lock size past =
    let next = mul-suc size past in
    let expected : (size * past % 256 + size) % 256 ≡ size * suc past % 256 = omega arith in
    ap (λ n. Some (record { frame = size * past + size; expected = n })) expected ∙ ap (λ n. Some (record { frame = n; expected = size * suc past % 256 })) (sym next)

locked : (size : ℕ) (ms : List ℕ) (past : ℕ) → 2 ≤ size → size * past + size ≤ length ms → GoOn ms → lock_of size ms (line_state size ms past) ≡ Some (lock_at size past)
unfolding line_state
locked size ms zero low many on = first_lock size ms low (omega (arith, mul-zero size)) on
locked size ms (suc past) low many on =
    let next = mul-suc size past in
    let before = locked size ms past low (omega arith) on in
    let whole = whole_here size past ms (omega arith) on in
    let follow = follows size ms (line_state size ms past) (lock_at size past) before whole in
    ap (lock_of size ms) follow ∙ next_lock size past

pub has_multiframe : (size : ℕ) (ms : List ℕ) (past : ℕ) → 2 ≤ size → size * past + size ≤ length ms → GoOn ms → multiframe size ms past ≡ Some (lock_at size past)
has_multiframe size ms past low many on =
    ap (multiframe_at size ms) (locked size ms past low many on) ∙ ap (λ o. kept_if o (lock_at size past)) (whole_here size past ms many on)

-- ---- a line file

pub goes_on : (plan : Plan) (inputs : Inputs) (b count : ℕ) (frames : List (List ℕ)) → IsLineFile plan inputs b count frames → GoOn (mfas_of (concat frames))
goes_on plan inputs b count frames file = record {
  each = λ i l.
      let whole = made_whole plan inputs b count frames file in
      let all = length_mfas (concat frames) in
      let made = made_at plan inputs b count frames i file (omega arith) in
      index_mfas (concat frames) i (omega arith)
      ∙ made.frame.byte 1 7 (record { row_low = omega arith; row_high = omega arith; col_low = omega arith; col_high = omega arith })
      ∙ made.is.mfas
      ∙ ap (λ n. n % 256) (div-add-mod i (size_of (form_out plan b)));
}

two_slots : (kind : LineKind) → 2 ≤ slots_of kind
two_slots Otu2 = omega arith
two_slots Otu3 = omega arith

pub has_its_multiframes : (plan : Plan) (inputs : Inputs) (b count past : ℕ) (frames : List (List ℕ)) → IsLineFile plan inputs b count frames → size_of (form_out plan b) * (past + 1) ≤ count
    → multiframe (size_of (form_out plan b)) (mfas_of (concat frames)) past ≡ Some (lock_at (size_of (form_out plan b)) past)
has_its_multiframes plan inputs b count past frames file whole =
    let size = size_of (form_out plan b) in
    let next = next_turn size past in
    let all = length_mfas (concat frames) in
    let many = made_whole plan inputs b count frames file in
    has_multiframe size (mfas_of (concat frames)) past (two_slots (form_out plan b).kind) (omega arith) (goes_on plan inputs b count frames file)
