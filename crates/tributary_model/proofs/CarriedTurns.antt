-- The sink without totals in turns whose views carry a list of bytes.
use Rattle.std.proofs.Common.{◌≡◌, ℕ, suc, ◌+◌, ◌*◌, ◌/◌, ◌%◌, ◌-◌, ◌<◌, ◌≤◌, List, [], ◌∷◌, ◌++◌, length, take, drop, Bool, true, false, Option, Some, None, refl, ap, ◌∙◌, sym, subst, arith}
use Rattle.std.specs.Prelude.{slice_range, slice_get, ◌==◌}
use Rattle.std.specs.Option.{ForSome}
use Rattle.std.proofs.Math.Nat.{mod-lt}
use Rattle.gmp_rule.specs.DataRule.{IsData}
use Rattle.jc_codec.specs.Message.{word_said}
use Rattle.tributary_model.specs.declared.turns.Hearing.TheVariants.{Pair}
use Rattle.tributary_model.specs.declared.turns.Said.{Said}
use Rattle.tributary_model.specs.declared.turns.Standing.{Standing}
use Rattle.tributary_model.specs.declared.turns.Standing.TheVariants.{Waiting, Down, Up}
use Rattle.tributary_model.specs.Places.{Tributary, View, IsWhole, AreWholeTurns}
use Rattle.tributary_model.specs.Messages.{hears_message}
use Rattle.tributary_model.specs.Stretches.{any_marked}
use Rattle.tributary_model.specs.Emission.{data_bytes, emission}
use Rattle.tributary_model.specs.Machine.{Machine, begun, next_said, waits_on, opened, went_on, given_of, kept_of, up_gives, after, gives, machine_after}
use Rattle.tributary_model.specs.Carries.{sent, cm_in, cnd_in, CarriesTurn, past_of}
use Rattle.tributary_model.proofs.Law.{machine_next, machine_is_emission}
use Rattle.tributary_model.proofs.Totals.{emitted_pieces, left_piece, groups_next}
use Rattle.tributary_model.proofs.CarriedGroups.{carried_data}
use Rattle.tributary_model.proofs.CarriedMessage.{heard_back}
use Rattle.tributary_model.proofs.Unmarked.{unmarked_next}

-- ---- the machine in a turn of a stretch

abbrev pub up_at : Said → (pending : List ℕ) → Machine
up_at said pending = record { standing = Up said; pending = pending; place = 0 }

-- what is said after a turn with this pair
abbrev pub said_now : (c d : ℕ) → Option ℕ → Said
said_now c d former = record { cm = c; cnd = d; damaged = 0; due = former }

up_after : (m : ℕ) (said : Said) (pending : List ℕ) (view : View) (c d : ℕ) (equal : Bool) → hears_message (Some said.cm) m view.message ≡ Pair c d equal
    → after m false (Some view) (up_at said pending) ≡ up_at (said_now c d (Some said.cnd)) (kept_of said.due pending (data_bytes said.cm view.groups))
up_after m said pending view c d equal e = ap (λ h. went_on (next_said said h) said pending (data_bytes said.cm view.groups)) e

up_emits : (m : ℕ) (ais : ℕ → ℕ) (said : Said) (pending : List ℕ) (view : View) (c d : ℕ) (equal : Bool) → hears_message (Some said.cm) m view.message ≡ Pair c d equal
    → gives m ais false (Some view) (up_at said pending) ≡ given_of said.due pending (data_bytes said.cm view.groups)
up_emits m ais said pending view c d equal e = ap (λ h. up_gives (next_said said h) said pending (data_bytes said.cm view.groups)) e

-- a machine that is Up with this pair
pub record IsUpWith (c d : ℕ) (s : Machine) : Type 0 where
  pub said : Said
  pub pending : List ℕ
  pub is : s ≡ up_at said pending
  pub cm : said.cm ≡ c
  pub cnd : said.cnd ≡ d

-- a pair with equal indicators is taken up, however the machine stands
pub anew_after : (m : ℕ) (view : View) (c d : ℕ) (s : Machine) → ((kept : Option ℕ) → hears_message kept m view.message ≡ Pair c d true) → IsUpWith c d (after m false (Some view) s)
anew_after m view c d s heard = go s.standing s.pending s.place
  where
    go : (standing : Standing) (pending : List ℕ) (place : ℕ) → IsUpWith c d (after m false (Some view) (record { standing = standing; pending = pending; place = place }))
    go (Waiting n) pending place = record {
      said = said_now c d None;
      pending = [];
      is = ap (λ h. opened (begun (Some h)) (waits_on n)) (heard None);
      cm = refl;
      cnd = refl;
    }
    go Down pending place = record {
      said = said_now c d None;
      pending = [];
      is = ap (λ h. opened (begun (Some h)) (record { standing = Down; pending = []; place = place + m * 15168 })) (heard None);
      cm = refl;
      cnd = refl;
    }
    go (Up said) pending place = record {
      said = said_now c d (Some said.cnd);
      pending = kept_of said.due pending (data_bytes said.cm view.groups);
      is = ap (λ h. went_on (next_said said h) said pending (data_bytes said.cm view.groups)) (heard (Some said.cm));
      cm = refl;
      cnd = refl;
    }

-- ---- a turn that carries

-- The turn after n others of a connection that began with turn a, the i-th from 0 of its sender, carries the bytes.
pub record IsCarried (own : Tributary) (bytes p : List ℕ) (views : ℕ → Option View) (a n i : ℕ) : Type 0 where
  pub view : View
  pub is : views (a + n) ≡ Some view
  pub turn : CarriesTurn own bytes p i view
  pub whole : IsWhole (length own.slots) view
  pub fits : cm_in (length own.slots) p i ≤ 15232
  pub within : i < length p
  pub reaches : sent p (i - 1) ≤ length own.slots * (sent p i / length own.slots)

-- the turns of a connection, with the last one seen
pub turns_next : (own : Tributary) (views : ℕ → Option View) (a n : ℕ) (view : View) → views (a + n) ≡ Some view
    → any_marked own (past_of views a (suc n)) ≡ any_marked own (Some view ∷ past_of views a n)
turns_next own views a n view e = ap (λ v. any_marked own (v ∷ past_of views a n)) e

-- an own slot that is not marked before it is not marked at it
pub unmarked_on : (own : Tributary) (bytes p : List ℕ) (views : ℕ → Option View) (a n i : ℕ) → IsCarried own bytes p views a n i
    → any_marked own (past_of views a n) ≡ false → any_marked own (past_of views a (suc n)) ≡ false
unmarked_on own bytes p views a n i t e = turns_next own views a n t.view t.is ∙ unmarked_next own (past_of views a n) t.view e t.turn.msi

-- the machine takes its view
pub machine_on : (own : Tributary) (views : ℕ → Option View) (a n : ℕ) (view : View) → views (a + n) ≡ Some view → any_marked own (past_of views a (suc n)) ≡ false
    → machine_after own (past_of views a (suc n)) ≡ after (length own.slots) false (Some view) (machine_after own (past_of views a n))
machine_on own views a n view is unmarked =
    let m = length own.slots in
    let s = machine_after own (past_of views a n) in
    machine_next own (past_of views a n) (views (a + n))
    ∙ ap (λ t. after m t (views (a + n)) s) unmarked
    ∙ ap (λ v. after m false v s) is

-- and so for what it gives
pub emission_on : (own : Tributary) (ais : ℕ → ℕ) (views : ℕ → Option View) (a n : ℕ) (view : View) → 0 < length own.slots → AreWholeTurns (length own.slots) (past_of views a (suc n))
    → views (a + n) ≡ Some view → any_marked own (past_of views a (suc n)) ≡ false
    → emission own ais (past_of views a n) (views (a + n)) ≡ gives (length own.slots) ais false (Some view) (machine_after own (past_of views a n))
emission_on own ais views a n view h whole is unmarked =
    let m = length own.slots in
    let s = machine_after own (past_of views a n) in
    sym (machine_is_emission own ais (past_of views a n) (views (a + n)) h whole)
    ∙ ap (λ t. gives m ais t (views (a + n)) s) unmarked
    ∙ ap (λ v. gives m ais false v s) is

pub rest_less : (m : ℕ) (p : List ℕ) (i : ℕ) → 0 < m → cnd_in m p i < m
rest_less m p i h = mod-lt (sent p (i + 1)) h

some_low : (c : ℕ) → c ≤ 15232 → ForSome (Some c) (λ n. n ≤ 15232)
some_low c h x e = subst (λ n. n ≤ 15232) (ap value e) h
  where
    value : Option ℕ → ℕ
    value (Some n) = n
    value None = 0

-- what is heard in it, after the number of the turn before
heard_next : (own : Tributary) (bytes p : List ℕ) (views : ℕ → Option View) (a n i : ℕ) → 0 < length own.slots → (t : IsCarried own bytes p views a n (suc i))
    → cm_in (length own.slots) p i ≤ 15232
    → (equal : Bool) × (hears_message (Some (cm_in (length own.slots) p i)) (length own.slots) t.view.message ≡ Pair (cm_in (length own.slots) p (suc i)) (cnd_in (length own.slots) p (suc i)) equal)
heard_next own bytes p views a n i h t low =
    let m = length own.slots in
    let word = word_said (Some (cm_in m p i)) (cm_in m p (suc i)) in (
      word.ii == word.di,
      heard_back m (Some (cm_in m p i)) (cm_in m p (suc i)) (cnd_in m p (suc i)) t.view.message (some_low (cm_in m p i) low) t.fits (rest_less m p (suc i) h) t.turn.message,
    )

-- what it extracts: the groups from those of the turns up to two before on
fresh_next : (own : Tributary) (bytes p : List ℕ) (views : ℕ → Option View) (a n i : ℕ) → 0 < length own.slots → (t : IsCarried own bytes p views a n (suc i))
    → cm_in (length own.slots) p i ≤ 15232
    → data_bytes (cm_in (length own.slots) p i) t.view.groups ≡ slice_range bytes (length own.slots * (sent p i / length own.slots)) (length own.slots * (sent p (suc i) / length own.slots))
fresh_next own bytes p views a n i h t low =
    let m = length own.slots in
    let c = cm_in m p i in
    let before : suc i - 1 ≡ i = omega arith in
    let each : (j : ℕ) → 1 ≤ j → j ≤ 15232 → IsData c j → slice_get t.view.groups (j - 1) ≡ Some (take m (drop (m * (sent p i / m + j * c / 15232 - 1)) bytes)) =
    λ j l r d. t.turn.groups j l r d ∙ ap (λ x. Some (take m (drop (m * (sent p x / m + j * c / 15232 - 1)) bytes))) before in
    let within = t.within in
    carried_data m c (sent p i / m) bytes t.view.groups low t.whole.many each
    ∙ ap (λ x. slice_range bytes (m * (sent p i / m)) (m * x)) (groups_next m p i h (omega arith) ∙ ap (λ x. sent p x / m) (let e : i + 1 ≡ suc i = omega arith in e))

-- ---- the machine after turns that carry

-- it is Up with the pair of the i-th turn
abbrev pub Kept : Tributary → (p : List ℕ) → (views : ℕ → Option View) → (a n i : ℕ) → Type 0
Kept own p views a n i = IsUpWith (cm_in (length own.slots) p i) (cnd_in (length own.slots) p i) (machine_after own (past_of views a n))

-- after the turn behind it, it keeps the remainder of both
pub record IsNear (own : Tributary) (p : List ℕ) (views : ℕ → Option View) (a n i : ℕ) : Type 0 where
  pub pending : List ℕ
  pub machine : machine_after own (past_of views a n)
      ≡ up_at (said_now (cm_in (length own.slots) p (suc i)) (cnd_in (length own.slots) p (suc i)) (Some (cnd_in (length own.slots) p i))) pending

-- and after one more what is pending are the bytes from those of the turns up to two before on
abbrev pub IsExact : Tributary → (bytes p : List ℕ) → (views : ℕ → Option View) → (a n i : ℕ) → Type 0
IsExact own bytes p views a n i =
    machine_after own (past_of views a n)
    ≡ up_at (said_now (cm_in (length own.slots) p (suc i)) (cnd_in (length own.slots) p (suc i)) (Some (cnd_in (length own.slots) p i)))
    (slice_range bytes (sent p i) (length own.slots * (sent p (suc i) / length own.slots)))

-- a turn more, after a machine that is Up with the pair of the turn before
pub kept_next : (own : Tributary) (bytes p : List ℕ) (views : ℕ → Option View) (a n i : ℕ) (former : Option ℕ) (pending : List ℕ) → 0 < length own.slots
    → (t : IsCarried own bytes p views a n (suc i)) → cm_in (length own.slots) p i ≤ 15232 → any_marked own (past_of views a (suc n)) ≡ false
    → machine_after own (past_of views a n) ≡ up_at (said_now (cm_in (length own.slots) p i) (cnd_in (length own.slots) p i) former) pending
    → machine_after own (past_of views a (suc n))
    ≡ up_at (said_now (cm_in (length own.slots) p (suc i)) (cnd_in (length own.slots) p (suc i)) (Some (cnd_in (length own.slots) p i)))
    (kept_of former pending (slice_range bytes (length own.slots * (sent p i / length own.slots)) (length own.slots * (sent p (suc i) / length own.slots))))
kept_next own bytes p views a n i former pending h t low unmarked e =
    let m = length own.slots in
    let said = said_now (cm_in m p i) (cnd_in m p i) former in
    let heard = heard_next own bytes p views a n i h t low in
    machine_on own views a n t.view t.is unmarked
    ∙ ap (after m false (Some t.view)) e
    ∙ up_after m said pending t.view (cm_in m p (suc i)) (cnd_in m p (suc i)) heard.0 heard.1
    ∙ ap (λ xs. up_at (said_now (cm_in m p (suc i)) (cnd_in m p (suc i)) (Some (cnd_in m p i))) (kept_of former pending xs)) (fresh_next own bytes p views a n i h t low)

pub emits_next : (own : Tributary) (ais : ℕ → ℕ) (bytes p : List ℕ) (views : ℕ → Option View) (a n i : ℕ) (former : Option ℕ) (pending : List ℕ) → 0 < length own.slots
    → AreWholeTurns (length own.slots) (past_of views a (suc n))
    → (t : IsCarried own bytes p views a n (suc i)) → cm_in (length own.slots) p i ≤ 15232 → any_marked own (past_of views a (suc n)) ≡ false
    → machine_after own (past_of views a n) ≡ up_at (said_now (cm_in (length own.slots) p i) (cnd_in (length own.slots) p i) former) pending
    → emission own ais (past_of views a n) (views (a + n))
    ≡ given_of former pending (slice_range bytes (length own.slots * (sent p i / length own.slots)) (length own.slots * (sent p (suc i) / length own.slots)))
emits_next own ais bytes p views a n i former pending h whole t low unmarked e =
    let m = length own.slots in
    let said = said_now (cm_in m p i) (cnd_in m p i) former in
    let heard = heard_next own bytes p views a n i h t low in
    emission_on own ais views a n t.view h whole t.is unmarked
    ∙ ap (gives m ais false (Some t.view)) e
    ∙ up_emits m ais said pending t.view (cm_in m p (suc i)) (cnd_in m p (suc i)) heard.0 heard.1
    ∙ ap (given_of former pending) (fresh_next own bytes p views a n i h t low)

rest_is : (m : ℕ) (p : List ℕ) (i : ℕ) → cnd_in m p i ≡ sent p (suc i) % m
rest_is m p i = ap (λ x. sent p x % m) (let e : i + 1 ≡ suc i = omega arith in e)

-- what is kept of the bytes extracted, once the remainder is right
exact_kept : (own : Tributary) (bytes p : List ℕ) (i : ℕ) → sent p (suc i) ≤ length own.slots * (sent p (suc (suc i)) / length own.slots)
    → drop (cnd_in (length own.slots) p i) (slice_range bytes (length own.slots * (sent p (suc i) / length own.slots)) (length own.slots * (sent p (suc (suc i)) / length own.slots)))
    ≡ slice_range bytes (sent p (suc i)) (length own.slots * (sent p (suc (suc i)) / length own.slots))
exact_kept own bytes p i now =
    let m = length own.slots in
    ap (λ d. drop d (slice_range bytes (m * (sent p (suc i) / m)) (m * (sent p (suc (suc i)) / m)))) (rest_is m p i)
    ∙ left_piece bytes m (sent p (suc i)) (sent p (suc (suc i))) now

exact_emitted : (own : Tributary) (bytes p : List ℕ) (i : ℕ) → sent p i ≤ length own.slots * (sent p (suc i) / length own.slots)
    → sent p (suc i) ≤ length own.slots * (sent p (suc (suc i)) / length own.slots)
    → slice_range bytes (sent p i) (length own.slots * (sent p (suc i) / length own.slots))
    ++ take (cnd_in (length own.slots) p i) (slice_range bytes (length own.slots * (sent p (suc i) / length own.slots)) (length own.slots * (sent p (suc (suc i)) / length own.slots)))
    ≡ slice_range bytes (sent p i) (sent p (suc i))
exact_emitted own bytes p i before now =
    let m = length own.slots in
    ap (λ d. slice_range bytes (sent p i) (m * (sent p (suc i) / m)) ++ take d (slice_range bytes (m * (sent p (suc i) / m)) (m * (sent p (suc (suc i)) / m)))) (rest_is m p i)
    ∙ emitted_pieces bytes m (sent p i) (sent p (suc i)) (sent p (suc (suc i))) before now

-- the bytes up to two turns before are in the whole groups up to the turn before
reached : (own : Tributary) (bytes p : List ℕ) (views : ℕ → Option View) (a n i : ℕ) → IsCarried own bytes p views a n (suc i) → sent p i ≤ length own.slots * (sent p (suc i) / length own.slots)
reached own bytes p views a n i t = subst (λ x. sent p x ≤ length own.slots * (sent p (suc i) / length own.slots)) (let e : suc i - 1 ≡ i = omega arith in e) t.reaches

-- from the turn taken up anew to the next
pub near_next : (own : Tributary) (bytes p : List ℕ) (views : ℕ → Option View) (a n i : ℕ) → 0 < length own.slots
    → (t : IsCarried own bytes p views a n (suc i)) → cm_in (length own.slots) p i ≤ 15232 → any_marked own (past_of views a (suc n)) ≡ false
    → Kept own p views a n i → IsNear own p views a (suc n) i
near_next own bytes p views a n i h t low unmarked kept =
    let m = length own.slots in
    let s = machine_after own (past_of views a n) in
    let said : s ≡ up_at (record { cm = cm_in m p i; cnd = cnd_in m p i; damaged = kept.said.damaged; due = kept.said.due }) kept.pending =
    kept.is
    ∙ ap (λ x. up_at (record { cm = x; cnd = kept.said.cnd; damaged = kept.said.damaged; due = kept.said.due }) kept.pending) kept.cm
    ∙ ap (λ x. up_at (record { cm = cm_in m p i; cnd = x; damaged = kept.said.damaged; due = kept.said.due }) kept.pending) kept.cnd in
    let heard = heard_next own bytes p views a n i h t low in
    record {
      pending = kept_of kept.said.due kept.pending (data_bytes (cm_in m p i) t.view.groups);
      machine =
          machine_on own views a n t.view t.is unmarked
          ∙ ap (after m false (Some t.view)) said
          ∙ up_after m (record { cm = cm_in m p i; cnd = cnd_in m p i; damaged = kept.said.damaged; due = kept.said.due }) kept.pending t.view (cm_in m p (suc i)) (cnd_in m p (suc i)) heard.0 heard.1;
    }

-- and to the one after it
pub exact_after_near : (own : Tributary) (bytes p : List ℕ) (views : ℕ → Option View) (a n i : ℕ) → 0 < length own.slots
    → (t : IsCarried own bytes p views a n (suc (suc i))) → cm_in (length own.slots) p (suc i) ≤ 15232 → any_marked own (past_of views a (suc n)) ≡ false
    → IsNear own p views a n i → IsExact own bytes p views a (suc n) (suc i)
exact_after_near own bytes p views a n i h t low unmarked near =
    let m = length own.slots in
    kept_next own bytes p views a n (suc i) (Some (cnd_in m p i)) near.pending h t low unmarked near.machine
    ∙ ap (up_at (said_now (cm_in m p (suc (suc i))) (cnd_in m p (suc (suc i))) (Some (cnd_in m p (suc i))))) (exact_kept own bytes p i (reached own bytes p views a n (suc i) t))

-- what a turn emits then
pub exact_emits : (own : Tributary) (ais : ℕ → ℕ) (bytes p : List ℕ) (views : ℕ → Option View) (a n i : ℕ) → 0 < length own.slots
    → AreWholeTurns (length own.slots) (past_of views a (suc n))
    → (t : IsCarried own bytes p views a n (suc (suc i))) → cm_in (length own.slots) p (suc i) ≤ 15232 → any_marked own (past_of views a (suc n)) ≡ false
    → sent p i ≤ length own.slots * (sent p (suc i) / length own.slots)
    → IsExact own bytes p views a n i → emission own ais (past_of views a n) (views (a + n)) ≡ slice_range bytes (sent p i) (sent p (suc i))
exact_emits own ais bytes p views a n i h whole t low unmarked before exact =
    let m = length own.slots in
    emits_next own ais bytes p views a n (suc i) (Some (cnd_in m p i)) (slice_range bytes (sent p i) (m * (sent p (suc i) / m))) h whole t low unmarked exact
    ∙ exact_emitted own bytes p i before (reached own bytes p views a n (suc i) t)
