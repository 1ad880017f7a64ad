-- The tributaries that were shown, and those of which something was said.
use Rattle.std.proofs.Common.{◌≡◌, ◌≢◌, ◌<◌, ◌≤◌, ◌+◌, ◌∙◌, ◌⊎◌, inl, inr, ℕ, zero, suc, Bool, true, false, List, [], ◌∷◌, ◌++◌, Some, length, slice_get, slice_set, refl, sym, ap, subst, arith}
use Rattle.std.specs.Prelude.{◌==◌, ◌&&◌, not, if◌then◌else◌}
use Rattle.std.specs.List.{position_or_len, prefix_len}
use Rattle.std.specs.Str.{bytes_eq}
use Rattle.std.proofs.lemmas.Bool.{cases_lt}
use Rattle.std.proofs.lemmas.Option.{same_Some}
use Rattle.std.proofs.lemmas.Slice.Eq.{bytes_eq-Decides}
use Rattle.view_events.specs.EventsOf.{OneSaid, is_line_of, past_of, told_to}
use Rattle.view_events.specs.Stands.{EachStands, OneStands}
use Rattle.view_events.specs.Steps.Places.{is_next}
use Rattle.view_events.specs.TributaryEvents.{TributaryStands, last_turn}
use Rattle.view_events.specs.declared.said.TributarySaid.{TributarySaid}
use Rattle.view_events.specs.declared.tributary.Tributary.{Tributary}

-- the test of a tributary is that of what was said of it
same_test : (turn : ℕ) (label : List ℕ) (one : OneSaid) (t : Tributary) → OneStands one t → is_next turn label t ≡ is_line_of turn label one
same_test turn label one t h = ap (λ n. not (n == turn) && bytes_eq label t.label.items) h.stands.counts.last ∙ ap (λ l. not (last_turn one.past == turn) && bytes_eq label l) h.label

-- the tributary that a line is of, and what was said of it
pub record Found (turn : ℕ) (label : List ℕ) (each : List OneSaid) (items : List Tributary) (i : ℕ) : Type 0 where
  pub one : Tributary
  pub at : slice_get items i ≡ Some one
  pub label_is : one.label.items ≡ label
  pub some : past_of turn label each ≢ []
  pub stands : TributaryStands (past_of turn label each) one.tally

passes : (p q : Bool) → (p && q) ≡ true → q ≡ true
passes true q h = h
passes false q h = absurd (cc)

first_of_them : (turn : ℕ) (label : List ℕ) (one : OneSaid) (each : List OneSaid) (t : Tributary) (items : List Tributary) → OneStands one t → is_line_of turn label one ≡ true
    → Found turn label (one ∷ each) (t ∷ items) 0
first_of_them turn label one each t items h on =
    let past : past_of turn label (one ∷ each) ≡ one.past = ap (λ b. if b then one.past else past_of turn label each) on in
    let same = (bytes_eq-Decides label one.label).0 (passes (not (last_turn one.past == turn)) (bytes_eq label one.label) on) in
    record {
      one = t;
      at = refl;
      label_is = h.label ∙ sym same;
      some = subst (λ p. p ≢ []) (sym past) h.some;
      stands = subst (λ p. TributaryStands p t.tally) (sym past) h.stands;
    }

other_of_them : (turn : ℕ) (label : List ℕ) (one : OneSaid) (each : List OneSaid) (t : Tributary) (items : List Tributary) (i : ℕ) → is_line_of turn label one ≡ false
    → Found turn label each items i → Found turn label (one ∷ each) (t ∷ items) (suc i)
other_of_them turn label one each t items i off f =
    let past : past_of turn label (one ∷ each) ≡ past_of turn label each = ap (λ b. if b then one.past else past_of turn label each) off in
    record {
      one = f.one;
      at = f.at;
      label_is = f.label_is;
      some = subst (λ p. p ≢ []) (sym past) f.some;
      stands = subst (λ p. TributaryStands p f.one.tally) (sym past) f.stands;
    }

-- the first that passes a test is the first of the list, or one of the others
place_here : (p : Tributary → Bool) (t : Tributary) (items : List Tributary) → p t ≡ true → position_or_len p (t ∷ items) ≡ 0
place_here p t items on = ap (λ b. if not b then 1 + prefix_len (λ x. not (p x)) items else 0) on

place_behind : (p : Tributary → Bool) (t : Tributary) (items : List Tributary) → p t ≡ false → position_or_len p (t ∷ items) ≡ 1 + position_or_len p items
place_behind p t items off = ap (λ b. if not b then 1 + prefix_len (λ x. not (p x)) items else 0) off

found_step : (turn : ℕ) (label : List ℕ) (one : OneSaid) (each : List OneSaid) (t : Tributary) (items : List Tributary) (i : ℕ) → OneStands one t
    → position_or_len (is_next turn label) (t ∷ items) ≡ i → i < length (t ∷ items)
    → ((j : ℕ) → position_or_len (is_next turn label) items ≡ j → j < length items → Found turn label each items j) → (b : Bool) → is_line_of turn label one ≡ b
    → Found turn label (one ∷ each) (t ∷ items) i
found_step turn label one each t items i h at less later true on =
    let same = same_test turn label one t h in
    subst (Found turn label (one ∷ each) (t ∷ items)) (sym (place_here (is_next turn label) t items (same ∙ on)) ∙ at) (first_of_them turn label one each t items h on)
found_step turn label one each t items i h at less later false off =
    let same = same_test turn label one t h in
    let j = position_or_len (is_next turn label) items in
    let behind : i ≡ 1 + j = sym at ∙ place_behind (is_next turn label) t items (same ∙ off) in
    let next : suc j ≡ i = omega (arith, behind) in
    subst (Found turn label (one ∷ each) (t ∷ items)) next (other_of_them turn label one each t items j off (later j refl (omega (arith, behind, less))))

-- the tributary at the place of the first that passes
pub found : (turn : ℕ) (label : List ℕ) (each : List OneSaid) (items : List Tributary) (i : ℕ) → EachStands each items → position_or_len (is_next turn label) items ≡ i → i < length items
    → Found turn label each items i
found turn label [] [] i h at less = absurd (omega (arith, less))
found turn label [] (t ∷ items) i h at less = absurd h
found turn label (one ∷ each) [] i h at less = absurd h
found turn label (one ∷ each) (t ∷ items) i h at less =
    found_step turn label one each t items i h.0 at less (λ j e l. found turn label each items j h.1 e l) (is_line_of turn label one) refl

known_step : (turn : ℕ) (label : List ℕ) (said : TributarySaid) (next : Tributary) (one : OneSaid) (each : List OneSaid) (t : Tributary) (items : List Tributary) (i : ℕ) → OneStands one t
    → EachStands each items → position_or_len (is_next turn label) (t ∷ items) ≡ i → i < length (t ∷ items) → next.label.items ≡ label
    → TributaryStands (said ∷ past_of turn label (one ∷ each)) next.tally
    → ((j : ℕ) → position_or_len (is_next turn label) items ≡ j → j < length items → TributaryStands (said ∷ past_of turn label each) next.tally
    → EachStands (told_to turn label said each) (slice_set items j next))
    → (b : Bool) → is_line_of turn label one ≡ b → EachStands (told_to turn label said (one ∷ each)) (slice_set (t ∷ items) i next)
known_step turn label said next one each t items i h others at less name stands later true on =
    let same = same_test turn label one t h in
    let first : 0 ≡ i = sym (place_here (is_next turn label) t items (same ∙ on)) ∙ at in
    let past : past_of turn label (one ∷ each) ≡ one.past = ap (λ b. if b then one.past else past_of turn label each) on in
    let equal = (bytes_eq-Decides label one.label).0 (passes (not (last_turn one.past == turn)) (bytes_eq label one.label) on) in
    let told : OneSaid = record { label = one.label; past = said ∷ one.past } in
    let here : OneStands told next = record { label = name ∙ equal; some = (λ e. cc); stands = subst (λ p. TributaryStands (said ∷ p) next.tally) past stands } in
    subst (λ l. EachStands l (slice_set (t ∷ items) i next)) (sym (ap (λ b. if b then told ∷ each else one ∷ told_to turn label said each) on))
    (subst (λ k. EachStands (told ∷ each) (slice_set (t ∷ items) k next)) first (here, others))
known_step turn label said next one each t items i h others at less name stands later false off =
    let same = same_test turn label one t h in
    let j = position_or_len (is_next turn label) items in
    let behind : i ≡ 1 + j = sym at ∙ place_behind (is_next turn label) t items (same ∙ off) in
    let following : suc j ≡ i = omega (arith, behind) in
    let past : past_of turn label (one ∷ each) ≡ past_of turn label each = ap (λ b. if b then one.past else past_of turn label each) off in
    let told : OneSaid = record { label = one.label; past = said ∷ one.past } in
    let rest = later j refl (omega (arith, behind, less)) (subst (λ p. TributaryStands (said ∷ p) next.tally) past stands) in
    subst (λ l. EachStands l (slice_set (t ∷ items) i next)) (sym (ap (λ b. if b then told ∷ each else one ∷ told_to turn label said each) off))
    (subst (λ k. EachStands (one ∷ told_to turn label said each) (slice_set (t ∷ items) k next)) following (h, rest))

-- and the list after it is told
pub known_told : (turn : ℕ) (label : List ℕ) (said : TributarySaid) (next : Tributary) (each : List OneSaid) (items : List Tributary) (i : ℕ) → EachStands each items
    → position_or_len (is_next turn label) items ≡ i → i < length items → next.label.items ≡ label → TributaryStands (said ∷ past_of turn label each) next.tally
    → EachStands (told_to turn label said each) (slice_set items i next)
known_told turn label said next [] [] i h at less name stands = absurd (omega (arith, less))
known_told turn label said next [] (t ∷ items) i h at less name stands = absurd h
known_told turn label said next (one ∷ each) [] i h at less name stands = absurd h
known_told turn label said next (one ∷ each) (t ∷ items) i h at less name stands =
    known_step turn label said next one each t items i h.0 h.1 at less name stands (λ j e l s. known_told turn label said next each items j h.1 e l name s)
    (is_line_of turn label one) refl

-- none of them passes: not the first, and none of the others
none_here : (turn : ℕ) (label : List ℕ) (one : OneSaid) (t : Tributary) (items : List Tributary) → OneStands one t → position_or_len (is_next turn label) (t ∷ items) ≡ length (t ∷ items)
    → is_line_of turn label one ≡ true → ⊥
none_here turn label one t items h at on =
    let first = place_here (is_next turn label) t items (same_test turn label one t h ∙ on) in
    let size : length (t ∷ items) ≡ 1 + length items = omega arith in
    omega (arith, first, at, size)

none_later : (turn : ℕ) (label : List ℕ) (one : OneSaid) (t : Tributary) (items : List Tributary) → OneStands one t → position_or_len (is_next turn label) (t ∷ items) ≡ length (t ∷ items)
    → is_line_of turn label one ≡ false → position_or_len (is_next turn label) items ≡ length items
none_later turn label one t items h at off =
    let behind = place_behind (is_next turn label) t items (same_test turn label one t h ∙ off) in
    let size : length (t ∷ items) ≡ 1 + length items = omega arith in
    omega (arith, behind, at, size)

nothing_step : (turn : ℕ) (label : List ℕ) (one : OneSaid) (each : List OneSaid) (t : Tributary) (items : List Tributary) → OneStands one t
    → position_or_len (is_next turn label) (t ∷ items) ≡ length (t ∷ items) → (position_or_len (is_next turn label) items ≡ length items → past_of turn label each ≡ [])
    → (b : Bool) → is_line_of turn label one ≡ b → past_of turn label (one ∷ each) ≡ []
nothing_step turn label one each t items h at later true on = absurd (none_here turn label one t items h at on)
nothing_step turn label one each t items h at later false off =
    ap (λ b. if b then one.past else past_of turn label each) off ∙ later (none_later turn label one t items h at off)

-- nothing was said of it before
pub nothing_before : (turn : ℕ) (label : List ℕ) (each : List OneSaid) (items : List Tributary) → EachStands each items → position_or_len (is_next turn label) items ≡ length items
    → past_of turn label each ≡ []
nothing_before turn label [] [] h at = refl
nothing_before turn label [] (t ∷ items) h at = absurd h
nothing_before turn label (one ∷ each) [] h at = absurd h
nothing_before turn label (one ∷ each) (t ∷ items) h at =
    nothing_step turn label one each t items h.0 at (λ e. nothing_before turn label each items h.1 e) (is_line_of turn label one) refl

new_step : (turn : ℕ) (label : List ℕ) (said : TributarySaid) (next : Tributary) (one : OneSaid) (each : List OneSaid) (t : Tributary) (items : List Tributary) → OneStands one t
    → position_or_len (is_next turn label) (t ∷ items) ≡ length (t ∷ items)
    → (position_or_len (is_next turn label) items ≡ length items → EachStands (told_to turn label said each) (items ++ next ∷ []))
    → (b : Bool) → is_line_of turn label one ≡ b → EachStands (told_to turn label said (one ∷ each)) (t ∷ (items ++ next ∷ []))
new_step turn label said next one each t items h at later true on = absurd (none_here turn label one t items h at on)
new_step turn label said next one each t items h at later false off =
    let told : OneSaid = record { label = one.label; past = said ∷ one.past } in
    subst (λ l. EachStands l (t ∷ (items ++ next ∷ []))) (sym (ap (λ b. if b then told ∷ each else one ∷ told_to turn label said each) off))
    (h, later (none_later turn label one t items h at off))

-- and it is the last one of the list
pub new_told : (turn : ℕ) (label : List ℕ) (said : TributarySaid) (next : Tributary) (each : List OneSaid) (items : List Tributary) → EachStands each items
    → position_or_len (is_next turn label) items ≡ length items → next.label.items ≡ label → TributaryStands (said ∷ []) next.tally → EachStands (told_to turn label said each) (items ++ next ∷ [])
new_told turn label said next [] [] h at name stands = (record { label = name; some = (λ e. cc); stands = stands }, tt)
new_told turn label said next [] (t ∷ items) h at name stands = absurd h
new_told turn label said next (one ∷ each) [] h at name stands = absurd h
new_told turn label said next (one ∷ each) (t ∷ items) h at name stands =
    new_step turn label said next one each t items h.0 at (λ e. new_told turn label said next each items h.1 e name stands) (is_line_of turn label one) refl

-- the first that passes stands here, where none before it does
pub place_is : (p : Tributary → Bool) (items : List Tributary) (i : ℕ) → i ≤ length items → ((k : ℕ) (one : Tributary) → k < i → slice_get items k ≡ Some one → p one ≡ false)
    → (i < length items → (one : Tributary) → slice_get items i ≡ Some one → p one ≡ true) → position_or_len p items ≡ i
place_is p [] i few before here = omega (arith, few)
place_is p (t ∷ items) zero few before here = place_here p t items (here (omega arith) t refl)
place_is p (t ∷ items) (suc i) few before here =
    let rest : position_or_len p items ≡ i =
    place_is p items i (omega (arith, few)) (λ k one less at. before (suc k) one (omega (arith, less)) at) (λ less one at. here (omega (arith, less)) one at) in
    place_behind p t items (before 0 t (omega arith) refl) ∙ omega (arith, rest)

-- where the first that passes stands, by steps from the front
abbrev pub NoneBefore : (Tributary → Bool) → List Tributary → (i : ℕ) → Type 0
NoneBefore p items i = (k : ℕ) (one : Tributary) → k < i → slice_get items k ≡ Some one → p one ≡ false

pub none_more : (p : Tributary → Bool) (items : List Tributary) (i : ℕ) (was : Tributary) → NoneBefore p items i → slice_get items i ≡ Some was → p was ≡ false → NoneBefore p items (i + 1)
none_more p items i was before at off k one less here = by_place (cases_lt k i)
  where
    by_place : (k < i) ⊎ (i ≤ k) → p one ≡ false
    by_place (inl low) = before k one low here
    by_place (inr high) =
        let same : i ≡ k = omega (arith, high, less) in
        let equal : was ≡ one = same_Some was one (sym at ∙ ap (slice_get items) same ∙ here) in
        ap p (sym equal) ∙ off

pub place_found : (p : Tributary → Bool) (items : List Tributary) (i : ℕ) (was : Tributary) → NoneBefore p items i → i < length items → slice_get items i ≡ Some was → p was ≡ true
    → position_or_len p items ≡ i
place_found p items i was before less at on = place_is p items i (omega (arith, less)) before (λ low one here. ap p (sym (same_Some was one (sym at ∙ here))) ∙ on)

pub no_place : (p : Tributary → Bool) (items : List Tributary) (i : ℕ) → NoneBefore p items i → length items ≤ i → i ≤ length items → position_or_len p items ≡ length items
no_place p items i before most least =
    let same : i ≡ length items = omega (arith, most, least) in
    place_is p items (length items) (omega arith) (λ k one less at. before k one (omega (arith, less, same)) at) (λ low. absurd (omega (arith, low)))
