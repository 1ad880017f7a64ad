-- A turn more of a stretch: what it emits, and what is left to emit.
use Rattle.std.proofs.Common.{◌≡◌, ℕ, ◌+◌, ◌*◌, ◌-◌, ◌<◌, ◌≤◌, List, [], ◌∷◌, ◌++◌, length, take, drop, Option, Some, None, refl, ap, ◌∙◌, sym, arith, length-append}
use Rattle.std.specs.Prelude.{All, min, max}
use Rattle.std.specs.List.{slice_range}
use Rattle.std.proofs.lemmas.List.{drop-append-le, take_min, drop_min, length-drop, length-take}
use Rattle.std.proofs.Math.Nat.{mul-le-mul_left}
use Rattle.std.proofs.Math.Seq.{take-append-add, drop-append-add, take-length}
use Rattle.tributary_model.specs.Stretches.{Member}
use Rattle.tributary_model.specs.Emission.{data_bytes, extracted, extracted_total, due_total, emitted_total, cm_sum, emits_in, emits_at_end}
use Rattle.tributary_model.specs.Machine.{given_of, kept_of}
use Rattle.tributary_model.proofs.Sizes.{data_length}

-- the pairs of a stretch are those of messages that are not damaged
abbrev pub AreSmall : (m : ℕ) → List Member → Type 0
AreSmall m [] = Unit {0}
AreSmall m (turn ∷ rest) = (turn.cm ≤ 15232) × (turn.cnd < m) × AreSmall m rest

-- what holds of every stretch: Ext has X bytes, E is at most X, and at most a multiframe's bytes are left
pub record IsSound (m : ℕ) (stretch : List Member) : Type 0 where
  pub small : AreSmall m stretch
  pub size : length (extracted stretch) ≡ extracted_total m stretch
  pub below : emitted_total m stretch ≤ extracted_total m stretch
  pub near : extracted_total m stretch ≤ emitted_total m stretch + m * 15232

-- the remainder of the turn before the last
abbrev pub former_cnd : List Member → Option ℕ
former_cnd [] = None
former_cnd (before ∷ rest) = Some before.cnd

-- what is extracted and not emitted
unfoldable pub left_over : (m : ℕ) → List Member → List ℕ
left_over m stretch = drop (emitted_total m stretch) (extracted stretch)

pub sound_first : (m : ℕ) (first : Member) → first.cm ≤ 15232 → first.cnd < m → IsSound m (first ∷ [])
unfolding extracted emitted_total
sound_first m first h k = record { small = (h, k, tt); size = omega arith; below = omega arith; near = omega arith }

pub nothing_left : (m : ℕ) (first : Member) → left_over m (first ∷ []) ≡ []
unfolding left_over extracted emitted_total
nothing_left m first = refl

length-take_le : {A : Type 0} (n : ℕ) (xs : List A) → length (take n xs) ≤ n
length-take_le n xs = omega (arith, length-take n xs)

-- a list from a place in its front to a place beyond its front
range_across : {A : Type 0} (xs ys : List A) (e n : ℕ) → e ≤ length xs → slice_range (xs ++ ys) e (length xs + n) ≡ drop e xs ++ take n ys
range_across xs ys e n h =
    let long : length xs + n - e ≡ length (drop e xs) + n = (let d = length-drop e xs in omega arith) in
    ap (λ i. take i (drop e (xs ++ ys))) long ∙ ap (take (length (drop e xs) + n)) (drop-append-le e xs ys h) ∙ take-append-add (drop e xs) ys n

extracted_more : (next last : Member) (before : List Member) → extracted (next ∷ last ∷ before) ≡ extracted (last ∷ before) ++ data_bytes last.cm next.groups
unfolding extracted
extracted_more next last before = refl

extracted_first : (first : Member) → extracted (first ∷ []) ≡ []
unfolding extracted
extracted_first first = refl

emitted_first : (m : ℕ) (first : Member) → emitted_total m (first ∷ []) ≡ 0
unfolding emitted_total
emitted_first m first = refl

emitted_second : (m : ℕ) (second first : Member) → emitted_total m (second ∷ first ∷ []) ≡ 0
unfolding emitted_total
emitted_second m second first = omega arith

emitted_later : (m : ℕ) (next last before : Member) (rest : List Member)
    → emitted_total m (next ∷ last ∷ before ∷ rest)
    ≡ max (emitted_total m (last ∷ before ∷ rest)) (min (extracted_total m (next ∷ last ∷ before ∷ rest)) (due_total m (next ∷ last ∷ before ∷ rest)))
unfolding emitted_total
emitted_later m next last before rest = refl

-- from the third turn on, a turn brings what is emitted up to all that was extracted before it and the remainder of two
-- turns ago
emitted_is : (m : ℕ) (next last before : Member) (rest : List Member) → emitted_total m (last ∷ before ∷ rest) ≤ extracted_total m (last ∷ before ∷ rest)
    → emitted_total m (next ∷ last ∷ before ∷ rest) ≡ extracted_total m (last ∷ before ∷ rest) + min before.cnd (m * last.cm)
emitted_is m next last before rest h =
    let here = emitted_later m next last before rest in
    let more : m * (cm_sum (before ∷ rest) + last.cm) ≡ m * cm_sum (before ∷ rest) + m * last.cm = omega arith in
    omega arith

-- what a turn more owes
pub record Grows (m : ℕ) (next : Member) (stretch : List Member) (former : Option ℕ) (fresh : List ℕ) : Type 0 where
  pub gives : given_of former (left_over m stretch) fresh ≡ emits_in m (next ∷ stretch)
  pub keeps : kept_of former (left_over m stretch) fresh ≡ left_over m (next ∷ stretch)
  pub sound : IsSound m (next ∷ stretch)
  pub few : length (emits_in m (next ∷ stretch)) + 1 ≤ m * 15232 + m
  pub count : emitted_total m stretch + length (emits_in m (next ∷ stretch)) ≡ emitted_total m (next ∷ stretch)
  pub up_to : emitted_total m (next ∷ stretch) < extracted_total m stretch + m

fresh_length : (m : ℕ) (next last : Member) → last.cm ≤ 15232 → length next.groups ≡ 15232 → All (λ g. length g ≡ m) next.groups → length (data_bytes last.cm next.groups) ≡ m * last.cm
fresh_length m next last h n each = data_length m last.cm next.groups h n each

grows_second : (m : ℕ) (next first : Member) → IsSound m (first ∷ []) → next.cm ≤ 15232 → next.cnd < m → length next.groups ≡ 15232 → All (λ g. length g ≡ m) next.groups
    → Grows m next (first ∷ []) None (data_bytes first.cm next.groups)
unfolding left_over
grows_second m next first sound low less many each =
    let fresh = data_bytes first.cm next.groups in
    let long : length fresh ≡ m * first.cm = fresh_length m next first sound.small.0 many each in
    let less_first : first.cnd < m = sound.small.1 in
    let low_first : first.cm ≤ 15232 = sound.small.0 in
    let most : m * first.cm ≤ m * 15232 = mul-le-mul_left m low_first in
    let grown : extracted (next ∷ first ∷ []) ≡ fresh = extracted_more next first [] ∙ ap (λ y. y ++ fresh) (extracted_first first) in
    let e0 = emitted_first m first in
    let e1 = emitted_second m next first in
    let total : extracted_total m (next ∷ first ∷ []) ≡ m * first.cm = (let e : m * (0 + first.cm) ≡ m * first.cm = omega arith in e) in
    let none : emits_in m (next ∷ first ∷ []) ≡ [] = ap (λ i. slice_range (extracted (next ∷ first ∷ [])) (emitted_total m (first ∷ [])) i) e1 ∙ ap (λ i. slice_range (extracted (next ∷ first ∷ [])) i 0) e0 in
    record {
      gives = sym none;
      keeps = ap (λ y. y ++ fresh) (nothing_left m first) ∙ sym (ap (λ i. drop i (extracted (next ∷ first ∷ []))) e1 ∙ grown);
      sound = record {
        small = (low, less, sound.small);
        size = ap length grown ∙ long ∙ sym total;
        below = omega arith;
        near = omega arith;
      };
      few = (let z : length (emits_in m (next ∷ first ∷ [])) ≡ 0 = ap length none in omega arith);
      count = (let z : length (emits_in m (next ∷ first ∷ [])) ≡ 0 = ap length none in omega arith);
      up_to = omega arith;
    }

grows_later : (m : ℕ) (next last before : Member) (rest : List Member) → IsSound m (last ∷ before ∷ rest) → next.cm ≤ 15232 → next.cnd < m
    → length next.groups ≡ 15232 → All (λ g. length g ≡ m) next.groups
    → Grows m next (last ∷ before ∷ rest) (Some before.cnd) (data_bytes last.cm next.groups)
unfolding left_over
grows_later m next last before rest sound low less many each =
    let fresh = data_bytes last.cm next.groups in
    let old = extracted (last ∷ before ∷ rest) in
    let e = emitted_total m (last ∷ before ∷ rest) in
    let due = before.cnd in
    let long : length fresh ≡ m * last.cm = fresh_length m next last sound.small.0 many each in
    let low_last : last.cm ≤ 15232 = sound.small.0 in
    let less_before : due < m = sound.small.2.1 in
    let most : m * last.cm ≤ m * 15232 = mul-le-mul_left m low_last in
    let grown : extracted (next ∷ last ∷ before ∷ rest) ≡ old ++ fresh = extracted_more next last (before ∷ rest) in
    let size : length old ≡ extracted_total m (last ∷ before ∷ rest) = sound.size in
    let total : extracted_total m (next ∷ last ∷ before ∷ rest) ≡ extracted_total m (last ∷ before ∷ rest) + m * last.cm =
    (let d : m * (cm_sum (before ∷ rest) + last.cm) ≡ m * cm_sum (before ∷ rest) + m * last.cm = omega arith in d) in
    let least : min due (m * last.cm) ≡ min due (length fresh) = ap (min due) (sym long) in
    let now : emitted_total m (next ∷ last ∷ before ∷ rest) ≡ length old + min due (length fresh) = (let i = emitted_is m next last before rest sound.below in omega arith) in
    let inside : e ≤ length old = (let b = sound.below in omega arith) in
    let given : emits_in m (next ∷ last ∷ before ∷ rest) ≡ drop e old ++ take due fresh =
    ap (λ i. slice_range (extracted (next ∷ last ∷ before ∷ rest)) e i) now
    ∙ ap (λ y. slice_range y e (length old + min due (length fresh))) grown
    ∙ range_across old fresh e (min due (length fresh)) inside
    ∙ ap (λ y. drop e old ++ y) (take_min due fresh) in
    let kept : drop (emitted_total m (next ∷ last ∷ before ∷ rest)) (extracted (next ∷ last ∷ before ∷ rest)) ≡ drop due fresh =
    ap (λ i. drop i (extracted (next ∷ last ∷ before ∷ rest))) now
    ∙ ap (drop (length old + min due (length fresh))) grown
    ∙ drop-append-add old fresh (min due (length fresh))
    ∙ drop_min due fresh in
    let count : length (emits_in m (next ∷ last ∷ before ∷ rest)) ≡ length (drop e old) + length (take due fresh) = ap length given ∙ length-append (drop e old) (take due fresh) in
    let near = sound.near in
    let below = sound.below in
    let old_left = length-drop e old in
    let taken : length (take due fresh) ≤ due = length-take_le due fresh in
    let taken_is : length (take due fresh) ≡ min due (length fresh) = length-take due fresh in
    record {
      gives = sym given;
      keeps = sym kept;
      sound = record {
        small = (low, less, sound.small);
        size = ap length grown ∙ length-append old fresh ∙ omega arith;
        below = omega arith;
        near = omega arith;
      };
      few = omega arith;
      count = omega arith;
      up_to = omega arith;
    }

-- what one turn more gives and leaves, whatever the stretch
pub grows : (m : ℕ) (next last : Member) (before : List Member) → IsSound m (last ∷ before) → next.cm ≤ 15232 → next.cnd < m
    → length next.groups ≡ 15232 → All (λ g. length g ≡ m) next.groups
    → Grows m next (last ∷ before) (former_cnd before) (data_bytes last.cm next.groups)
grows m next first [] sound low less many each = grows_second m next first sound low less many each
grows m next last (before ∷ rest) sound low less many each = grows_later m next last before rest sound low less many each

-- the ending turn gives what is left
pub left_at_end : (m : ℕ) (stretch : List Member) → IsSound m stretch → left_over m stretch ≡ emits_at_end m stretch
unfolding left_over
left_at_end m stretch sound =
    let old = extracted stretch in
    let e = emitted_total m stretch in
    let long : extracted_total m stretch - e ≡ length (drop e old) = (let d = length-drop e old in let s = sound.size in omega arith) in
    sym (ap (λ i. take i (drop e old)) long ∙ take-length (drop e old))

pub end_count : (m : ℕ) (stretch : List Member) → IsSound m stretch → emitted_total m stretch + length (emits_at_end m stretch) ≡ extracted_total m stretch
unfolding left_over
end_count m stretch sound =
    let left : length (left_over m stretch) ≡ length (emits_at_end m stretch) = ap length (left_at_end m stretch sound) in
    let long : length (drop (emitted_total m stretch) (extracted stretch)) ≡ length (extracted stretch) - emitted_total m stretch = length-drop (emitted_total m stretch) (extracted stretch) in
    let s = sound.size in
    let b = sound.below in
    omega arith
