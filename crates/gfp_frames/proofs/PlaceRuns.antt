-- Delineation by the rest of a list finds the frames that the places say.
use Rattle.std.proofs.Common.{◌≡◌, ℕ, zero, suc, ◌+◌, ◌-◌, ◌<◌, ◌≤◌, ◌⊎◌, List, [], ◌∷◌, ◌++◌, Bool, true, false, cond, Option, Some, None, length, take, drop, refl, ap, ◌∙◌, sym, subst, arith, inl, inr, append_assoc, length-drop}
use Rattle.std.specs.Prelude.{nat_lt, ◌||◌}
use Rattle.std.proofs.lemmas.List.{map-append}
use Rattle.std.proofs.lemmas.Bool.{cases_lt, le-ltb, ltb-false}
use Rattle.gfp_frames.specs.CoreHeader.{area_size, right_at, near_at}
use Rattle.gfp_frames.specs.Delineation.{after_frame, whole_area, from_hunt, from_presync, from_sync, sync_areas}
use Rattle.gfp_frames.specs.Places.{place_after, HuntAt, at_front, presync_lost, sync_lost, PresyncAt, found, SyncAt, confirmed, followed, WholeAt, AreRising, IsOneOf, AreFramesInSync, areas_at}
use Rattle.gfp_frames.proofs.Delineating.{nothing_hunted, nothing_after, nothing_in_sync, hunt_found, hunt_missed, presync_found, presync_missed, sync_found, sync_missed}

-- ---- a walk from byte to byte

-- in a hunt, or so many bytes before the place after a frame
data Stage : Type 0 where
  Hunting : Stage
  Confirming : (left : ℕ) → Stage
  Following : (left : ℕ) → Stage

abbrev chosen : {A : Type 0} → Option ℕ → (ℕ → A) → A → A
chosen (Some pli) some none = some pli
chosen None some none = none

-- the frame at this place, if its area is whole
abbrev own : (place pli : ℕ) → List ℕ → List (ℕ × ℕ)
own place pli rest = cond (nat_lt pli 4 || nat_lt (length (drop 4 rest)) pli) [] ((place, pli) ∷ [])

-- the frames in sync that are found from this place on
walk : Stage → (place : ℕ) → List ℕ → List (ℕ × ℕ)
walk stage place [] = []
walk Hunting place (x ∷ xs) = chosen (right_at (x ∷ xs)) (λ pli. walk (Confirming (3 + area_size pli)) (suc place) xs) (walk Hunting (suc place) xs)
walk (Confirming zero) place (x ∷ xs) =
    chosen (right_at (x ∷ xs)) (λ pli. own place pli (x ∷ xs) ++ walk (Following (3 + area_size pli)) (suc place) xs) (walk Hunting (suc place) xs)
walk (Confirming (suc k)) place (x ∷ xs) = walk (Confirming k) (suc place) xs
walk (Following zero) place (x ∷ xs) =
    chosen (near_at (x ∷ xs)) (λ pli. own place pli (x ∷ xs) ++ walk (Following (3 + area_size pli)) (suc place) xs) (walk Hunting (suc place) xs)
walk (Following (suc k)) place (x ∷ xs) = walk (Following k) (suc place) xs

some_or_none : (o : Option ℕ) → (o ≡ None) ⊎ ((x : ℕ) × (o ≡ Some x))
some_or_none None = inl refl
some_or_none (Some x) = inr (x, refl)

-- ---- rests of a list

tail_of : (W : List ℕ) (place x : ℕ) (xs : List ℕ) → drop place W ≡ x ∷ xs → drop (suc place) W ≡ xs
tail_of [] zero x xs e = cc
tail_of [] (suc place) x xs e = cc
tail_of (y ∷ W) zero x xs e = cc
tail_of (y ∷ W) (suc place) x xs e = tail_of W place x xs e

drop-none : (n : ℕ) → drop n (let none : List ℕ = [] in none) ≡ []
drop-none zero = refl
drop-none (suc n) = refl

drop-twice : (W : List ℕ) (m n : ℕ) → drop m (drop n W) ≡ drop (n + m) W
drop-twice [] m n = ap (drop m) (drop-none n) ∙ drop-none m ∙ sym (drop-none (n + m))
drop-twice (x ∷ W) m zero = ap (λ k. drop k (x ∷ W)) (let e : m ≡ 0 + m = omega arith in e)
drop-twice (x ∷ W) m (suc n) = drop-twice W m n ∙ ap (λ k. drop k (x ∷ W)) (let e : suc (n + m) ≡ suc n + m = omega arith in e)

-- ---- the areas of a walk

areas_for : Stage → List ℕ → List (List ℕ)
areas_for Hunting rest = from_hunt rest
areas_for (Confirming k) rest = from_presync (drop k rest)
areas_for (Following k) rest = from_sync (drop k rest)

own_area : (W rest : List ℕ) (place pli : ℕ) → rest ≡ drop place W → areas_at W (own place pli rest) ≡ whole_area pli (drop 4 rest)
own_area W rest place pli e = by_test (nat_lt pli 4 || nat_lt (length (drop 4 rest)) pli)
  where
    here : take pli (drop (place + 4) W) ≡ take pli (drop 4 rest)
    here = sym (ap (take pli) (ap (drop 4) e ∙ drop-twice W 4 place))

    by_test : (b : Bool) → areas_at W (cond b [] ((place, pli) ∷ [])) ≡ cond b [] (take pli (drop 4 rest) ∷ [])
    by_test true = refl
    by_test false = ap (λ y. y ∷ []) here

after_one : (pli x : ℕ) (xs : List ℕ) → after_frame pli (x ∷ xs) ≡ drop (3 + area_size pli) xs
after_one pli x xs = ap (λ n. drop n (x ∷ xs)) (let e : 4 + area_size pli ≡ suc (3 + area_size pli) = omega arith in e)

walk_areas : (W rest : List ℕ) (stage : Stage) (place : ℕ) → rest ≡ drop place W → areas_at W (walk stage place rest) ≡ areas_for stage rest
unfolding walk areas_for
walk_areas W [] Hunting place e = sym (nothing_hunted 0)
walk_areas W [] (Confirming k) place e = sym (ap from_presync (drop-none k) ∙ nothing_after 0)
walk_areas W [] (Following k) place e = sym (ap from_sync (drop-none k) ∙ nothing_in_sync 0)
walk_areas W (x ∷ xs) Hunting place e =
    let next : xs ≡ drop (suc place) W = sym (tail_of W place x xs (sym e)) in
    elim (some_or_none (right_at (x ∷ xs))) [
      | inl none ↦
          ap (λ o. areas_at W (chosen o (λ pli. walk (Confirming (3 + area_size pli)) (suc place) xs) (walk Hunting (suc place) xs))) none
          ∙ walk_areas W xs Hunting (suc place) next ∙ sym (hunt_missed x xs none)
      | inr (pli, some) ↦
          ap (λ o. areas_at W (chosen o (λ pli. walk (Confirming (3 + area_size pli)) (suc place) xs) (walk Hunting (suc place) xs))) some
          ∙ walk_areas W xs (Confirming (3 + area_size pli)) (suc place) next ∙ sym (hunt_found x xs pli some ∙ ap from_presync (after_one pli x xs))
    ]
walk_areas W (x ∷ xs) (Confirming zero) place e =
    let next : xs ≡ drop (suc place) W = sym (tail_of W place x xs (sym e)) in
    elim (some_or_none (right_at (x ∷ xs))) [
      | inl none ↦
          ap (λ o. areas_at W (chosen o (λ pli. own place pli (x ∷ xs) ++ walk (Following (3 + area_size pli)) (suc place) xs) (walk Hunting (suc place) xs))) none
          ∙ walk_areas W xs Hunting (suc place) next ∙ sym (presync_missed x xs none)
      | inr (pli, some) ↦
          ap (λ o. areas_at W (chosen o (λ pli. own place pli (x ∷ xs) ++ walk (Following (3 + area_size pli)) (suc place) xs) (walk Hunting (suc place) xs))) some
          ∙ map-append (λ frame. take frame.1 (drop (frame.0 + 4) W)) (own place pli (x ∷ xs)) (walk (Following (3 + area_size pli)) (suc place) xs)
          ∙ ap (λ y. y ++ areas_at W (walk (Following (3 + area_size pli)) (suc place) xs)) (own_area W (x ∷ xs) place pli e)
          ∙ ap (λ y. whole_area pli (drop 4 (x ∷ xs)) ++ y) (walk_areas W xs (Following (3 + area_size pli)) (suc place) next)
          ∙ sym (presync_found x xs pli some ∙ ap (λ y. whole_area pli (drop 4 (x ∷ xs)) ++ from_sync y) (after_one pli x xs))
    ]
walk_areas W (x ∷ xs) (Confirming (suc k)) place e = walk_areas W xs (Confirming k) (suc place) (sym (tail_of W place x xs (sym e)))
walk_areas W (x ∷ xs) (Following zero) place e =
    let next : xs ≡ drop (suc place) W = sym (tail_of W place x xs (sym e)) in
    elim (some_or_none (near_at (x ∷ xs))) [
      | inl none ↦
          ap (λ o. areas_at W (chosen o (λ pli. own place pli (x ∷ xs) ++ walk (Following (3 + area_size pli)) (suc place) xs) (walk Hunting (suc place) xs))) none
          ∙ walk_areas W xs Hunting (suc place) next ∙ sym (sync_missed x xs none)
      | inr (pli, some) ↦
          ap (λ o. areas_at W (chosen o (λ pli. own place pli (x ∷ xs) ++ walk (Following (3 + area_size pli)) (suc place) xs) (walk Hunting (suc place) xs))) some
          ∙ map-append (λ frame. take frame.1 (drop (frame.0 + 4) W)) (own place pli (x ∷ xs)) (walk (Following (3 + area_size pli)) (suc place) xs)
          ∙ ap (λ y. y ++ areas_at W (walk (Following (3 + area_size pli)) (suc place) xs)) (own_area W (x ∷ xs) place pli e)
          ∙ ap (λ y. whole_area pli (drop 4 (x ∷ xs)) ++ y) (walk_areas W xs (Following (3 + area_size pli)) (suc place) next)
          ∙ sym (sync_found x xs pli some ∙ ap (λ y. whole_area pli (drop 4 (x ∷ xs)) ++ from_sync y) (after_one pli x xs))
    ]
walk_areas W (x ∷ xs) (Following (suc k)) place e = walk_areas W xs (Following k) (suc place) (sym (tail_of W place x xs (sym e)))

-- ---- the places of a walk rise

later : (m n : ℕ) (frames : List (ℕ × ℕ)) → m ≤ n → AreRising n frames → AreRising m frames
later m n [] h rising = tt
later m n (frame ∷ frames) h rising = (omega (arith, rising.0), rising.1)

own_rising : (place pli : ℕ) (rest : List ℕ) (frames : List (ℕ × ℕ)) → AreRising (suc place) frames → AreRising place (own place pli rest ++ frames)
own_rising place pli rest frames rising = by_test (nat_lt pli 4 || nat_lt (length (drop 4 rest)) pli)
  where
    by_test : (b : Bool) → AreRising place (cond b [] ((place, pli) ∷ []) ++ frames)
    by_test true = later place (suc place) frames (omega arith) rising
    by_test false = (omega arith, later (place + 1) (suc place) frames (omega arith) rising)

walk_rises : (rest : List ℕ) (stage : Stage) (place : ℕ) → AreRising place (walk stage place rest)
unfolding walk
walk_rises [] stage place = tt
walk_rises (x ∷ xs) Hunting place =
    let P : List (ℕ × ℕ) → Type 0 = AreRising place in
    elim (right_at (x ∷ xs)) as (λ o. P (chosen o (λ pli. walk (Confirming (3 + area_size pli)) (suc place) xs) (walk Hunting (suc place) xs))) [
      | Some pli ↦ later place (suc place) (walk (Confirming (3 + area_size pli)) (suc place) xs) (omega arith) (walk_rises xs (Confirming (3 + area_size pli)) (suc place))
      | None ↦ later place (suc place) (walk Hunting (suc place) xs) (omega arith) (walk_rises xs Hunting (suc place))
    ]
walk_rises (x ∷ xs) (Confirming zero) place =
    let P : List (ℕ × ℕ) → Type 0 = AreRising place in
    elim (right_at (x ∷ xs)) as (λ o. P (chosen o (λ pli. own place pli (x ∷ xs) ++ walk (Following (3 + area_size pli)) (suc place) xs) (walk Hunting (suc place) xs))) [
      | Some pli ↦ own_rising place pli (x ∷ xs) (walk (Following (3 + area_size pli)) (suc place) xs) (walk_rises xs (Following (3 + area_size pli)) (suc place))
      | None ↦ later place (suc place) (walk Hunting (suc place) xs) (omega arith) (walk_rises xs Hunting (suc place))
    ]
walk_rises (x ∷ xs) (Confirming (suc k)) place = later place (suc place) (walk (Confirming k) (suc place) xs) (omega arith) (walk_rises xs (Confirming k) (suc place))
walk_rises (x ∷ xs) (Following zero) place =
    let P : List (ℕ × ℕ) → Type 0 = AreRising place in
    elim (near_at (x ∷ xs)) as (λ o. P (chosen o (λ pli. own place pli (x ∷ xs) ++ walk (Following (3 + area_size pli)) (suc place) xs) (walk Hunting (suc place) xs))) [
      | Some pli ↦ own_rising place pli (x ∷ xs) (walk (Following (3 + area_size pli)) (suc place) xs) (walk_rises xs (Following (3 + area_size pli)) (suc place))
      | None ↦ later place (suc place) (walk Hunting (suc place) xs) (omega arith) (walk_rises xs Hunting (suc place))
    ]
walk_rises (x ∷ xs) (Following (suc k)) place = later place (suc place) (walk (Following k) (suc place) xs) (omega arith) (walk_rises xs (Following k) (suc place))

-- ---- what a walk finds stands in sync

abbrev Reached : (W : List ℕ) → Stage → (place : ℕ) → Type 0
Reached W Hunting place = (hunt : ℕ) × HuntAt W hunt × (hunt ≤ place) × ((k : ℕ) → hunt ≤ k → k < place → right_at (drop k W) ≡ None)
Reached W (Confirming k) place = (before pli : ℕ) × PresyncAt W before pli × (place_after before pli ≡ place + k)
Reached W (Following k) place = (before pli : ℕ) × SyncAt W before pli × (place_after before pli ≡ place + k)

split_one : (j q : ℕ) (xs ys : List (ℕ × ℕ)) → IsOneOf j q (xs ++ ys) → IsOneOf j q xs ⊎ IsOneOf j q ys
split_one j q [] ys one = inr one
split_one j q (x ∷ xs) ys one = elim one [
  | inl here ↦ inl (inl here)
  | inr there ↦ elim (split_one j q xs ys there) [ inl front ↦ inl (inr front) | inr back ↦ inr back ]
]

test_false : (a b : Bool) → (a || b) ≡ false → (a ≡ false) × (b ≡ false)
test_false true b e = cc
test_false false b e = (refl, e)

own_is : (j q place pli : ℕ) (rest : List ℕ) → IsOneOf j q (own place pli rest) → (place ≡ j) × (pli ≡ q) × (4 ≤ pli) × (pli ≤ length (drop 4 rest))
own_is j q place pli rest one = by_test (nat_lt pli 4 || nat_lt (length (drop 4 rest)) pli) refl one
  where
    by_test : (b : Bool) → (nat_lt pli 4 || nat_lt (length (drop 4 rest)) pli) ≡ b → IsOneOf j q (cond b [] ((place, pli) ∷ [])) → (place ≡ j) × (pli ≡ q) × (4 ≤ pli) × (pli ≤ length (drop 4 rest))
    by_test true e one = absurd one
    by_test false e one = elim one [
      | inl here ↦ (let t = test_false (nat_lt pli 4) (nat_lt (length (drop 4 rest)) pli) e in (here.0, here.1, ltb-false pli 4 t.0, ltb-false (length (drop 4 rest)) pli t.1))
      | inr none ↦ absurd none
    ]

size_is : (pli : ℕ) → 4 ≤ pli → area_size pli ≡ pli
size_is pli big = ap (λ b. cond b 0 pli) (le-ltb pli 4 big)

own_whole : (W rest : List ℕ) (j q place pli : ℕ) → rest ≡ drop place W → SyncAt W place pli → IsOneOf j q (own place pli rest) → WholeAt W j q
own_whole W rest j q place pli e at one =
    let is = own_is j q place pli rest one in
    let size = size_is pli is.2 in
    let long : length (drop 4 rest) ≡ length W - place - 4 = ap (λ y. length (drop 4 y)) e ∙ length-drop 4 (drop place W) ∙ ap (λ n. n - 4) (length-drop place W) in
    let P : ℕ → Type 0 = λ n. WholeAt W n q in
    let Q : ℕ → Type 0 = λ n. WholeAt W place n in
    let here : WholeAt W place pli = record { in_sync = at; has_area = is.2; whole = (let most = is.3 in omega arith) } in
    subst P is.0 (subst Q is.1 here)

hunted_more : (W : List ℕ) (hunt place : ℕ) → ((k : ℕ) → hunt ≤ k → k < place → right_at (drop k W) ≡ None) → right_at (drop place W) ≡ None
    → (k : ℕ) → hunt ≤ k → k < suc place → right_at (drop k W) ≡ None
hunted_more W hunt place none here k low high = elim (cases_lt k place) [
  | inl before ↦ none k low before
  | inr last ↦ ap (λ n. right_at (drop n W)) (let e : k ≡ place = omega arith in e) ∙ here
]

new_hunt : (W : List ℕ) (place : ℕ) → HuntAt W (place + 1) → Reached W Hunting (suc place)
new_hunt W place at =
    let P : ℕ → Type 0 = λ n. HuntAt W n in
    (suc place, subst P (let e : place + 1 ≡ suc place = omega arith in e) at, omega arith, λ k low high. absurd (omega arith))

walk_sound : (W rest : List ℕ) (stage : Stage) (place : ℕ) → rest ≡ drop place W → Reached W stage place → (j q : ℕ) → IsOneOf j q (walk stage place rest) → WholeAt W j q
unfolding walk
walk_sound W [] stage place e at j q one = absurd one
walk_sound W (x ∷ xs) Hunting place e at j q one =
    let next : xs ≡ drop (suc place) W = sym (tail_of W place x xs (sym e)) in
    let P : Option ℕ → Type 0 = λ o. IsOneOf j q (chosen o (λ pli. walk (Confirming (3 + area_size pli)) (suc place) xs) (walk Hunting (suc place) xs)) in
    elim (some_or_none (right_at (x ∷ xs))) [
      | inl none ↦
          walk_sound W xs Hunting (suc place) next
          (at.0, at.1, (let l = at.2 in omega arith), hunted_more W at.0 place at.3 (ap right_at (sym e) ∙ none)) j q (subst P none one)
      | inr (pli, some) ↦
          walk_sound W xs (Confirming (3 + area_size pli)) (suc place) next
          (place, pli, found at.0 place pli at.1 at.2 at.3 (ap right_at (sym e) ∙ some), omega arith) j q (subst P some one)
    ]
walk_sound W (x ∷ xs) (Confirming zero) place e at j q one =
    let next : xs ≡ drop (suc place) W = sym (tail_of W place x xs (sym e)) in
    let here : place_after at.0 at.1 ≡ place = (let h = at.3 in omega arith) in
    let rest : drop (place_after at.0 at.1) W ≡ x ∷ xs = ap (λ n. drop n W) here ∙ sym e in
    let P : Option ℕ → Type 0 = λ o. IsOneOf j q (chosen o (λ pli. own place pli (x ∷ xs) ++ walk (Following (3 + area_size pli)) (suc place) xs) (walk Hunting (suc place) xs)) in
    elim (some_or_none (right_at (x ∷ xs))) [
      | inl none ↦
          (let H : ℕ → Type 0 = λ n. HuntAt W (n + 1) in
          walk_sound W xs Hunting (suc place) next (new_hunt W place (subst H here (presync_lost at.0 at.1 at.2 (ap right_at rest ∙ none)))) j q (subst P none one))
      | inr (pli, some) ↦
          (let S : ℕ → Type 0 = λ n. SyncAt W n pli in
          let sync : SyncAt W place pli = subst S here (confirmed at.0 at.1 pli at.2 (ap right_at rest ∙ some)) in
          elim (split_one j q (own place pli (x ∷ xs)) (walk (Following (3 + area_size pli)) (suc place) xs) (subst P some one)) [
            | inl mine ↦ own_whole W (x ∷ xs) j q place pli e sync mine
            | inr others ↦ walk_sound W xs (Following (3 + area_size pli)) (suc place) next (place, pli, sync, omega arith) j q others
          ])
    ]
walk_sound W (x ∷ xs) (Confirming (suc k)) place e at j q one =
    walk_sound W xs (Confirming k) (suc place) (sym (tail_of W place x xs (sym e))) (at.0, at.1, at.2, (let h = at.3 in omega arith)) j q one
walk_sound W (x ∷ xs) (Following zero) place e at j q one =
    let next : xs ≡ drop (suc place) W = sym (tail_of W place x xs (sym e)) in
    let here : place_after at.0 at.1 ≡ place = (let h = at.3 in omega arith) in
    let rest : drop (place_after at.0 at.1) W ≡ x ∷ xs = ap (λ n. drop n W) here ∙ sym e in
    let P : Option ℕ → Type 0 = λ o. IsOneOf j q (chosen o (λ pli. own place pli (x ∷ xs) ++ walk (Following (3 + area_size pli)) (suc place) xs) (walk Hunting (suc place) xs)) in
    elim (some_or_none (near_at (x ∷ xs))) [
      | inl none ↦
          (let H : ℕ → Type 0 = λ n. HuntAt W (n + 1) in
          walk_sound W xs Hunting (suc place) next (new_hunt W place (subst H here (sync_lost at.0 at.1 at.2 (ap near_at rest ∙ none)))) j q (subst P none one))
      | inr (pli, some) ↦
          (let S : ℕ → Type 0 = λ n. SyncAt W n pli in
          let sync : SyncAt W place pli = subst S here (followed at.0 at.1 pli at.2 (ap near_at rest ∙ some)) in
          elim (split_one j q (own place pli (x ∷ xs)) (walk (Following (3 + area_size pli)) (suc place) xs) (subst P some one)) [
            | inl mine ↦ own_whole W (x ∷ xs) j q place pli e sync mine
            | inr others ↦ walk_sound W xs (Following (3 + area_size pli)) (suc place) next (place, pli, sync, omega arith) j q others
          ])
    ]
walk_sound W (x ∷ xs) (Following (suc k)) place e at j q one =
    walk_sound W xs (Following k) (suc place) (sym (tail_of W place x xs (sym e))) (at.0, at.1, at.2, (let h = at.3 in omega arith)) j q one

-- ---- a walk finds all that stand in sync

-- the walk from this place on, in the list
abbrev from : (W : List ℕ) → Stage → (place : ℕ) → List (ℕ × ℕ)
from W stage place = walk stage place (drop place W)

past_end : (W : List ℕ) (place n : ℕ) → drop place W ≡ [] → drop (place + n) W ≡ []
past_end W place n e = sym (drop-twice W n place) ∙ ap (drop n) e ∙ drop-none n

next_past : (W : List ℕ) (place : ℕ) → drop place W ≡ [] → drop (suc place) W ≡ []
next_past W place e = ap (λ n. drop n W) (let s : suc place ≡ place + 1 = omega arith in s) ∙ past_end W place 1 e

right-none : right_at [] ≡ None
unfolding right_at
right-none = refl

near-none : near_at [] ≡ None
unfolding near_at
near-none = refl

walk-none : (stage : Stage) (place : ℕ) → walk stage place [] ≡ []
unfolding walk
walk-none stage place = refl

-- at the rest of the list, which may be empty
ends : (W : List ℕ) (stage : Stage) (place : ℕ) → drop place W ≡ [] → from W stage place ≡ []
ends W stage place e = ap (walk stage place) e ∙ walk-none stage place

confirm_skip : (W : List ℕ) (k place : ℕ) → from W (Confirming k) place ≡ from W (Confirming 0) (place + k)
unfolding walk
confirm_skip W zero place = ap (from W (Confirming 0)) (let e : place ≡ place + 0 = omega arith in e)
confirm_skip W (suc k) place = by_rest (drop place W) refl (confirm_skip W k (suc place))
  where
    by_rest : (rest : List ℕ) → drop place W ≡ rest → from W (Confirming k) (suc place) ≡ from W (Confirming 0) (suc place + k) → from W (Confirming (suc k)) place ≡ from W (Confirming 0) (place + suc k)
    by_rest [] e again = ends W (Confirming (suc k)) place e ∙ sym (ends W (Confirming 0) (place + suc k) (past_end W place (suc k) e))
    by_rest (x ∷ xs) e again =
        ap (walk (Confirming (suc k)) place) e ∙ ap (walk (Confirming k) (suc place)) (sym (tail_of W place x xs e))
        ∙ again ∙ ap (from W (Confirming 0)) (let s : suc place + k ≡ place + suc k = omega arith in s)

follow_skip : (W : List ℕ) (k place : ℕ) → from W (Following k) place ≡ from W (Following 0) (place + k)
unfolding walk
follow_skip W zero place = ap (from W (Following 0)) (let e : place ≡ place + 0 = omega arith in e)
follow_skip W (suc k) place = by_rest (drop place W) refl (follow_skip W k (suc place))
  where
    by_rest : (rest : List ℕ) → drop place W ≡ rest → from W (Following k) (suc place) ≡ from W (Following 0) (suc place + k) → from W (Following (suc k)) place ≡ from W (Following 0) (place + suc k)
    by_rest [] e again = ends W (Following (suc k)) place e ∙ sym (ends W (Following 0) (place + suc k) (past_end W place (suc k) e))
    by_rest (x ∷ xs) e again =
        ap (walk (Following (suc k)) place) e ∙ ap (walk (Following k) (suc place)) (sym (tail_of W place x xs e))
        ∙ again ∙ ap (from W (Following 0)) (let s : suc place + k ≡ place + suc k = omega arith in s)

confirm_from : (W : List ℕ) (place pli : ℕ) → from W (Confirming (3 + area_size pli)) (suc place) ≡ from W (Confirming 0) (place_after place pli)
confirm_from W place pli = confirm_skip W (3 + area_size pli) (suc place) ∙ ap (from W (Confirming 0)) (let s : suc place + (3 + area_size pli) ≡ place_after place pli = omega arith in s)

follow_from : (W : List ℕ) (place pli : ℕ) → from W (Following (3 + area_size pli)) (suc place) ≡ from W (Following 0) (place_after place pli)
follow_from W place pli = follow_skip W (3 + area_size pli) (suc place) ∙ ap (from W (Following 0)) (let s : suc place + (3 + area_size pli) ≡ place_after place pli = omega arith in s)

no_some : (pli : ℕ) → None ≡ Some pli → ⊥
no_some pli e = cc

hunt_none : (W : List ℕ) (place : ℕ) → right_at (drop place W) ≡ None → from W Hunting place ≡ from W Hunting (suc place)
unfolding walk
hunt_none W place none = by_rest (drop place W) refl
  where
    by_rest : (rest : List ℕ) → drop place W ≡ rest → from W Hunting place ≡ from W Hunting (suc place)
    by_rest [] e = ends W Hunting place e ∙ sym (ends W Hunting (suc place) (next_past W place e))
    by_rest (x ∷ xs) e =
        ap (walk Hunting place) e
        ∙ ap (λ o. chosen o (λ pli. walk (Confirming (3 + area_size pli)) (suc place) xs) (walk Hunting (suc place) xs)) (ap right_at (sym e) ∙ none)
        ∙ ap (walk Hunting (suc place)) (sym (tail_of W place x xs e))

hunt_some : (W : List ℕ) (place pli : ℕ) → right_at (drop place W) ≡ Some pli → from W Hunting place ≡ from W (Confirming 0) (place_after place pli)
unfolding walk
hunt_some W place pli some = by_rest (drop place W) refl
  where
    by_rest : (rest : List ℕ) → drop place W ≡ rest → from W Hunting place ≡ from W (Confirming 0) (place_after place pli)
    by_rest [] e = absurd (no_some pli (sym (ap right_at e ∙ right-none) ∙ some))
    by_rest (x ∷ xs) e =
        ap (walk Hunting place) e
        ∙ ap (λ o. chosen o (λ pli. walk (Confirming (3 + area_size pli)) (suc place) xs) (walk Hunting (suc place) xs)) (ap right_at (sym e) ∙ some)
        ∙ ap (walk (Confirming (3 + area_size pli)) (suc place)) (sym (tail_of W place x xs e)) ∙ confirm_from W place pli

confirm_none : (W : List ℕ) (place : ℕ) → right_at (drop place W) ≡ None → from W (Confirming 0) place ≡ from W Hunting (suc place)
unfolding walk
confirm_none W place none = by_rest (drop place W) refl
  where
    by_rest : (rest : List ℕ) → drop place W ≡ rest → from W (Confirming 0) place ≡ from W Hunting (suc place)
    by_rest [] e = ends W (Confirming 0) place e ∙ sym (ends W Hunting (suc place) (next_past W place e))
    by_rest (x ∷ xs) e =
        ap (walk (Confirming 0) place) e
        ∙ ap (λ o. chosen o (λ pli. own place pli (x ∷ xs) ++ walk (Following (3 + area_size pli)) (suc place) xs) (walk Hunting (suc place) xs)) (ap right_at (sym e) ∙ none)
        ∙ ap (walk Hunting (suc place)) (sym (tail_of W place x xs e))

confirm_some : (W : List ℕ) (place pli : ℕ) → right_at (drop place W) ≡ Some pli → from W (Confirming 0) place ≡ own place pli (drop place W) ++ from W (Following 0) (place_after place pli)
unfolding walk
confirm_some W place pli some = by_rest (drop place W) refl
  where
    by_rest : (rest : List ℕ) → drop place W ≡ rest → from W (Confirming 0) place ≡ own place pli (drop place W) ++ from W (Following 0) (place_after place pli)
    by_rest [] e = absurd (no_some pli (sym (ap right_at e ∙ right-none) ∙ some))
    by_rest (x ∷ xs) e =
        ap (walk (Confirming 0) place) e
        ∙ ap (λ o. chosen o (λ pli. own place pli (x ∷ xs) ++ walk (Following (3 + area_size pli)) (suc place) xs) (walk Hunting (suc place) xs)) (ap right_at (sym e) ∙ some)
        ∙ ap (λ y. own place pli y ++ walk (Following (3 + area_size pli)) (suc place) xs) (sym e)
        ∙ ap (λ y. own place pli (drop place W) ++ y) (ap (walk (Following (3 + area_size pli)) (suc place)) (sym (tail_of W place x xs e)) ∙ follow_from W place pli)

follow_none : (W : List ℕ) (place : ℕ) → near_at (drop place W) ≡ None → from W (Following 0) place ≡ from W Hunting (suc place)
unfolding walk
follow_none W place none = by_rest (drop place W) refl
  where
    by_rest : (rest : List ℕ) → drop place W ≡ rest → from W (Following 0) place ≡ from W Hunting (suc place)
    by_rest [] e = ends W (Following 0) place e ∙ sym (ends W Hunting (suc place) (next_past W place e))
    by_rest (x ∷ xs) e =
        ap (walk (Following 0) place) e
        ∙ ap (λ o. chosen o (λ pli. own place pli (x ∷ xs) ++ walk (Following (3 + area_size pli)) (suc place) xs) (walk Hunting (suc place) xs)) (ap near_at (sym e) ∙ none)
        ∙ ap (walk Hunting (suc place)) (sym (tail_of W place x xs e))

follow_some : (W : List ℕ) (place pli : ℕ) → near_at (drop place W) ≡ Some pli → from W (Following 0) place ≡ own place pli (drop place W) ++ from W (Following 0) (place_after place pli)
unfolding walk
follow_some W place pli some = by_rest (drop place W) refl
  where
    by_rest : (rest : List ℕ) → drop place W ≡ rest → from W (Following 0) place ≡ own place pli (drop place W) ++ from W (Following 0) (place_after place pli)
    by_rest [] e = absurd (no_some pli (sym (ap near_at e ∙ near-none) ∙ some))
    by_rest (x ∷ xs) e =
        ap (walk (Following 0) place) e
        ∙ ap (λ o. chosen o (λ pli. own place pli (x ∷ xs) ++ walk (Following (3 + area_size pli)) (suc place) xs) (walk Hunting (suc place) xs)) (ap near_at (sym e) ∙ some)
        ∙ ap (λ y. own place pli y ++ walk (Following (3 + area_size pli)) (suc place) xs) (sym e)
        ∙ ap (λ y. own place pli (drop place W) ++ y) (ap (walk (Following (3 + area_size pli)) (suc place)) (sym (tail_of W place x xs e)) ∙ follow_from W place pli)

-- a hunt passes over places without a right header
hunt_over : (W : List ℕ) (n hunt : ℕ) → ((k : ℕ) → hunt ≤ k → k < hunt + n → right_at (drop k W) ≡ None) → from W Hunting hunt ≡ from W Hunting (hunt + n)
hunt_over W zero hunt none = ap (from W Hunting) (let e : hunt ≡ hunt + 0 = omega arith in e)
hunt_over W (suc n) hunt none =
    hunt_none W hunt (none hunt (omega arith) (omega arith)) ∙ hunt_over W n (suc hunt) (λ k low high. none k (omega arith) (omega arith))
    ∙ ap (from W Hunting) (let e : suc hunt + n ≡ hunt + suc n = omega arith in e)

-- the whole walk comes by this place
abbrev Comes : (W : List ℕ) → List (ℕ × ℕ) → Type 0
Comes W rest = (before : List (ℕ × ℕ)) × (from W Hunting 0 ≡ before ++ rest)

goes_on : (W : List ℕ) (rest other : List (ℕ × ℕ)) → rest ≡ other → Comes W rest → Comes W other
goes_on W rest other e comes = (comes.0, comes.1 ∙ ap (λ y. comes.0 ++ y) e)

goes_past : (W : List ℕ) (mine rest : List (ℕ × ℕ)) → Comes W (mine ++ rest) → Comes W rest
goes_past W mine rest comes = (comes.0 ++ mine, comes.1 ∙ sym (append_assoc comes.0 mine rest))

mutual
  hunts_come : (W : List ℕ) (place : ℕ) → HuntAt W place → Comes W (from W Hunting place)
  hunts_come W place at_front = ([], refl)
  hunts_come W place (presync_lost before pli at none) =
      goes_on W (from W (Confirming 0) (place_after before pli)) (from W Hunting (place_after before pli + 1))
      (confirm_none W (place_after before pli) none ∙ ap (from W Hunting) (let e : suc (place_after before pli) ≡ place_after before pli + 1 = omega arith in e))
      (presyncs_come W before pli at)
  hunts_come W place (sync_lost before pli at none) =
      goes_on W (from W (Following 0) (place_after before pli)) (from W Hunting (place_after before pli + 1))
      (follow_none W (place_after before pli) none ∙ ap (from W Hunting) (let e : suc (place_after before pli) ≡ place_after before pli + 1 = omega arith in e))
      (goes_past W (own before pli (drop before W)) (from W (Following 0) (place_after before pli)) (syncs_come W before pli at))

  presyncs_come : (W : List ℕ) (place pli : ℕ) → PresyncAt W place pli → Comes W (from W (Confirming 0) (place_after place pli))
  presyncs_come W here size (found hunt place pli at low none some) =
      goes_on W (from W Hunting hunt) (from W (Confirming 0) (place_after place pli))
      (hunt_over W (place - hunt) hunt (λ k l h. none k l (omega arith)) ∙ ap (from W Hunting) (let e : hunt + (place - hunt) ≡ place = omega arith in e) ∙ hunt_some W place pli some)
      (hunts_come W hunt at)

  syncs_come : (W : List ℕ) (place pli : ℕ) → SyncAt W place pli → Comes W (own place pli (drop place W) ++ from W (Following 0) (place_after place pli))
  syncs_come W here size (confirmed before old next at some) =
      goes_on W (from W (Confirming 0) (place_after before old)) (own (place_after before old) next (drop (place_after before old) W) ++ from W (Following 0) (place_after (place_after before old) next))
      (confirm_some W (place_after before old) next some) (presyncs_come W before old at)
  syncs_come W here size (followed before old next at some) =
      goes_on W (from W (Following 0) (place_after before old)) (own (place_after before old) next (drop (place_after before old) W) ++ from W (Following 0) (place_after (place_after before old) next))
      (follow_some W (place_after before old) next some) (goes_past W (own before old (drop before W)) (from W (Following 0) (place_after before old)) (syncs_come W before old at))

one_behind : (j q : ℕ) (xs ys : List (ℕ × ℕ)) → IsOneOf j q ys → IsOneOf j q (xs ++ ys)
one_behind j q [] ys one = one
one_behind j q (x ∷ xs) ys one = inr (one_behind j q xs ys one)

one_before : (j q : ℕ) (xs ys : List (ℕ × ℕ)) → IsOneOf j q xs → IsOneOf j q (xs ++ ys)
one_before j q [] ys one = absurd one
one_before j q (x ∷ xs) ys one = elim one [ inl here ↦ inl here | inr there ↦ inr (one_before j q xs ys there) ]

own_here : (W : List ℕ) (place pli : ℕ) → WholeAt W place pli → IsOneOf place pli (own place pli (drop place W))
own_here W place pli at =
    let size = size_is pli at.has_area in
    let long : length (drop 4 (drop place W)) ≡ length W - place - 4 = length-drop 4 (drop place W) ∙ ap (λ n. n - 4) (length-drop place W) in
    let big : nat_lt pli 4 ≡ false = le-ltb pli 4 at.has_area in
    let whole : nat_lt (length (drop 4 (drop place W))) pli ≡ false = le-ltb (length (drop 4 (drop place W))) pli (let w = at.whole in omega arith) in
    let P : Bool → Type 0 = λ b. IsOneOf place pli (cond (b || nat_lt (length (drop 4 (drop place W))) pli) [] ((place, pli) ∷ [])) in
    let Q : Bool → Type 0 = λ b. IsOneOf place pli (cond b [] ((place, pli) ∷ [])) in
    subst P (sym big) (subst Q (sym whole) (inl (refl, refl)))

walk_complete : (W : List ℕ) (place pli : ℕ) → WholeAt W place pli → IsOneOf place pli (from W Hunting 0)
walk_complete W place pli at =
    let comes = syncs_come W place pli at.in_sync in
    let P : List (ℕ × ℕ) → Type 0 = λ y. IsOneOf place pli y in
    subst P (sym comes.1)
    (one_behind place pli comes.0 (own place pli (drop place W) ++ from W (Following 0) (place_after place pli))
    (one_before place pli (own place pli (drop place W)) (from W (Following 0) (place_after place pli)) (own_here W place pli at)))

-- ---- together

sync_areas_is : (bytes : List ℕ) → sync_areas bytes ≡ from_hunt bytes
unfolding sync_areas
sync_areas_is bytes = refl

hunts_for : (rest : List ℕ) → areas_for Hunting rest ≡ from_hunt rest
unfolding areas_for
hunts_for rest = refl

pub frames_by_place : (bytes : List ℕ) → (frames : List (ℕ × ℕ)) × (AreFramesInSync bytes frames × (sync_areas bytes ≡ areas_at bytes frames))
frames_by_place bytes = (
  from bytes Hunting 0,
  (
    record {
      rising = walk_rises bytes Hunting 0;
      each = λ place pli. (
        (λ one. walk_sound bytes bytes Hunting 0 refl (0, at_front, omega arith, λ k low high. absurd (omega arith)) place pli one),
        (λ at. walk_complete bytes place pli at),
      );
    },
    sync_areas_is bytes ∙ sym (walk_areas bytes bytes Hunting 0 refl ∙ hunts_for bytes),
  ),
)
