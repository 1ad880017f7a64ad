-- Delineation by the rest of a list, without a count of places.
use Rattle.std.proofs.Common.{◌≡◌, ℕ, zero, suc, ◌+◌, ◌<◌, ◌≤◌, List, [], ◌∷◌, ◌++◌, false, cond, Option, Some, None, length, drop, get_or, refl, ap, ◌∙◌, sym, arith, length-append, length-drop}
use Rattle.std.specs.Prelude.{nat_lt}
use Rattle.std.proofs.Math.Seq.{drop-append_seam, drop-append-add}
use Rattle.std.proofs.lemmas.List.{get_or_append_left}
use Rattle.std.proofs.lemmas.Bool.{le-ltb}
use Rattle.gfp_frames.specs.CoreHeader.{area_size, header_in, right_pli, near_pli, right_at, near_at}
use Rattle.gfp_frames.specs.Delineation.{after_frame, whole_area, hunting, after_presync, in_sync, from_hunt, from_presync, from_sync}

-- ---- what the three functions give in one step

abbrev hunt_step : ℕ → List ℕ → Option ℕ → List (List ℕ)
hunt_step places bytes None = hunting places (drop 1 bytes)
hunt_step places bytes (Some pli) = after_presync places (after_frame pli bytes)

abbrev sync_step : ℕ → List ℕ → Option ℕ → List (List ℕ)
sync_step places bytes None = hunting places (drop 1 bytes)
sync_step places bytes (Some pli) = whole_area pli (drop 4 bytes) ++ in_sync places (after_frame pli bytes)

hunting-next : (places : ℕ) (bytes : List ℕ) → hunting (suc places) bytes ≡ hunt_step places bytes (right_at bytes)
unfolding hunting
hunting-next places bytes = elim (right_at bytes) as (λ found. (elim found [ Some pli ↦ after_presync places (after_frame pli bytes) | None ↦ hunting places (drop 1 bytes) ]) ≡ hunt_step places bytes found) [
  | Some pli ↦ refl
  | None ↦ refl
]

presync-next : (places : ℕ) (bytes : List ℕ) → after_presync (suc places) bytes ≡ sync_step places bytes (right_at bytes)
unfolding hunting
presync-next places bytes = elim (right_at bytes) as (λ found. (elim found [ Some pli ↦ whole_area pli (drop 4 bytes) ++ in_sync places (after_frame pli bytes) | None ↦ hunting places (drop 1 bytes) ]) ≡ sync_step places bytes found) [
  | Some pli ↦ refl
  | None ↦ refl
]

sync-next : (places : ℕ) (bytes : List ℕ) → in_sync (suc places) bytes ≡ sync_step places bytes (near_at bytes)
unfolding hunting
sync-next places bytes = elim (near_at bytes) as (λ found. (elim found [ Some pli ↦ whole_area pli (drop 4 bytes) ++ in_sync places (after_frame pli bytes) | None ↦ hunting places (drop 1 bytes) ]) ≡ sync_step places bytes found) [
  | Some pli ↦ refl
  | None ↦ refl
]

-- ---- how many places are allowed makes no difference, where they suffice

right-none : right_at [] ≡ None
unfolding right_at
right-none = refl

near-none : near_at [] ≡ None
unfolding near_at
near-none = refl

pub nothing_hunted : (places : ℕ) → hunting places [] ≡ []
unfolding hunting
nothing_hunted zero = refl
nothing_hunted (suc places) = hunting-next places [] ∙ ap (hunt_step places []) right-none ∙ nothing_hunted places

pub nothing_after : (places : ℕ) → after_presync places [] ≡ []
unfolding hunting
nothing_after zero = refl
nothing_after (suc places) = presync-next places [] ∙ ap (sync_step places []) right-none ∙ nothing_hunted places

pub nothing_in_sync : (places : ℕ) → in_sync places [] ≡ []
unfolding hunting
nothing_in_sync zero = refl
nothing_in_sync (suc places) = sync-next places [] ∙ ap (sync_step places []) near-none ∙ nothing_hunted places

record Same (f g : ℕ) (bytes : List ℕ) : Type 0 where
  hunt : hunting f bytes ≡ hunting g bytes
  presync : after_presync f bytes ≡ after_presync g bytes
  sync : in_sync f bytes ≡ in_sync g bytes

same_nothing : (f g : ℕ) → Same f g []
same_nothing f g = record {
  hunt = nothing_hunted f ∙ sym (nothing_hunted g);
  presync = nothing_after f ∙ sym (nothing_after g);
  sync = nothing_in_sync f ∙ sym (nothing_in_sync g);
}

shorter : (n f : ℕ) (bytes : List ℕ) → length bytes ≤ suc f → 0 < n → length (drop n bytes) ≤ f
shorter n f bytes h some = let e = length-drop n bytes in omega arith

same_hunt_step : (f g : ℕ) (bytes : List ℕ) (found : Option ℕ) → length bytes ≤ suc f → length bytes ≤ suc g
    → ((rest : List ℕ) → length rest ≤ f → length rest ≤ g → Same f g rest) → hunt_step f bytes found ≡ hunt_step g bytes found
same_hunt_step f g bytes None hf hg all = (all (drop 1 bytes) (shorter 1 f bytes hf (omega arith)) (shorter 1 g bytes hg (omega arith))).hunt
same_hunt_step f g bytes (Some pli) hf hg all =
    (all (after_frame pli bytes) (shorter (4 + area_size pli) f bytes hf (omega arith)) (shorter (4 + area_size pli) g bytes hg (omega arith))).presync

same_sync_step : (f g : ℕ) (bytes : List ℕ) (found : Option ℕ) → length bytes ≤ suc f → length bytes ≤ suc g
    → ((rest : List ℕ) → length rest ≤ f → length rest ≤ g → Same f g rest) → sync_step f bytes found ≡ sync_step g bytes found
same_sync_step f g bytes None hf hg all = (all (drop 1 bytes) (shorter 1 f bytes hf (omega arith)) (shorter 1 g bytes hg (omega arith))).hunt
same_sync_step f g bytes (Some pli) hf hg all =
    ap (λ y. whole_area pli (drop 4 bytes) ++ y)
    (all (after_frame pli bytes) (shorter (4 + area_size pli) f bytes hf (omega arith)) (shorter (4 + area_size pli) g bytes hg (omega arith))).sync

enough : (f g : ℕ) (bytes : List ℕ) → length bytes ≤ f → length bytes ≤ g → Same f g bytes
enough zero g [] hf hg = same_nothing zero g
enough zero g (x ∷ bytes) hf hg = absurd (omega arith)
enough (suc f) zero [] hf hg = same_nothing (suc f) zero
enough (suc f) zero (x ∷ bytes) hf hg = absurd (omega arith)
enough (suc f) (suc g) bytes hf hg = record {
  hunt = hunting-next f bytes ∙ same_hunt_step f g bytes (right_at bytes) hf hg (λ rest a b. enough f g rest a b) ∙ sym (hunting-next g bytes);
  presync = presync-next f bytes ∙ same_sync_step f g bytes (right_at bytes) hf hg (λ rest a b. enough f g rest a b) ∙ sym (presync-next g bytes);
  sync = sync-next f bytes ∙ same_sync_step f g bytes (near_at bytes) hf hg (λ rest a b. enough f g rest a b) ∙ sym (sync-next g bytes);
}

-- ---- the steps at the front of a list that is not empty

hunt_enough : (f : ℕ) (bytes : List ℕ) → length bytes ≤ f → hunting f bytes ≡ from_hunt bytes
hunt_enough f bytes h = (enough f (length bytes) bytes h (omega arith)).hunt

presync_enough : (f : ℕ) (bytes : List ℕ) → length bytes ≤ f → after_presync f bytes ≡ from_presync bytes
presync_enough f bytes h = (enough f (length bytes) bytes h (omega arith)).presync

sync_enough : (f : ℕ) (bytes : List ℕ) → length bytes ≤ f → in_sync f bytes ≡ from_sync bytes
sync_enough f bytes h = (enough f (length bytes) bytes h (omega arith)).sync

pub hunt_found : (x : ℕ) (xs : List ℕ) (pli : ℕ) → right_at (x ∷ xs) ≡ Some pli → from_hunt (x ∷ xs) ≡ from_presync (after_frame pli (x ∷ xs))
hunt_found x xs pli e =
    hunting-next (length xs) (x ∷ xs) ∙ ap (hunt_step (length xs) (x ∷ xs)) e
    ∙ presync_enough (length xs) (after_frame pli (x ∷ xs)) (shorter (4 + area_size pli) (length xs) (x ∷ xs) (omega arith) (omega arith))

pub hunt_missed : (x : ℕ) (xs : List ℕ) → right_at (x ∷ xs) ≡ None → from_hunt (x ∷ xs) ≡ from_hunt xs
hunt_missed x xs e = hunting-next (length xs) (x ∷ xs) ∙ ap (hunt_step (length xs) (x ∷ xs)) e

pub presync_found : (x : ℕ) (xs : List ℕ) (pli : ℕ) → right_at (x ∷ xs) ≡ Some pli → from_presync (x ∷ xs) ≡ whole_area pli (drop 4 (x ∷ xs)) ++ from_sync (after_frame pli (x ∷ xs))
presync_found x xs pli e =
    presync-next (length xs) (x ∷ xs) ∙ ap (sync_step (length xs) (x ∷ xs)) e
    ∙ ap (λ y. whole_area pli (drop 4 (x ∷ xs)) ++ y) (sync_enough (length xs) (after_frame pli (x ∷ xs)) (shorter (4 + area_size pli) (length xs) (x ∷ xs) (omega arith) (omega arith)))

pub presync_missed : (x : ℕ) (xs : List ℕ) → right_at (x ∷ xs) ≡ None → from_presync (x ∷ xs) ≡ from_hunt xs
presync_missed x xs e = presync-next (length xs) (x ∷ xs) ∙ ap (sync_step (length xs) (x ∷ xs)) e

pub sync_found : (x : ℕ) (xs : List ℕ) (pli : ℕ) → near_at (x ∷ xs) ≡ Some pli → from_sync (x ∷ xs) ≡ whole_area pli (drop 4 (x ∷ xs)) ++ from_sync (after_frame pli (x ∷ xs))
sync_found x xs pli e =
    sync-next (length xs) (x ∷ xs) ∙ ap (sync_step (length xs) (x ∷ xs)) e
    ∙ ap (λ y. whole_area pli (drop 4 (x ∷ xs)) ++ y) (sync_enough (length xs) (after_frame pli (x ∷ xs)) (shorter (4 + area_size pli) (length xs) (x ∷ xs) (omega arith) (omega arith)))

pub sync_missed : (x : ℕ) (xs : List ℕ) → near_at (x ∷ xs) ≡ None → from_sync (x ∷ xs) ≡ from_hunt xs
sync_missed x xs e = sync-next (length xs) (x ∷ xs) ∙ ap (sync_step (length xs) (x ∷ xs)) e

-- ---- a header of four bytes, and more

front_index : (w more : List ℕ) (i : ℕ) → length w ≡ 4 → i < 4 → get_or (w ++ more) i 0 ≡ get_or w i 0
front_index w more i four h = get_or_append_left w more 0 i (omega arith)

header_front : (w more : List ℕ) → length w ≡ 4 → header_in (w ++ more) ≡ header_in w
header_front w more four =
    let a = front_index w more 0 four (omega arith) in
    let b = front_index w more 1 four (omega arith) in
    let c = front_index w more 2 four (omega arith) in
    let d = front_index w more 3 four (omega arith) in
    cc

long_enough : (w more : List ℕ) → length w ≡ 4 → nat_lt (length (w ++ more)) 4 ≡ false
long_enough w more four = le-ltb (length (w ++ more)) 4 (let e = length-append w more in omega arith)

pub right_front : (w more : List ℕ) → length w ≡ 4 → right_at (w ++ more) ≡ right_pli (header_in w)
unfolding right_at
right_front w more four = ap (λ b. cond b None (right_pli (header_in (w ++ more)))) (long_enough w more four) ∙ ap right_pli (header_front w more four)

pub near_front : (w more : List ℕ) → length w ≡ 4 → near_at (w ++ more) ≡ near_pli (header_in w)
unfolding near_at
near_front w more four = ap (λ b. cond b None (near_pli (header_in (w ++ more)))) (long_enough w more four) ∙ ap near_pli (header_front w more four)

drop_front : (w more : List ℕ) (n : ℕ) → length w ≡ 4 → drop (4 + n) (w ++ more) ≡ drop n more
drop_front w more n four = ap (λ k. drop (k + n) (w ++ more)) (sym four) ∙ drop-append-add w more n

drop_four : (w more : List ℕ) → length w ≡ 4 → drop 4 (w ++ more) ≡ more
drop_four w more four = ap (λ k. drop k (w ++ more)) (sym four) ∙ drop-append_seam w more

-- the rest after the first byte
slid_front : (x : ℕ) (w more : List ℕ) → drop 1 (x ∷ w) ++ more ≡ w ++ more
slid_front x w more = refl

pub hunt_goes : (w more : List ℕ) (pli : ℕ) → length w ≡ 4 → right_pli (header_in w) ≡ Some pli → from_hunt (w ++ more) ≡ from_presync (drop (area_size pli) more)
hunt_goes [] more pli four e = absurd (omega arith)
hunt_goes (x ∷ w) more pli four e =
    hunt_found x (w ++ more) pli (right_front (x ∷ w) more four ∙ e) ∙ ap from_presync (drop_front (x ∷ w) more (area_size pli) four)

pub hunt_slides : (w more : List ℕ) → length w ≡ 4 → right_pli (header_in w) ≡ None → from_hunt (w ++ more) ≡ from_hunt (drop 1 w ++ more)
hunt_slides [] more four e = absurd (omega arith)
hunt_slides (x ∷ w) more four e = hunt_missed x (w ++ more) (right_front (x ∷ w) more four ∙ e)

frame_front : (w more : List ℕ) (pli : ℕ) → length w ≡ 4
    → whole_area pli (drop 4 (w ++ more)) ++ from_sync (after_frame pli (w ++ more)) ≡ whole_area pli more ++ from_sync (drop (area_size pli) more)
frame_front w more pli four =
    ap (λ y. whole_area pli y ++ from_sync (after_frame pli (w ++ more))) (drop_four w more four)
    ∙ ap (λ y. whole_area pli more ++ from_sync y) (drop_front w more (area_size pli) four)

pub presync_goes : (w more : List ℕ) (pli : ℕ) → length w ≡ 4 → right_pli (header_in w) ≡ Some pli
    → from_presync (w ++ more) ≡ whole_area pli more ++ from_sync (drop (area_size pli) more)
presync_goes [] more pli four e = absurd (omega arith)
presync_goes (x ∷ w) more pli four e = presync_found x (w ++ more) pli (right_front (x ∷ w) more four ∙ e) ∙ frame_front (x ∷ w) more pli four

pub presync_slides : (w more : List ℕ) → length w ≡ 4 → right_pli (header_in w) ≡ None → from_presync (w ++ more) ≡ from_hunt (drop 1 w ++ more)
presync_slides [] more four e = absurd (omega arith)
presync_slides (x ∷ w) more four e = presync_missed x (w ++ more) (right_front (x ∷ w) more four ∙ e)

pub sync_goes : (w more : List ℕ) (pli : ℕ) → length w ≡ 4 → near_pli (header_in w) ≡ Some pli
    → from_sync (w ++ more) ≡ whole_area pli more ++ from_sync (drop (area_size pli) more)
sync_goes [] more pli four e = absurd (omega arith)
sync_goes (x ∷ w) more pli four e = sync_found x (w ++ more) pli (near_front (x ∷ w) more four ∙ e) ∙ frame_front (x ∷ w) more pli four

pub sync_slides : (w more : List ℕ) → length w ≡ 4 → near_pli (header_in w) ≡ None → from_sync (w ++ more) ≡ from_hunt (drop 1 w ++ more)
sync_slides [] more four e = absurd (omega arith)
sync_slides (x ∷ w) more four e = sync_missed x (w ++ more) (near_front (x ∷ w) more four ∙ e)
