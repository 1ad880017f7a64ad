-- What a list delivers stays delivered, whatever comes after the list.
use Rattle.std.proofs.Common.{◌≡◌, ℕ, zero, suc, ◌+◌, ◌-◌, ◌<◌, ◌≤◌, ◌⊎◌, List, [], ◌∷◌, ◌++◌, Bool, true, false, cond, Option, Some, None, length, take, drop, refl, ap, ◌∙◌, sym, arith, inl, inr, append_assoc, length-append, length-drop, length-take}
use Rattle.std.specs.Prelude.{nat_lt, ◌||◌}
use Rattle.std.proofs.lemmas.List.{take-append-le, drop-append-le, take-append-drop}
use Rattle.std.proofs.lemmas.Bool.{cases_lt, le-ltb}
use Rattle.gfp_scrambler.specs.Register.{last_bits, descrambled}
use Rattle.gfp_frames.specs.CoreHeader.{area_size, header_in, right_pli, near_pli}
use Rattle.gfp_frames.specs.Delineation.{whole_area, from_hunt, from_presync, from_sync, sync_areas}
use Rattle.gfp_frames.specs.Delivered.{plain_areas, packets_in, areas_in, delivered}
use Rattle.gfp_frames.proofs.Lists.{all_dropped}
use Rattle.gfp_frames.proofs.Delineating.{nothing_after, nothing_in_sync, hunt_goes, hunt_slides, presync_goes, presync_slides, sync_goes, sync_slides}
use Rattle.gfp_frames.proofs.Reading.{hunt_short, presync_short, sync_short, area_short, plain_areas-none, plain_areas-cons, delivered_is, packets-append}

-- the first list, with more at its end
abbrev Grows : {X : Type 0} → List X → List X → Type 0
Grows {X} long short = (rest : List X) × (long ≡ short ++ rest)

from_none : {X : Type 0} (long short : List X) → short ≡ [] → Grows long short
from_none long short e = (long, ap (λ y. y ++ long) (sym e))

along : {X : Type 0} (a b c d : List X) → a ≡ b → c ≡ d → Grows b d → Grows a c
along a b c d ab cd grows = (grows.0, ab ∙ grows.1 ∙ ap (λ y. y ++ grows.0) (sym cd))

behind : {X : Type 0} (front long short : List X) → Grows long short → Grows (front ++ long) (front ++ short)
behind front long short grows = (grows.0, ap (λ y. front ++ y) grows.1 ∙ sym (append_assoc front short grows.0))

some_or_none : (o : Option ℕ) → (o ≡ None) ⊎ ((x : ℕ) × (o ≡ Some x))
some_or_none None = inl refl
some_or_none (Some x) = inr (x, refl)

-- four bytes in front
in_front : (bytes more : List ℕ) → bytes ++ more ≡ take 4 bytes ++ (drop 4 bytes ++ more)
in_front bytes more = ap (λ y. y ++ more) (sym (take-append-drop 4 bytes)) ∙ append_assoc (take 4 bytes) (drop 4 bytes) more

four_long : (bytes : List ℕ) → 4 ≤ length bytes → length (take 4 bytes) ≡ 4
four_long bytes h = let e = length-take 4 bytes in omega arith

same_area : (pli : ℕ) (bytes more : List ℕ) → area_size pli ≤ length bytes → whole_area pli (bytes ++ more) ≡ whole_area pli bytes
same_area pli bytes more enough = by_size (nat_lt pli 4) refl
  where
    by_size : (b : Bool) → nat_lt pli 4 ≡ b → whole_area pli (bytes ++ more) ≡ whole_area pli bytes
    by_size true e =
        ap (λ b. cond (b || nat_lt (length (bytes ++ more)) pli) [] (take pli (bytes ++ more) ∷ [])) e
        ∙ sym (ap (λ b. cond (b || nat_lt (length bytes) pli) [] (take pli bytes ∷ [])) e)
    by_size false e =
        let size : pli ≤ length bytes = (let s : area_size pli ≡ pli = ap (λ b. cond b 0 pli) e in omega arith) in
        let long : nat_lt (length (bytes ++ more)) pli ≡ false = le-ltb (length (bytes ++ more)) pli (let l = length-append bytes more in omega arith) in
        let short : nat_lt (length bytes) pli ≡ false = le-ltb (length bytes) pli size in
        ap (λ b. cond (b || nat_lt (length (bytes ++ more)) pli) [] (take pli (bytes ++ more) ∷ [])) e
        ∙ ap (λ b. cond b [] (take pli (bytes ++ more) ∷ [])) long
        ∙ ap (λ y. y ∷ []) (take-append-le pli bytes more size)
        ∙ sym (ap (λ b. cond (b || nat_lt (length bytes) pli) [] (take pli bytes ∷ [])) e ∙ ap (λ b. cond b [] (take pli bytes ∷ [])) short)

no_area_yet : (pli : ℕ) (bytes : List ℕ) → length bytes < area_size pli → whole_area pli bytes ≡ []
no_area_yet pli bytes short = area_short pli bytes (let most = at_most pli in omega arith)
  where
    at_most : (n : ℕ) → area_size n ≤ n
    at_most n = by_test (nat_lt n 4)
      where
        by_test : (b : Bool) → cond b 0 n ≤ n
        by_test true = omega arith
        by_test false = omega arith

record AllGrow (bytes more : List ℕ) : Type 0 where
  hunt : Grows (from_hunt (bytes ++ more)) (from_hunt bytes)
  presync : Grows (from_presync (bytes ++ more)) (from_presync bytes)
  sync : Grows (from_sync (bytes ++ more)) (from_sync bytes)

short_grow : (bytes more : List ℕ) → length bytes < 4 → AllGrow bytes more
short_grow bytes more h = record {
  hunt = from_none (from_hunt (bytes ++ more)) (from_hunt bytes) (hunt_short bytes h);
  presync = from_none (from_presync (bytes ++ more)) (from_presync bytes) (presync_short bytes h);
  sync = from_none (from_sync (bytes ++ more)) (from_sync bytes) (sync_short bytes h);
}

-- the frame after a header in sync
frame_grows : (pli : ℕ) (rest more : List ℕ) → ((shorter : List ℕ) → length shorter ≤ length rest → AllGrow shorter more)
    → Grows (whole_area pli (rest ++ more) ++ from_sync (drop (area_size pli) (rest ++ more))) (whole_area pli rest ++ from_sync (drop (area_size pli) rest))
frame_grows pli rest more all = elim (cases_lt (length rest) (area_size pli)) [
  | inl cut ↦ from_none (whole_area pli (rest ++ more) ++ from_sync (drop (area_size pli) (rest ++ more))) (whole_area pli rest ++ from_sync (drop (area_size pli) rest))
      (ap (λ y. y ++ from_sync (drop (area_size pli) rest)) (no_area_yet pli rest cut) ∙ ap from_sync (all_dropped rest (area_size pli) (omega arith)) ∙ nothing_in_sync 0)
  | inr whole ↦
      along (whole_area pli (rest ++ more) ++ from_sync (drop (area_size pli) (rest ++ more))) (whole_area pli rest ++ from_sync (drop (area_size pli) rest ++ more))
      (whole_area pli rest ++ from_sync (drop (area_size pli) rest)) (whole_area pli rest ++ from_sync (drop (area_size pli) rest))
      (ap (λ y. y ++ from_sync (drop (area_size pli) (rest ++ more))) (same_area pli rest more whole)
      ∙ ap (λ y. whole_area pli rest ++ from_sync y) (drop-append-le (area_size pli) rest more whole))
      refl
      (behind (whole_area pli rest) (from_sync (drop (area_size pli) rest ++ more)) (from_sync (drop (area_size pli) rest))
      (all (drop (area_size pli) rest) (let l = length-drop (area_size pli) rest in omega arith)).sync)
]

presync_grows : (pli : ℕ) (rest more : List ℕ) → ((shorter : List ℕ) → length shorter ≤ length rest → AllGrow shorter more)
    → Grows (from_presync (drop (area_size pli) (rest ++ more))) (from_presync (drop (area_size pli) rest))
presync_grows pli rest more all = elim (cases_lt (length rest) (area_size pli)) [
  | inl cut ↦ from_none (from_presync (drop (area_size pli) (rest ++ more))) (from_presync (drop (area_size pli) rest))
      (ap from_presync (all_dropped rest (area_size pli) (omega arith)) ∙ nothing_after 0)
  | inr whole ↦
      along (from_presync (drop (area_size pli) (rest ++ more))) (from_presync (drop (area_size pli) rest ++ more))
      (from_presync (drop (area_size pli) rest)) (from_presync (drop (area_size pli) rest))
      (ap from_presync (drop-append-le (area_size pli) rest more whole)) refl
      (all (drop (area_size pli) rest) (let l = length-drop (area_size pli) rest in omega arith)).presync
]

-- a list of at least four bytes: its first four say how it goes on
long_grow : (w rest more : List ℕ) → length w ≡ 4 → ((shorter : List ℕ) → length shorter < 4 + length rest → AllGrow shorter more)
    → (Grows (from_hunt (w ++ (rest ++ more))) (from_hunt (w ++ rest))) × (Grows (from_presync (w ++ (rest ++ more))) (from_presync (w ++ rest))) × (Grows (from_sync (w ++ (rest ++ more))) (from_sync (w ++ rest)))
long_grow w rest more four all = (
  elim (some_or_none (right_pli (header_in w))) [
    | inl none ↦ along (from_hunt (w ++ (rest ++ more))) (from_hunt ((drop 1 w ++ rest) ++ more)) (from_hunt (w ++ rest)) (from_hunt (drop 1 w ++ rest))
        (hunt_slides w (rest ++ more) four none ∙ ap from_hunt (sym (append_assoc (drop 1 w) rest more))) (hunt_slides w rest four none) slid.hunt
    | inr (pli, some) ↦ along (from_hunt (w ++ (rest ++ more))) (from_presync (drop (area_size pli) (rest ++ more))) (from_hunt (w ++ rest)) (from_presync (drop (area_size pli) rest))
        (hunt_goes w (rest ++ more) pli four some) (hunt_goes w rest pli four some) (presync_grows pli rest more shorter)
  ],
  elim (some_or_none (right_pli (header_in w))) [
    | inl none ↦ along (from_presync (w ++ (rest ++ more))) (from_hunt ((drop 1 w ++ rest) ++ more)) (from_presync (w ++ rest)) (from_hunt (drop 1 w ++ rest))
        (presync_slides w (rest ++ more) four none ∙ ap from_hunt (sym (append_assoc (drop 1 w) rest more))) (presync_slides w rest four none) slid.hunt
    | inr (pli, some) ↦ along (from_presync (w ++ (rest ++ more))) (whole_area pli (rest ++ more) ++ from_sync (drop (area_size pli) (rest ++ more))) (from_presync (w ++ rest)) (whole_area pli rest ++ from_sync (drop (area_size pli) rest))
        (presync_goes w (rest ++ more) pli four some) (presync_goes w rest pli four some) (frame_grows pli rest more shorter)
  ],
  elim (some_or_none (near_pli (header_in w))) [
    | inl none ↦ along (from_sync (w ++ (rest ++ more))) (from_hunt ((drop 1 w ++ rest) ++ more)) (from_sync (w ++ rest)) (from_hunt (drop 1 w ++ rest))
        (sync_slides w (rest ++ more) four none ∙ ap from_hunt (sym (append_assoc (drop 1 w) rest more))) (sync_slides w rest four none) slid.hunt
    | inr (pli, some) ↦ along (from_sync (w ++ (rest ++ more))) (whole_area pli (rest ++ more) ++ from_sync (drop (area_size pli) (rest ++ more))) (from_sync (w ++ rest)) (whole_area pli rest ++ from_sync (drop (area_size pli) rest))
        (sync_goes w (rest ++ more) pli four some) (sync_goes w rest pli four some) (frame_grows pli rest more shorter)
  ],
)
  where
    slid : AllGrow (drop 1 w ++ rest) more
    slid = all (drop 1 w ++ rest) (let a = length-append (drop 1 w) rest in let d = length-drop 1 w in omega arith)

    shorter : (s : List ℕ) → length s ≤ length rest → AllGrow s more
    shorter s h = all s (omega arith)

grow : (n : ℕ) (bytes more : List ℕ) → length bytes < n → AllGrow bytes more
grow zero bytes more h = absurd (omega arith)
grow (suc n) bytes more h = elim (cases_lt (length bytes) 4) [
  | inl short ↦ short_grow bytes more short
  | inr long ↦
      let w = take 4 bytes in
      let rest = drop 4 bytes in
      let four = four_long bytes long in
      let whole : w ++ rest ≡ bytes = take-append-drop 4 bytes in
      let left : length rest ≡ length bytes - 4 = length-drop 4 bytes in
      let grown = long_grow w rest more four (λ s lt. grow n s more (omega arith)) in
      record {
        hunt = along (from_hunt (bytes ++ more)) (from_hunt (w ++ (rest ++ more))) (from_hunt bytes) (from_hunt (w ++ rest)) (ap from_hunt (in_front bytes more)) (ap from_hunt (sym whole)) grown.0;
        presync = along (from_presync (bytes ++ more)) (from_presync (w ++ (rest ++ more))) (from_presync bytes) (from_presync (w ++ rest)) (ap from_presync (in_front bytes more)) (ap from_presync (sym whole)) grown.1;
        sync = along (from_sync (bytes ++ more)) (from_sync (w ++ (rest ++ more))) (from_sync bytes) (from_sync (w ++ rest)) (ap from_sync (in_front bytes more)) (ap from_sync (sym whole)) grown.2;
      }
]

-- more areas, more packets
last_of : ℕ → List (List ℕ) → ℕ
last_of r [] = r
last_of r (area ∷ areas) = last_of (last_bits r area) areas

plain-append : (r : ℕ) (xs ys : List (List ℕ)) → plain_areas r (xs ++ ys) ≡ plain_areas r xs ++ plain_areas (last_of r xs) ys
unfolding last_of
plain-append r [] ys = ap (λ y. y ++ plain_areas r ys) (sym (plain_areas-none r))
plain-append r (area ∷ areas) ys =
    plain_areas-cons r area (areas ++ ys)
    ∙ ap (λ y. descrambled r area ∷ y) (plain-append (last_bits r area) areas ys)
    ∙ ap (λ y. y ++ plain_areas (last_of (last_bits r area) areas) ys) (sym (plain_areas-cons r area areas))

areas_are : (bytes : List ℕ) → areas_in bytes ≡ plain_areas 0 (from_hunt bytes)
unfolding sync_areas
areas_are bytes = refl

pub areas_grow : (bytes more : List ℕ) → (rest : List (List ℕ)) × (areas_in (bytes ++ more) ≡ areas_in bytes ++ rest)
areas_grow bytes more =
    let grown = (grow (suc (length bytes)) bytes more (omega arith)).hunt in
    let areas = from_hunt bytes in
    let late = plain_areas (last_of 0 areas) grown.0 in (
      late,
      areas_are (bytes ++ more)
          ∙ ap (plain_areas 0) grown.1
          ∙ plain-append 0 areas grown.0
          ∙ ap (λ y. y ++ late) (sym (areas_are bytes)),
    )

pub delivered_grows : (bytes more : List ℕ) → (rest : List (List ℕ)) × (delivered (bytes ++ more) ≡ delivered bytes ++ rest)
delivered_grows bytes more =
    let grown = areas_grow bytes more in (
      packets_in grown.0,
      delivered_is (bytes ++ more)
          ∙ ap packets_in grown.1
          ∙ packets-append (areas_in bytes) grown.0
          ∙ ap (λ y. y ++ packets_in grown.0) (sym (delivered_is bytes)),
    )
