-- A list of slots in the outline is a list of slots of a line.
use Rattle.std.proofs.Common.{◌≡◌, ℕ, ◌+◌, ◌<◌, ◌≤◌, ℤ, pos, negsuc, true, ◌&&◌, List, [], ◌∷◌, length, map, arith, zero, suc, add-one}
use Rattle.std.proofs.lemmas.Bool.{and_parts, ltb-true}
use Rattle.std.proofs.lemmas.Bool.Decides.{nat_tests}
use Rattle.std.proofs.lemmas.List.{length-map}
use Rattle.std.specs.List.{list_all}
use Rattle.std.specs.Prelude.{int_lt, nat_le, slice_index}
use Rattle.otn_base.specs.LineSlots.{slots_of}
use Rattle.otn_base.specs.SlotList.{IsSlotList}
use Rattle.otn_base.specs.declared.line_kind.LineKind.{LineKind}
use Rattle.otn_base.specs.declared.line_kind.LineKind.TheVariants.{Otu2, Otu3}
use Rattle.plan_file.specs.Entry.{natural}
use Rattle.plan_file.specs.Rules.{is_within, rises, is_slot_list}
use Rattle.plan_file.proofs.Fitting.{within}

natural_less : (most : ℕ) (y z : ℤ) → is_within 1 most y ≡ true → is_within 1 most z ≡ true → int_lt y z ≡ true → natural y < natural z
natural_less most (pos a) (pos b) low high less = ltb-true a b less
natural_less most (pos a) (negsuc b) low high less = cc
natural_less most (negsuc a) z low high less = cc

-- the numbers above the first one
room : (most : ℕ) (z : ℤ) (zs : List ℤ) → list_all (is_within 1 most) (z ∷ zs) ≡ true → rises (z ∷ zs) ≡ true → natural z + length zs ≤ most
room most z [] all up =
    let (here, rest) = and_parts (is_within 1 most z) true all in
    let high = (within 1 most z here).high in omega arith
room most z (y ∷ zs) all up =
    let (here, rest) = and_parts (is_within 1 most z) (list_all (is_within 1 most) (y ∷ zs)) all in
    let (next, more) = and_parts (is_within 1 most y) (list_all (is_within 1 most) zs) rest in
    let (less, up') = and_parts (int_lt z y) (rises (y ∷ zs)) up in
    let below = natural_less most z y here next less in
    let ih = room most y zs rest up' in omega arith

pub slots_short : (most : ℕ) (zs : List ℤ) → list_all (is_within 1 most) zs ≡ true → rises zs ≡ true → length zs ≤ most
slots_short most [] all up = omega arith
slots_short most (z ∷ zs) all up =
    let (here, rest) = and_parts (is_within 1 most z) (list_all (is_within 1 most) zs) all in
    let low = (within 1 most z here).low in
    let ih = room most z zs all up in omega arith

low_at : (most : ℕ) (zs : List ℤ) (i : ℕ) → list_all (is_within 1 most) zs ≡ true → i < length zs → 1 ≤ slice_index (map natural zs) i
low_at most [] i all inside = absurd (omega arith)
low_at most (z ∷ zs) zero all inside = (within 1 most z (and_parts (is_within 1 most z) (list_all (is_within 1 most) zs) all).0).low
low_at most (z ∷ zs) (suc i) all inside = low_at most zs i (and_parts (is_within 1 most z) (list_all (is_within 1 most) zs) all).1 (omega arith)

high_at : (most : ℕ) (zs : List ℤ) (i : ℕ) → list_all (is_within 1 most) zs ≡ true → i < length zs → slice_index (map natural zs) i ≤ most
high_at most [] i all inside = absurd (omega arith)
high_at most (z ∷ zs) zero all inside = (within 1 most z (and_parts (is_within 1 most z) (list_all (is_within 1 most) zs) all).0).high
high_at most (z ∷ zs) (suc i) all inside = high_at most zs i (and_parts (is_within 1 most z) (list_all (is_within 1 most) zs) all).1 (omega arith)

rising_at : (most : ℕ) (zs : List ℤ) (k : ℕ) → list_all (is_within 1 most) zs ≡ true → rises zs ≡ true → suc k < length zs → slice_index (map natural zs) k < slice_index (map natural zs) (suc k)
rising_at most [] k all up inside = absurd (omega arith)
rising_at most (z ∷ []) k all up inside = absurd (omega arith)
rising_at most (z ∷ y ∷ zs) zero all up inside =
    let (here, rest) = and_parts (is_within 1 most z) (list_all (is_within 1 most) (y ∷ zs)) all in
    let (next, more) = and_parts (is_within 1 most y) (list_all (is_within 1 most) zs) rest in
    natural_less most z y here next (and_parts (int_lt z y) (rises (y ∷ zs)) up).0
rising_at most (z ∷ y ∷ zs) (suc k) all up inside =
    rising_at most (y ∷ zs) k (and_parts (is_within 1 most z) (list_all (is_within 1 most) (y ∷ zs)) all).1 (and_parts (int_lt z y) (rises (y ∷ zs)) up).1 (omega arith)

pub record SlotParts (most : ℕ) (zs : List ℤ) : Type 0 where
  pub some : nat_le 1 (length zs) ≡ true
  pub all : list_all (is_within 1 most) zs ≡ true
  pub up : rises zs ≡ true

pub slot_parts : (most : ℕ) (zs : List ℤ) → is_slot_list most zs ≡ true → SlotParts most zs
slot_parts most zs h =
    let (front, up) = and_parts (nat_le 1 (length zs) && list_all (is_within 1 most) zs) (rises zs) h in
    let (some, all) = and_parts (nat_le 1 (length zs)) (list_all (is_within 1 most) zs) front in
    record { some = some; all = all; up = up }

pub is_slot_list-short : (most : ℕ) (zs : List ℤ) → is_slot_list most zs ≡ true → length zs ≤ most
is_slot_list-short most zs h = let parts = slot_parts most zs h in slots_short most zs parts.all parts.up

taken_of : (n : ℕ) → nat_le 1 n ≡ true → 0 < n
taken_of n h = grind (arith, nat_tests)

pub slot_list_of : (most : ℕ) (zs : List ℤ) → is_slot_list most zs ≡ true → IsSlotList most (map natural zs)
slot_list_of most zs h =
    let parts = slot_parts most zs h in
    let same = length-map zs natural in
    record {
      taken = rw same (taken_of (length zs) parts.some);
      low = λ i inside. low_at most zs i parts.all (rw same at inside);
      high = λ i inside. high_at most zs i parts.all (rw same at inside);
      rising = λ k inside. rw add-one (rising_at most zs k parts.all parts.up (rw (same, add-one) at inside));
    }

-- each kind of lines has at most 32 slots
pub few_of : (kind : LineKind) → slots_of kind ≤ 32
few_of Otu2 = omega arith
few_of Otu3 = omega arith

pub low_slots : (kind : LineKind) → slots_of kind ≤ 255
low_slots kind = let few = few_of kind in omega arith

pub few_slots : (kind : LineKind) (zs : List ℤ) → is_slot_list (slots_of kind) zs ≡ true → length zs ≤ 32
few_slots kind zs h =
    let short = is_slot_list-short (slots_of kind) zs h in
    let few = few_of kind in omega arith
