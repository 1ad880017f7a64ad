-- Numbers of a plan, seen in its outline: the tests of the rules, as bounds and equations.
use Rattle.std.proofs.Common.{◌≡◌, ◌≤◌, ℕ, zero, suc, ℤ, pos, Bool, true, false, List, [], ◌∷◌, length, map, nat_le, nat_lt, ◌==◌, Some, slice_get, refl, ap, subst, sym, ◌∙◌, arith}
use Rattle.std.proofs.lemmas.Bool.{or_left, or_right, eqb-true}
use Rattle.std.proofs.lemmas.Bool.Decides.{nat_tests}
use Rattle.std.proofs.lemmas.Int.{ints}
use Rattle.std.proofs.lemmas.List.{length-map}
use Rattle.std.proofs.lemmas.Option.{none-some, slice_get_read}
use Rattle.std.specs.Int.{int_max, int_min}
use Rattle.std.specs.List.{Contains, list_all, list_any}
use Rattle.std.specs.Ordering.{int_eq}
use Rattle.std.specs.Prelude.{int_le}
use Rattle.otn_base.specs.SlotList.{IsSlotList}
use Rattle.plan_file.specs.Entry.{natural}
use Rattle.plan_file.specs.Lines.{line_kind}
use Rattle.plan_file.specs.Rules.{is_within, is_slot_list, have_common}
use Rattle.plan_file.proofs.Fitting.{all_at}
use Rattle.plan_file.proofs.Lists.{slice_get_known}
use Rattle.plan_file.proofs.SlotNumbers.{slot_list_of}
use Rattle.device_model.specs.Entries.{kind_by}

-- ---- tests of one or two numbers

pub within_least : (least most n : ℕ) → is_within least most (pos n) ≡ true → least ≤ n
within_least least most n h = grind (arith, nat_tests)

pub within_most : (least most n : ℕ) → is_within least most (pos n) ≡ true → n ≤ most
within_most least most n h = grind (arith, nat_tests)

pub le_seen : (m n : ℕ) → int_le (pos m) (pos n) ≡ true → m ≤ n
le_seen m n h = grind (arith, ints, nat_tests)

pub le_of_seen : (m n : ℕ) → nat_le m n ≡ true → m ≤ n
le_of_seen m n h = grind (arith, nat_tests)

pub not_many : (most n : ℕ) → nat_lt most n ≡ false → n ≤ most
not_many most n h = grind (arith, nat_tests)

pub same_seen : (n : ℕ) → int_eq (pos n) (pos n) ≡ true
same_seen n = grind (arith, ints, nat_tests)

eq_seen : (a n : ℕ) → int_eq (pos a) (pos n) ≡ (n == a)
eq_seen a n = grind (arith, ints, nat_tests)

-- two spans that have a turn in common
pub spans_meet : (start stop other last turn : ℕ) → start ≤ turn → turn ≤ stop → other ≤ turn → turn ≤ last → int_le (int_max (pos start) (pos other)) (int_min (pos stop) (pos last)) ≡ true
spans_meet start stop other last turn h k h' k' = grind (arith, ints, nat_tests)

-- ---- lists

naturals_seen : (xs : List ℕ) → map natural (map pos xs) ≡ xs
naturals_seen [] = refl
naturals_seen (x ∷ xs) = ap (λ rest. x ∷ rest) (naturals_seen xs)

pub slots_seen : (most : ℕ) (xs : List ℕ) → is_slot_list most (map pos xs) ≡ true → IsSlotList most xs
slots_seen most xs h = subst (IsSlotList most) (naturals_seen xs) (slot_list_of most (map pos xs) h)

pub count_seen : (xs : List ℕ) → length (map pos xs) ≡ length xs
count_seen xs = length-map xs pos

pub counts_seen : (xs ys : List ℕ) → (length (map pos xs) == length (map pos ys)) ≡ true → length xs ≡ length ys
counts_seen xs ys h = sym (count_seen xs) ∙ eqb-true (length (map pos xs)) (length (map pos ys)) h ∙ count_seen ys

pub all_seen : (least most : ℕ) (xs : List ℕ) (i x : ℕ) → list_all (is_within least most) (map pos xs) ≡ true → slice_get xs i ≡ Some x → is_within least most (pos x) ≡ true
all_seen least most xs i x h known = all_at (is_within least most) (map pos xs) i (pos x) h (slice_get_known pos xs i x known)

any_seen : (otu3 : List ℕ) (a : ℕ) → list_any (int_eq (pos a)) (map pos otu3) ≡ list_any (λ n. n == a) otu3
any_seen [] a = refl
any_seen (n ∷ otu3) a = rw (eq_seen a n, any_seen otu3 a)

pub kind_seen : (otu3 : List ℕ) (a : ℕ) → line_kind (map pos otu3) (pos a) ≡ kind_by otu3 a
kind_seen otu3 a = rw (any_seen otu3 a)

-- ---- a number of both lists

any_at : {A : Type 0} (test : A → Bool) (xs : List A) (i : ℕ) (x : A) → slice_get xs i ≡ Some x → test x ≡ true → list_any test xs ≡ true
any_at test [] i x known holds = absurd (none-some x known)
any_at test (y ∷ ys) zero x known holds =
    let same : y ≡ x = cc in or_left (test y) (list_any test ys) (rw same holds)
any_at test (y ∷ ys) (suc i) x known holds = or_right (test y) (list_any test ys) (any_at test ys i x known holds)

any_of_seen : (test : ℤ → Bool) (xs : List ℕ) (x : ℕ) → Contains xs x → test (pos x) ≡ true → list_any test (map pos xs) ≡ true
any_of_seen test xs x (k, inside, is) holds =
    any_at test (map pos xs) k (pos x) (slice_get_known pos xs k x (slice_get_read xs (length xs) k x refl inside (sym is))) holds

pub common_seen : (xs ys : List ℕ) (x : ℕ) → Contains xs x → Contains ys x → have_common (map pos xs) (map pos ys) ≡ true
common_seen xs ys x one other =
    any_of_seen (λ number. list_any (int_eq number) (map pos ys)) xs x one (any_of_seen (int_eq (pos x)) ys x other (same_seen x))
