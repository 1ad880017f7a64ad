-- Views that carry given bytes.
use Rattle.std.proofs.Common.{◌≡◌, ℕ, zero, suc, ◌+◌, ◌*◌, ◌/◌, ◌%◌, ◌-◌, ◌<◌, ◌≤◌, List, [], ◌++◌, length, take, drop, replicate, Bool, true, false, cond, Option, Some, refl, ap, ◌∙◌, sym, subst, arith}
use Rattle.std.specs.Prelude.{All, map, slice_get, nat_lt}
use Rattle.std.specs.List.{range_with_len}
use Rattle.std.proofs.lemmas.Bool.{agree_below_at, ltb-true, lt-ltb}
use Rattle.std.proofs.lemmas.List.{length-take, length-drop, length-replicate}
use Rattle.std.proofs.lemmas.List.Elements.{All-nil, All-cons}
use Rattle.std.proofs.lemmas.List.FromFn.{length-map-range_with_len}
use Rattle.std.proofs.Math.Nat.{div-add-mod, mod-lt}
use Rattle.gmp_rule.specs.DataRule.{IsData, is_data_at}
use Rattle.msi_table.specs.Marks.{msi_byte}
use Rattle.crc_small.specs.LongDivision.{crc5_of, check_of, remainder_from, low_bits}
use Rattle.jc_codec.specs.Message.{says}
use Rattle.cnd_codec.specs.Remainder.{says_cnd}
use Rattle.tributary_model.specs.Places.{Tributary, View, IsWhole}
use Rattle.tributary_model.specs.Carries.{sent, cm_in, cnd_in, former_of, cm_before, cleared, CarriesTurn}
use Rattle.tributary_model.specs.Carriage.{CanBeCarried}
use Rattle.tributary_model.proofs.Totals.{sent_up, groups_within, group_ends}

-- ---- groups

-- how many groups a multiframe has
many : ℕ
many = 15232

many_is : many ≡ 15232
unfolding many
many_is = refl

-- group j: the next bytes where it is data, else 0
group_sent : (m c q : ℕ) → (bytes : List ℕ) → (j : ℕ) → List ℕ
group_sent m c q bytes j = cond (is_data_at c j) (take m (drop (m * (q + j * c / 15232 - 1)) bytes)) (replicate m 0)

groups_sent : (m c q : ℕ) → (bytes : List ℕ) → List (List ℕ)
groups_sent m c q bytes = map (group_sent m c q bytes) (range_with_len 1 many)

data_group : (m c q : ℕ) (bytes : List ℕ) (j : ℕ) → IsData c j → group_sent m c q bytes j ≡ take m (drop (m * (q + j * c / 15232 - 1)) bytes)
unfolding group_sent
data_group m c q bytes j d = ap (λ t. cond t (take m (drop (m * (q + j * c / 15232 - 1)) bytes)) (replicate m 0)) (lt-ltb ((j * c) % 15232) c d)

group_length : (m c q : ℕ) (bytes : List ℕ) (j : ℕ) → j ≤ 15232 → m * (q + c) ≤ length bytes → length (group_sent m c q bytes j) ≡ m
unfolding group_sent
group_length m c q bytes j h enough = go (is_data_at c j) refl
  where
    go : (t : Bool) → is_data_at c j ≡ t → length (cond t (take m (drop (m * (q + j * c / 15232 - 1)) bytes)) (replicate m 0)) ≡ m
    go true e =
        let ends = group_ends m q c j (ltb-true ((j * c) % 15232) c e) h in
        let one = length-take m (drop (m * (q + j * c / 15232 - 1)) bytes) in
        let two = length-drop (m * (q + j * c / 15232 - 1)) bytes in
        omega arith
    go false e = length-replicate m 0

pub get_made : (f : ℕ → List ℕ) (a n k : ℕ) → k < n → slice_get (map f (range_with_len a n)) k ≡ Some (f (a + k))
get_made f a zero k h = absurd (omega arith)
get_made f a (suc n) zero h = ap (λ i. Some (f i)) (let e : a ≡ a + 0 = omega arith in e)
get_made f a (suc n) (suc k) h = get_made f (a + 1) n k (omega arith) ∙ ap (λ i. Some (f i)) (let e : a + 1 + k ≡ a + suc k = omega arith in e)

all_made : (f : ℕ → List ℕ) (m a n : ℕ) → ((j : ℕ) → j < a + n → length (f j) ≡ m) → All (λ g. length g ≡ m) (map f (range_with_len a n))
all_made f m a zero h = All-nil (λ g. length g ≡ m)
all_made f m a (suc n) h = All-cons (λ g. length g ≡ m) (f a) (map f (range_with_len (a + 1) n)) (h a (omega arith)) (all_made f m (a + 1) n (λ j l. h j (omega arith)))

get_sent : (m c q : ℕ) (bytes : List ℕ) (j : ℕ) → 1 ≤ j → j ≤ 15232 → IsData c j
    → slice_get (groups_sent m c q bytes) (j - 1) ≡ Some (take m (drop (m * (q + j * c / 15232 - 1)) bytes))
unfolding groups_sent
get_sent m c q bytes j low high d =
    let all = many_is in
    get_made (group_sent m c q bytes) 1 many (j - 1) (omega arith)
    ∙ ap (λ i. Some (group_sent m c q bytes i)) (let e : 1 + (j - 1) ≡ j = omega arith in e)
    ∙ ap (λ g. Some g) (data_group m c q bytes j d)

sent_many : (m c q : ℕ) (bytes : List ℕ) → length (groups_sent m c q bytes) ≡ 15232
unfolding groups_sent
sent_many m c q bytes = length-map-range_with_len (group_sent m c q bytes) 1 many ∙ many_is

sent_each : (m c q : ℕ) (bytes : List ℕ) → m * (q + c) ≤ length bytes → All (λ g. length g ≡ m) (groups_sent m c q bytes)
unfolding groups_sent
sent_each m c q bytes enough = let all = many_is in all_made (group_sent m c q bytes) m 1 many (λ j l. group_length m c q bytes j (omega arith) enough)

-- ---- messages

small_check : (d : ℕ) → d < 32 → crc5_of d < 32
unfolding crc5_of check_of remainder_from low_bits
small_check d h = ltb-true (crc5_of d) 32 (agree_below_at (λ d. nat_lt (crc5_of d) 32) (λ d. true) 32 d refl h)

pub clear_already : (former : Option ℕ) (c d : ℕ) → d < 32 → cleared (says former c ++ says_cnd d) ≡ says former c ++ says_cnd d
unfolding says says_cnd
clear_already former c d h =
    let a : d / 32 % 32 ≡ d / 32 = omega arith in
    let b : d % 32 % 32 ≡ d % 32 = omega arith in
    let check : crc5_of d % 32 ≡ crc5_of d = small (crc5_of d) (small_check d h) in
    cc
  where
    small : (x : ℕ) → x < 32 → x % 32 ≡ x
    small x h = omega arith

-- ---- views

view_sent : Tributary → (bytes p : List ℕ) → (t : ℕ) → View
view_sent own bytes p t = record {
  groups = groups_sent (length own.slots) (cm_before (length own.slots) p t) (sent p (t - 1) / length own.slots) bytes;
  message = says (former_of (length own.slots) p t) (cm_in (length own.slots) p t) ++ says_cnd (cnd_in (length own.slots) p t);
  msi = [];
}

sent_carries : (own : Tributary) (bytes p : List ℕ) (t : ℕ) → 0 < length own.slots → length own.slots ≤ 32 → CarriesTurn own bytes p t (view_sent own bytes p t)
unfolding view_sent
sent_carries own bytes p t some few =
    let m = length own.slots in
    let less : cnd_in m p t < m = mod-lt (sent p (t + 1)) some in
    record {
      message = clear_already (former_of m p t) (cm_in m p t) (cnd_in m p t) (omega arith);
      msi = All-nil (λ (x : ℕ × ℕ). x.1 ≡ msi_byte own.port);
      groups = λ j low high d. get_sent m (cm_before m p t) (sent p (t - 1) / m) bytes j low high d;
    }

-- the groups of a turn lie in the bytes of the turns before it
pub turn_within : (m : ℕ) (p : List ℕ) (t : ℕ) → 0 < m → m * (sent p (t - 1) / m + cm_before m p t) ≤ sent p t
turn_within m p zero h = (let e = div-add-mod 0 m in omega arith)
turn_within m p (suc t) h =
    let before : suc t - 1 ≡ t = omega arith in
    let next : t + 1 ≡ suc t = omega arith in
    subst (λ x. m * (sent p x / m + cm_in m p t) ≤ sent p (suc t)) (sym before)
    (subst (λ x. m * (sent p t / m + cm_in m p t) ≤ sent p x) next (groups_within m (sent p t) (sent p (t + 1)) h (sent_up p t (t + 1) (omega arith))))

sent_whole : (own : Tributary) (bytes p : List ℕ) (t : ℕ) → 0 < length own.slots → sent p t ≤ length bytes → IsWhole (length own.slots) (view_sent own bytes p t)
unfolding view_sent
sent_whole own bytes p t some enough =
    let m = length own.slots in
    let within = turn_within m p t some in
    record { many = sent_many m (cm_before m p t) (sent p (t - 1) / m) bytes; each = sent_each m (cm_before m p t) (sent p (t - 1) / m) bytes (omega arith) }

pub can_be_carried : CanBeCarried
can_be_carried own bytes p s u some few numbers enough fits steady = (
  λ t. Some (view_sent own bytes p (t - s)),
  record {
    slots = some;
    order = omega arith;
    whole = λ t low high. sent_whole own bytes p (t - s) some (let up = sent_up p (t - s) (u + 1 - s) (omega arith) in omega arith);
    carries = record {
      order = omega arith;
      numbers = numbers;
      enough = enough;
      fits = λ t low high. fits (t - s) (omega arith);
      each = λ t low high. (view_sent own bytes p (t - s), (refl, sent_carries own bytes p (t - s) some few));
    };
    steady = steady;
  },
)
