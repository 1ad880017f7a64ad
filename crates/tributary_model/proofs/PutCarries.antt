-- What a source puts carries its bytes.
use Rattle.std.proofs.Common.{◌≡◌, ℕ, zero, suc, ◌+◌, ◌*◌, ◌/◌, ◌%◌, ◌-◌, ◌<◌, ◌≤◌, List, [], ◌∷◌, ◌++◌, length, take, drop, replicate, Bool, true, false, cond, Some, refl, ap, ◌∙◌, sym, subst, arith, get_or}
use Rattle.std.specs.Prelude.{map, sum, slice_get, All, ◌==◌}
use Rattle.std.specs.List.{concat, flat_map, range_with_len, Contains}
use Rattle.std.proofs.lemmas.Bool.{ltb-true, lt-ltb}
use Rattle.std.proofs.lemmas.List.{length-take, length-drop, length-replicate, length-append}
use Rattle.std.proofs.lemmas.List.Sums.{sum_by-take-le, sum_by-cons}
use Rattle.std.proofs.lemmas.List.Elements.{All-nil, All-cons, All-append}
use Rattle.std.proofs.lemmas.Option.{slice_get-get_or}
use Rattle.std.proofs.Math.Nat.{mod-lt}
use Rattle.gmp_rule.specs.DataRule.{IsData, is_data_at, data_count}
use Rattle.gmp_rule.proofs.CountLaw.{data_count_is}
use Rattle.msi_table.specs.Marks.{msi_byte}
use Rattle.odtu_columns.specs.Message.{message_of}
use Rattle.jc_codec.specs.Message.{says}
use Rattle.cnd_codec.specs.Remainder.{says_cnd}
use Rattle.tributary_model.specs.Places.{Tributary, Taken, byte_at, greatest, frame_groups, message_in, msi_at, msi_in, view_of, IsOwnMsi}
use Rattle.tributary_model.specs.Laws.{IsTributary}
use Rattle.tributary_model.specs.Carries.{sent, cm_in, cnd_in, cm_before, former_of, cleared, CarriesGroups}
use Rattle.tributary_model.specs.Puts.{lengths_of, group_from, group_put, message_put, IsPut}
use Rattle.tributary_model.specs.Sending.{IsSent, ShowsTurn, CarriesWhatIsPut}
use Rattle.tributary_model.proofs.Totals.{group_ends}
use Rattle.tributary_model.proofs.Sender.{get_made, clear_already, turn_within}
use Rattle.tributary_model.proofs.Views.{some_greatest, slot_high, tested}
use Rattle.tributary_model.proofs.PutPlaces.{AllLong, frames_put}

-- ---- how long the groups are

-- the bytes of the turns are as many as their lengths say
pub length-turns : (turns : List (List ℕ)) → length (concat turns) ≡ sum (lengths_of turns)
length-turns [] = refl
length-turns (x ∷ turns) = length-append x (concat turns) ∙ ap (λ n. length x + n) (length-turns turns) ∙ sym (sum_by-cons (λ n. n) (length x) (lengths_of turns))

pub sent_inside : (turns : List (List ℕ)) (t : ℕ) → sent (lengths_of turns) t ≤ length (concat turns)
sent_inside turns t = let front = sum_by-take-le (λ n. n) (lengths_of turns) t in let all = length-turns turns in omega arith

-- the data groups before a data group
pub before_data : (c j : ℕ) → c ≤ 15232 → 1 ≤ j → IsData c j → data_count c (j - 1) + 1 ≡ j * c / 15232
before_data c zero h low d = absurd (omega arith)
before_data c (suc j) h low d =
    let one : cond {A = ℕ} (is_data_at c (suc j)) 1 0 ≡ 1 = ap (λ t. cond {A = ℕ} t 1 0) (lt-ltb ((suc j * c) % 15232) c d) in
    let same : data_count c (suc j - 1) ≡ data_count c j = ap (data_count c) (let e : suc j - 1 ≡ j = omega arith in e) in
    ap (λ n. n + 1) same ∙ ap (λ n. data_count c j + n) (sym one) ∙ data_count_is c (suc j) h

-- where a data group begins
data_begins : (m c q j : ℕ) → c ≤ 15232 → 1 ≤ j → IsData c j → m * (q + data_count c (j - 1)) ≡ m * (q + j * c / 15232 - 1)
data_begins m c q j h low d = let before = before_data c j h low d in ap (λ n. m * n) (let e : q + data_count c (j - 1) ≡ q + j * c / 15232 - 1 = omega arith in e)

data_group : (m c q : ℕ) (bytes : List ℕ) (j : ℕ) → c ≤ 15232 → 1 ≤ j → IsData c j → group_from m c q bytes j ≡ take m (drop (m * (q + j * c / 15232 - 1)) bytes)
data_group m c q bytes j h low d =
    ap (λ t. cond t (take m (drop (m * (q + data_count c (j - 1))) bytes)) (replicate m 0)) (lt-ltb ((j * c) % 15232) c d)
    ∙ ap (λ n. take m (drop n bytes)) (data_begins m c q j h low d)

pub group_long : (m c q : ℕ) (bytes : List ℕ) (j : ℕ) → c ≤ 15232 → 1 ≤ j → j ≤ 15232 → m * (q + c) ≤ length bytes → length (group_from m c q bytes j) ≡ m
group_long m c q bytes j h low high enough = go (is_data_at c j) refl
  where
    go : (t : Bool) → is_data_at c j ≡ t → length (cond t (take m (drop (m * (q + data_count c (j - 1))) bytes)) (replicate m 0)) ≡ m
    go true e =
        let d : IsData c j = ltb-true ((j * c) % 15232) c e in
        let ends = group_ends m q c j d high in
        let begins = data_begins m c q j h low d in
        let one = length-take m (drop (m * (q + data_count c (j - 1))) bytes) in
        let two = length-drop (m * (q + data_count c (j - 1))) bytes in
        omega arith
    go false e = length-replicate m 0

put_long : (m : ℕ) (turns : List (List ℕ)) (t : ℕ) → 0 < m → cm_before m (lengths_of turns) t ≤ 15232 → AllLong m (group_put m turns t) 15232
unfolding group_put
put_long m turns t some fits j low high =
    let p = lengths_of turns in
    let within = turn_within m p t some in
    let inside = sent_inside turns t in
    group_long m (cm_before m p t) (sent p (t - 1) / m) (concat turns) j fits low high (omega arith)

put_data : (m : ℕ) (turns : List (List ℕ)) (t j : ℕ) → cm_before m (lengths_of turns) t ≤ 15232 → 1 ≤ j → IsData (cm_before m (lengths_of turns) t) j
    → group_put m turns t j ≡ take m (drop (m * (sent (lengths_of turns) (t - 1) / m + j * cm_before m (lengths_of turns) t / 15232 - 1)) (concat turns))
unfolding group_put
put_data m turns t j fits low d = data_group m (cm_before m (lengths_of turns) t) (sent (lengths_of turns) (t - 1) / m) (concat turns) j fits low d

-- ---- the groups of the view

all_cycles : (own : Tributary) (n : ℕ) → IsTributary own → n ≡ own.line_slots → 3808 / own.line_slots * (4 * n) ≡ 15232
all_cycles own n tr e =
    let even = tr.even in
    ap (λ k. 3808 / own.line_slots * (4 * k)) e ∙ (let f : 3808 / own.line_slots * (4 * own.line_slots) ≡ 4 * (own.line_slots * (3808 / own.line_slots)) = omega arith in f) ∙ ap (λ k. 4 * k) even

view_groups : (own : Tributary) (turns : List (List ℕ)) (t : ℕ) (frames : List Taken) → IsSent own → cm_before (length own.slots) (lengths_of turns) t ≤ 15232 → ShowsTurn own turns t frames
    → (n : ℕ) → n ≡ 15232 → flat_map (λ f. frame_groups own f.frame) frames ≡ map (group_put (length own.slots) turns t) (range_with_len 1 n)
view_groups own turns t frames is fits shows n all =
    let c = 3808 / own.line_slots in
    let g = group_put (length own.slots) turns t in
    let cycles = all_cycles own (length frames) is.tributary shows.many in
    frames_put own turns t 0 15232 frames is.tributary
    (λ i l d. subst (λ k. IsPut own turns t k (get_or frames i d).frame) (let e : i ≡ 0 + i = omega arith in e) (shows.put i (get_or frames i d) (slice_get-get_or frames i d l)))
    (put_long (length own.slots) turns t is.tributary.slots.taken fits)
    (let e : c * (4 * (0 + length frames)) ≡ c * (4 * length frames) = ap (λ k. c * (4 * k)) (let e : 0 + length frames ≡ length frames = omega arith in e) in omega arith)
    ∙ ap (λ k. map g (range_with_len k (c * (4 * length frames)))) (let e : c * (4 * 0) + 1 ≡ 1 = omega arith in e)
    ∙ ap (λ k. map g (range_with_len 1 k)) (cycles ∙ sym all)

carries_groups : (own : Tributary) (turns : List (List ℕ)) (t : ℕ) (frames : List Taken) (n : ℕ) → n ≡ 15232 → IsSent own → cm_before (length own.slots) (lengths_of turns) t ≤ 15232 → ShowsTurn own turns t frames
    → CarriesGroups (length own.slots) (concat turns) (lengths_of turns) t (flat_map (λ f. frame_groups own f.frame) frames)
carries_groups own turns t frames n all is fits shows = λ j low high d.
    let m = length own.slots in
    ap (λ gs. slice_get gs (j - 1)) (view_groups own turns t frames is fits shows n all)
    ∙ get_made (group_put m turns t) 1 n (j - 1) (omega arith)
    ∙ ap (λ i. Some (group_put m turns t i)) (let e : 1 + (j - 1) ≡ j = omega arith in e)
    ∙ ap (λ g. Some g) (put_data m turns t j fits low d)

-- ---- the message

greatest_within : (n : ℕ) (slots : List ℕ) → ((k : ℕ) → Contains slots k → k ≤ n) → greatest slots ≤ n
greatest_within n [] h = omega arith
greatest_within n (k ∷ slots) h =
    let first : k ≤ n = h k (0, omega arith, refl) in
    let rest = greatest_within n slots (λ i has. h i (suc (has.0), (let l = has.1 in omega arith), has.2)) in
    omega arith

six_bytes : (a b c x y z : ℕ) (f : ℕ → ℕ → ℕ) → ((row column : ℕ) → 1 ≤ row → row ≤ 3 → 15 ≤ column → column ≤ 16 → f row column ≡ get_or (a ∷ b ∷ c ∷ x ∷ y ∷ z ∷ []) (3 * (16 - column) + (row - 1)) 0)
    → (f 1 16 ∷ f 2 16 ∷ f 3 16 ∷ f 1 15 ∷ f 2 15 ∷ f 3 15 ∷ []) ≡ (a ∷ b ∷ c ∷ x ∷ y ∷ z ∷ [])
six_bytes a b c x y z f h =
    let e1 : f 1 16 ≡ a = h 1 16 (omega arith) (omega arith) (omega arith) (omega arith) in
    let e2 : f 2 16 ≡ b = h 2 16 (omega arith) (omega arith) (omega arith) (omega arith) in
    let e3 : f 3 16 ≡ c = h 3 16 (omega arith) (omega arith) (omega arith) (omega arith) in
    let e4 : f 1 15 ≡ x = h 1 15 (omega arith) (omega arith) (omega arith) (omega arith) in
    let e5 : f 2 15 ≡ y = h 2 15 (omega arith) (omega arith) (omega arith) (omega arith) in
    let e6 : f 3 15 ≡ z = h 3 15 (omega arith) (omega arith) (omega arith) (omega arith) in
    cc

frame_message : (own : Tributary) (turns : List (List ℕ)) (t n : ℕ) (frame : List ℕ) → n + 1 ≡ greatest own.slots → IsPut own turns t n frame → message_of frame ≡ message_put (length own.slots) turns t
unfolding message_put says says_cnd
frame_message own turns t n frame e put =
    six_bytes _ _ _ _ _ _ (λ row column. byte_at frame row column) (λ row column a b c d. put.message row column (record { frame = e; rows = (a, b); columns = (c, d) }))

view_message : (own : Tributary) (turns : List (List ℕ)) (t : ℕ) (frames : List Taken) → IsSent own → ShowsTurn own turns t frames
    → message_in (slice_get frames (greatest own.slots - 1)) ≡ message_put (length own.slots) turns t
view_message own turns t frames is shows =
    let list = is.tributary.slots in
    let some = some_greatest own.line_slots own.slots list in
    let high = greatest_within own.line_slots own.slots (λ k has. slot_high own.line_slots own.slots k list has) in
    let many = shows.many in
    let n = greatest own.slots - 1 in
    go frames n (omega arith) (omega arith) shows.put
  where
    go : (fs : List Taken) (n : ℕ) → n < length fs → n + 1 ≡ greatest own.slots → ((i : ℕ) (f : Taken) → slice_get fs i ≡ Some f → IsPut own turns t i f.frame) → message_in (slice_get fs n) ≡ message_put (length own.slots) turns t
    go [] n l e put = absurd (omega arith)
    go (f ∷ fs) n l e put =
        let d = f in
        ap message_in (slice_get-get_or (f ∷ fs) n d l)
        ∙ frame_message own turns t n (get_or (f ∷ fs) n d).frame e (put n (get_or (f ∷ fs) n d) (slice_get-get_or (f ∷ fs) n d l))

-- ---- the MSI bytes

abbrev HasPort : ℕ → ℕ × ℕ → Type 0
HasPort port x = x.1 ≡ msi_byte port

msi_of_frame : (own : Tributary) (f : Taken) (slots : List ℕ) → ((k : ℕ) → Contains slots k → Contains own.slots k)
    → ((row column : ℕ) → IsOwnMsi own f.expected row column → byte_at f.frame row column ≡ msi_byte own.port)
    → All (HasPort own.port) (msi_at slots f.expected f.frame)
msi_of_frame own f [] has h = All-nil (HasPort own.port)
msi_of_frame own f (k ∷ slots) has h =
    All-append (HasPort own.port) (cond {A = List (ℕ × ℕ)} (f.expected == 1 + k) ((k, byte_at f.frame 4 15) ∷ []) []) (msi_at slots f.expected f.frame) (go (f.expected == 1 + k) refl)
    (msi_of_frame own f slots (λ i c. has i (suc (c.0), (let l = c.1 in omega arith), c.2)) h)
  where
    go : (t : Bool) → (f.expected == 1 + k) ≡ t → All (HasPort own.port) (cond {A = List (ℕ × ℕ)} t ((k, byte_at f.frame 4 15) ∷ []) [])
    go true e = All-cons (HasPort own.port) (k, byte_at f.frame 4 15) [] (h 4 15 (record { place = (refl, refl); slot = (k, (has k (0, omega arith, refl), tested f.expected (1 + k) e)) })) (All-nil (HasPort own.port))
    go false e = All-nil (HasPort own.port)

msi_of_frames : (own : Tributary) (frames : List Taken)
    → ((n : ℕ) (f : Taken) → slice_get frames n ≡ Some f → (row column : ℕ) → IsOwnMsi own f.expected row column → byte_at f.frame row column ≡ msi_byte own.port)
    → All (HasPort own.port) (flat_map (msi_in own) frames)
msi_of_frames own [] h = All-nil (HasPort own.port)
msi_of_frames own (f ∷ frames) h =
    All-append (HasPort own.port) (msi_in own f) (flat_map (msi_in own) frames) (msi_of_frame own f own.slots (λ k c. c) (h 0 f refl)) (msi_of_frames own frames (λ n g e. h (suc n) g e))

-- ---- a turn

put_clear : (m : ℕ) (turns : List (List ℕ)) (t : ℕ) → 0 < m → m ≤ 32
    → let p = lengths_of turns in cleared (message_put m turns t) ≡ says (former_of m p t) (cm_in m p t) ++ says_cnd (cnd_in m p t)
unfolding message_put
put_clear m turns t some few =
    let p = lengths_of turns in
    let less : cnd_in m p t < m = mod-lt (sent p (t + 1)) some in
    clear_already (former_of m p t) (cm_in m p t) (cnd_in m p t) (omega arith)

pub carries_what_is_put : CarriesWhatIsPut
unfolding view_of
carries_what_is_put own turns t frames is fits shows =
    record {
      message = ap cleared (view_message own turns t frames is shows) ∙ put_clear (length own.slots) turns t is.tributary.slots.taken is.few;
      msi = msi_of_frames own frames shows.msi;
      groups = carries_groups own turns t frames 15232 refl is fits shows;
    }
