-- A source with one frame more.
use Rattle.std.proofs.Common.{◌≡◌, ◌≢◌, ◌⊎◌, inl, inr, ℕ, zero, suc, ◌+◌, ◌*◌, ◌/◌, ◌%◌, ◌-◌, ◌<◌, ◌≤◌, Bool, true, false, cond, List, [], ◌∷◌, length, take, drop, replicate, get_or, Option, Some, None, refl, ap, ◌∙◌, sym, subst, arith, rules}
use Rattle.std.specs.Prelude.{IsSome, slice_get}
use Rattle.std.specs.List.{concat, Contains}
use Rattle.std.proofs.lemmas.List.{get_or_default, length-drop, drop-drop, get_or-take, get_or-drop, get_or-replicate}
use Rattle.std.proofs.lemmas.Option.{slice_get_within, get_or_from_slice_get}
use Rattle.std.proofs.Math.Nat.{div-add-mod, mul-le-mul_left}
use Rattle.otn_base.specs.LineSlots.{slots_of}
use Rattle.otn_base.specs.SlotList.{IsSlotList}
use Rattle.frame_geometry.specs.Places.{place_of, same_place}
use Rattle.gmp_rule.specs.DataRule.{Progress, is_data_at, data_count}
use Rattle.odtu_columns.specs.Columns.{slot_of}
use Rattle.odtu_columns.specs.Message.{message_of}
use Rattle.odtu_columns.specs.Put.{slot_place}
use Rattle.odtu_columns.proofs.LineCycles.{cycle_inside}
use Rattle.tributary_model.specs.Places.{Tributary, tributary_of, byte_at, greatest, IsOwnPayload}
use Rattle.tributary_model.specs.Carries.{sent, cm_before, former_of}
use Rattle.tributary_model.specs.Puts.{lengths_of, group_from, group_put, place_among, payload_put, IsSourcePlace, WasPut}
use Rattle.tributary_model.proofs.OnLine.{evenly}
use Rattle.tributary_model.proofs.Views.{own_column}
use Rattle.tributary_model.proofs.PutPlaces.{place_of_slot}
use Rattle.trib_source.specs.Backlog.{BacklogView}
use Rattle.trib_source.specs.Rows.{groups_in_row}
use Rattle.trib_source.specs.Steps.Rows.{data_bytes, byte_laid, RowsWerePut}
use Rattle.trib_source.specs.Source.{Source, IsSource, AreLeft, StandsAfter, said_cm}
use Rattle.trib_source.proofs.Counts.{count_low}
use Rattle.trib_source.proofs.Laid.{bytes_grow}
use Rattle.trib_source.proofs.Begun.{frames_low}
use Rattle.trib_source.proofs.RowsPut.{cycle_room}

-- the last slot is one of them
pub has_last : (xs : List ℕ) (r : ℕ) → slice_get xs (length xs - 1) ≡ Some r → Contains xs r
has_last xs r e = (length xs - 1, slice_get_within xs (length xs - 1) r e, get_or_from_slice_get xs (length xs - 1) r r e)

-- ---- the message bytes

column_or : (column : ℕ) → 15 ≤ column → column ≤ 16 → (column ≡ 15) ⊎ (column ≡ 16)
column_or column low high = grind arith

row_or : (row : ℕ) → 1 ≤ row → row ≤ 3 → (row ≡ 1) ⊎ ((row ≡ 2) ⊎ (row ≡ 3))
row_or row low high = grind arith

-- what the message has at a place
abbrev HasByte : List ℕ → (row column : ℕ) → Type 0
HasByte frame row column = byte_at frame row column ≡ get_or (message_of frame) (3 * (16 - column) + (row - 1)) 0

at_place : (frame : List ℕ) (row column r c : ℕ) → row ≡ r → column ≡ c → HasByte frame r c → HasByte frame row column
at_place frame row column r c e g h = subst (λ k. HasByte frame k column) (sym e) (subst (λ k. HasByte frame r k) (sym g) h)

message_byte : (frame : List ℕ) (row column : ℕ) → 1 ≤ row → row ≤ 3 → 15 ≤ column → column ≤ 16 → HasByte frame row column
message_byte frame row column a b d f = go (row_or row a b) (column_or column d f)
  where
    go : (row ≡ 1) ⊎ ((row ≡ 2) ⊎ (row ≡ 3)) → (column ≡ 15) ⊎ (column ≡ 16) → HasByte frame row column
    go (inl e) (inl g) = at_place frame row column 1 15 e g refl
    go (inl e) (inr g) = at_place frame row column 1 16 e g refl
    go (inr (inl e)) (inl g) = at_place frame row column 2 15 e g refl
    go (inr (inl e)) (inr g) = at_place frame row column 2 16 e g refl
    go (inr (inr e)) (inl g) = at_place frame row column 3 15 e g refl
    go (inr (inr e)) (inr g) = at_place frame row column 3 16 e g refl

six_zeros : (i : ℕ) → ◌≡◌ {A = ℕ} (get_or (0 ∷ 0 ∷ 0 ∷ 0 ∷ 0 ∷ 0 ∷ []) i 0) 0
six_zeros zero = refl
six_zeros (suc zero) = refl
six_zeros (suc (suc zero)) = refl
six_zeros (suc (suc (suc zero))) = refl
six_zeros (suc (suc (suc (suc zero)))) = refl
six_zeros (suc (suc (suc (suc (suc zero))))) = refl
six_zeros (suc (suc (suc (suc (suc (suc i)))))) = refl

-- ---- the payload columns

-- an own column is that of one of the slots in a cycle
column_place : (line : ℕ) (slots : List ℕ) (row column i : ℕ) → 17 ≤ column → get_or slots i 0 ≡ slot_of line column → place_of 4080 row column ≡ slot_place line slots row ((column - 17) / line) i
column_place line slots row column i low slot =
    let split : line * ((column - 17) / line) + (column - 17) % line ≡ column - 17 = div-add-mod (column - 17) line in
    ap (place_of 4080 row) (let e : column ≡ 16 + line * ((column - 17) / line) + get_or slots i 0 = omega arith in e)

-- and the other way round
column_own : (line : ℕ) (slots : List ℕ) (cycle i : ℕ) → IsSlotList line slots → i < length slots → slot_of line (16 + line * cycle + get_or slots i 0) ≡ get_or slots i 0
column_own line slots cycle i list h = own_column line cycle (get_or slots i 0) (list.low i h) (list.high i h)

-- ---- the bytes of the groups

-- a byte laid out is that of the group
left_byte : (m c q asked x i : ℕ) (bytes left : List ℕ) → AreLeft m c q bytes asked left → i < m → byte_laid m c asked left x i ≡ get_or (group_from m c q bytes (asked + x + 1)) i 0
left_byte m c q asked x i bytes left is l = go (is_data_at c (asked + x + 1))
  where
    go : (t : Bool) → cond t (get_or left (data_bytes m c asked x + i) 0) 0 ≡ get_or (cond t (take m (drop (m * (q + data_count c (asked + x + 1 - 1))) bytes)) (replicate m 0)) i 0
    go true =
        let grow = bytes_grow m c asked x in
        let last : m * data_count c (asked + x + 1 - 1) ≡ m * data_count c (asked + x) = ap (λ k. m * data_count c k) (let e : asked + x + 1 - 1 ≡ asked + x = omega arith in e) in
        ap (λ xs. get_or xs (data_bytes m c asked x + i) 0) is
        ∙ get_or-drop (m * (q + data_count c asked)) bytes (data_bytes m c asked x + i) 0
        ∙ ap (λ k. get_or bytes k 0) (let e : m * (q + data_count c asked) + (data_bytes m c asked x + i) ≡ m * (q + data_count c (asked + x + 1 - 1)) + i = omega arith in e)
        ∙ sym (get_or-drop (m * (q + data_count c (asked + x + 1 - 1))) bytes i 0)
        ∙ sym (get_or-take m (drop (m * (q + data_count c (asked + x + 1 - 1))) bytes) i 0 l)
    go false = sym (get_or-replicate m i 0 0 l)

-- ---- what is known of a frame in which the rows and then the message were put

pub record FramePut (s : Source) (n : ℕ) (before mid now : List ℕ) : Type 0 where
  pub list : IsSlotList (slots_of s.slots.kind) s.slots.list
  pub rows : RowsWerePut (slots_of s.slots.kind) s.slots.list (byte_laid (length s.slots.list) s.cm s.asked s.left) 4 before mid
  pub own : n + 1 ≡ greatest s.slots.list → message_of now ≡ s.message
  pub other : Contains s.slots.list (n + 1) → n + 1 ≢ greatest s.slots.list → message_of now ≡ 0 ∷ 0 ∷ 0 ∷ 0 ∷ 0 ∷ 0 ∷ []
  pub kept : (place : ℕ) → (Contains s.slots.list (n + 1) → (row column : ℕ) → 1 ≤ row → row ≤ 3 → 15 ≤ column → column ≤ 16 → place ≡ place_of 4080 row column → ⊥) → get_or now place 0 ≡ get_or mid place 0

-- a place of a message is one that a source writes
message_place : (own : Tributary) (n row column : ℕ) → Contains own.slots (n + 1) → 1 ≤ row → row ≤ 3 → 15 ≤ column → column ≤ 16 → IsSourcePlace own n row column
message_place own n row column has a b c d = go (same_or (n + 1) (greatest own.slots))
  where
    same_or : (x y : ℕ) → (x ≡ y) ⊎ (x ≡ y → ⊥)
    same_or x y = grind arith

    go : (n + 1 ≡ greatest own.slots) ⊎ (n + 1 ≡ greatest own.slots → ⊥) → IsSourcePlace own n row column
    go (inl e) = inr (inl (record { frame = e; rows = (a, b); columns = (c, d) }))
    go (inr e) = inr (inr (record { frame = has; other = e; rows = (a, b); columns = (c, d) }))

-- every other byte stays, whatever the source has put before
pub frame_kept : (s : Source) (port n : ℕ) (before mid now : List ℕ) → FramePut s n before mid now
    → (row column : ℕ) → 1 ≤ row → row ≤ 4 → 1 ≤ column → column ≤ 4080 → (IsSourcePlace (tributary_of s.slots port) n row column → ⊥) → byte_at now row column ≡ byte_at before row column
frame_kept s port n before mid now put row column a b d f none =
    let own = tributary_of s.slots port in
    let line = slots_of s.slots.kind in
    let slots = s.slots.list in
    put.kept (place_of 4080 row column) (λ has r c ra rb ca cb e.
    let same = same_place 4080 row column r c a ra d f (omega arith) (omega arith) e in
    none (message_place own n row column has (subst (λ k. 1 ≤ k) (sym same.0) ra) (subst (λ k. k ≤ 3) (sym same.0) rb) (subst (λ k. 15 ≤ k) (sym same.1) ca) (subst (λ k. k ≤ 16) (sym same.1) cb)))
    ∙ put.rows.kept (place_of 4080 row column) (λ r cycle i ra rb below inside e.
    let low = put.list.low i inside in
    let room = cycle_room line cycle (get_or slots i 0) (evenly s.slots.kind) below (put.list.high i inside) in
    let c = 16 + line * cycle + get_or slots i 0 in
    let same = same_place 4080 row column r c a ra d f (omega arith) (omega arith) e in
    none (inl (record {
      rows = (a, b);
      columns = ((let g = same.1 in omega arith), (let g = same.1 in omega arith));
      slot = (i, inside, get_or_default slots i (slot_of line column) 0 inside ∙ sym (column_own line slots cycle i put.list inside) ∙ ap (slot_of line) (sym same.1));
    })))

-- some turn was begun
some_turn : (m : ℕ) (turns : List (List ℕ)) (said : Option ℕ) → IsSome said → said ≡ former_of m (lengths_of turns) (length turns) → 0 < length turns
some_turn m [] said some e = absurd (none (subst (λ o. IsSome o) e some))
  where
    none : IsSome {T = ℕ} None → ⊥
    none h = search rules
some_turn m (x ∷ turns) said some e = omega arith

payload_byte : (s : Source) (backlog : BacklogView) (scratch stored port : ℕ) (turns : List (List ℕ)) (n : ℕ) (before rows now : List ℕ) (row column : ℕ)
    → IsSource s backlog scratch stored → FramePut s n before rows now → StandsAfter (tributary_of s.slots port) turns n s → IsOwnPayload (tributary_of s.slots port) row column
    → byte_at now row column ≡ payload_put (tributary_of s.slots port) turns (length turns - 1) n row column
unfolding group_put
payload_byte s backlog scratch stored port turns n before rows now row column h put stands own =
    let line = slots_of s.slots.kind in
    let slots = s.slots.list in
    let w = 3808 / line in
    let m = length slots in
    let p = lengths_of turns in
    let t = length turns - 1 in
    let q = sent p (t - 1) / m in
    let bytes = concat turns in
    let i = own.slot.0 in
    let inside : i < m = own.slot.1 in
    let low = own.columns.0 in
    let high = own.columns.1 in
    let slot : get_or slots i 0 ≡ slot_of line column = sym (get_or_default slots i (slot_of line column) 0 inside) ∙ own.slot.2 in
    let cycle = (column - 17) / line in
    let some : 0 < line = (let a = put.list.low i inside in let b = put.list.high i inside in omega arith) in
    let below : cycle < w = cycle_inside line w (column - 17) some (evenly s.slots.kind) (omega arith) in
    let at : place_of 4080 row column ≡ slot_place line slots row cycle i = column_place line slots row column i low slot in
    let among : place_among slots (slot_of line column) ≡ i = ap (place_among slots) (sym slot) ∙ place_of_slot slots i put.list.rising inside in
    let asked : s.asked ≡ 4 * w * n = h.asked_is ∙ ap (λ k. 4 * w * k) stands.filled_is in
    put.kept (place_of 4080 row column) (λ has r c a b d f e. (let bad = (same_place 4080 row column r c own.rows.0 a (omega arith) (omega arith) (omega arith) (omega arith) e).1 in let no_place : ⊥ = omega arith in no_place))
    ∙ ap (λ k. get_or rows k 0) at
    ∙ put.rows.put row cycle i own.rows.0 own.rows.1 below inside
    ∙ left_byte m s.cm q s.asked (w * (row - 1) + cycle) i bytes s.left stands.left inside
    ∙ ap (λ k. get_or (group_from m s.cm q bytes k) i 0) (let e : s.asked + (w * (row - 1) + cycle) + 1 ≡ w * (4 * n + (row - 1)) + cycle + 1 = omega arith in e)
    ∙ ap (λ c. get_or (group_from m c q bytes (w * (4 * n + (row - 1)) + cycle + 1)) i 0) stands.cm
    ∙ ap (λ k. get_or (group_from m (cm_before m p t) q bytes (w * (4 * n + (row - 1)) + cycle + 1)) k 0) (sym among)

pub frame_put : (s : Source) (backlog : BacklogView) (scratch stored port : ℕ) (turns : List (List ℕ)) (n : ℕ) (before rows now : List ℕ)
    → IsSource s backlog scratch stored → IsSome s.said → FramePut s n before rows now → StandsAfter (tributary_of s.slots port) turns n s
    → WasPut (tributary_of s.slots port) turns (length turns - 1) n before now
frame_put s backlog scratch stored port turns n before rows now h some put stands =
    let message = stands.message (some_turn (length s.slots.list) turns s.said some stands.said) in
    record {
      put = record {
        payload = λ row column o. payload_byte s backlog scratch stored port turns n before rows now row column h put stands o;
        message = λ row column o.
            message_byte now row column o.rows.0 o.rows.1 o.columns.0 o.columns.1
            ∙ ap (λ xs. get_or xs (3 * (16 - column) + (row - 1)) 0) (put.own o.frame ∙ message);
        others = λ row column o.
            message_byte now row column o.rows.0 o.rows.1 o.columns.0 o.columns.1
            ∙ ap (λ xs. get_or xs (3 * (16 - column) + (row - 1)) 0) (put.other o.frame o.other)
            ∙ six_zeros (3 * (16 - column) + (row - 1));
      };
      kept = frame_kept s port n before rows now put;
    }

-- for any tributary of these slots
pub own_frame : (own : Tributary) (s : Source) (backlog : BacklogView) (scratch stored : ℕ) (turns : List (List ℕ)) (n : ℕ) (before mid now : List ℕ)
    → IsSource s backlog scratch stored → IsSome s.said → FramePut s n before mid now → StandsAfter own turns n s → WasPut own turns (length turns - 1) n before now
own_frame own s backlog scratch stored turns n before mid now h some put stands =
    subst (λ o. WasPut o turns (length turns - 1) n before now) (sym stands.own_is)
    (frame_put s backlog scratch stored own.port turns n before mid now h some put (subst (λ o. StandsAfter o turns n s) stands.own_is stands))

-- ---- and how it stands then

-- the source with so many groups more put
abbrev pub filled_to : (s : Source) (r : Progress) (left : List ℕ) → Source
filled_to s r left = record s { cm = r.cm; asked = r.asked; left = left; filled = s.filled + 1 }

left_filled : (m c q asked more : ℕ) (bytes left next : List ℕ) → next ≡ drop (data_bytes m c asked more) left → AreLeft m c q bytes asked left → AreLeft m c q bytes (asked + more) next
left_filled m c q asked more bytes left next is e =
    let grow = bytes_grow m c asked more in
    is
    ∙ ap (drop (data_bytes m c asked more)) e
    ∙ drop-drop (data_bytes m c asked more) (m * (q + data_count c asked)) bytes
    ∙ ap (λ k. drop k bytes) (let f : m * (q + data_count c asked) + data_bytes m c asked more ≡ m * (q + data_count c (asked + more)) = omega arith in f)

pub stands_filled : (own : Tributary) (turns : List (List ℕ)) (n more : ℕ) (s : Source) (r : Progress) (left : List ℕ)
    → r ≡ record { cm = s.cm; asked = s.asked + more } → left ≡ drop (data_bytes (length s.slots.list) s.cm s.asked more) s.left
    → StandsAfter own turns n s → StandsAfter own turns (n + 1) (filled_to s r left)
stands_filled own turns n more s r left e is stands =
    let slots : length s.slots.list ≡ length own.slots = ap (λ (o : Tributary). length o.slots) (sym stands.own_is) in
    let q = sent (lengths_of turns) (length turns - 1 - 1) / length own.slots in
    let now : AreLeft (length own.slots) s.cm q (concat turns) (s.asked + more) left =
    left_filled (length own.slots) s.cm q s.asked more (concat turns) s.left left (is ∙ ap (λ k. drop (data_bytes k s.cm s.asked more) s.left) slots) stands.left in
    record {
      own_is = stands.own_is;
      slots = stands.slots;
      filled_is = ap (λ k. k + 1) stands.filled_is;
      said = stands.said;
      cm = ap (λ (p : Progress). p.cm) e ∙ stands.cm;
      cnd = stands.cnd;
      left = subst (λ (p : Progress). AreLeft (length own.slots) p.cm q (concat turns) p.asked left) (sym e) now;
      message = stands.message;
    }

-- what is left where the bytes of so many groups are dropped by the number that is kept
pub left_put : (s : Source) (backlog now : BacklogView) (scratch stored more : ℕ) → IsSource s backlog scratch stored
    → now ≡ record backlog { items = drop (data_bytes (length s.slots.list) stored s.asked more) s.left } → now.items ≡ drop (data_bytes (length s.slots.list) s.cm s.asked more) s.left
left_put s backlog now scratch stored more h is =
    ap (λ (b : BacklogView). b.items) is ∙ ap (λ k. drop (data_bytes (length s.slots.list) k s.asked more) s.left) h.kept_is

-- and what holds of every source
pub is_filled : (s : Source) (backlog now : BacklogView) (scratch stored more : ℕ) (r : Progress) → IsSource s backlog scratch stored
    → s.filled < slots_of s.slots.kind → more ≡ 4 * groups_in_row (slots_of s.slots.kind) → r ≡ record { cm = s.cm; asked = s.asked + more }
    → now ≡ record backlog { items = drop (data_bytes (length s.slots.list) stored s.asked more) s.left }
    → IsSource (filled_to s r now.items) now scratch stored
is_filled s backlog now scratch stored more r h low rows e is =
    let line = slots_of s.slots.kind in
    let w = 3808 / line in
    let m = length s.slots.list in
    let cm : r.cm ≡ s.cm = ap (λ (p : Progress). p.cm) e in
    let asked : r.asked ≡ s.asked + more = ap (λ (p : Progress). p.asked) e in
    let was = h.asked_is in
    let all = frames_low line w (s.filled + 1) (evenly s.slots.kind) (omega arith) in
    let most : m * data_count s.cm (s.asked + more) ≤ m * s.cm = mul-le-mul_left m (count_low s.cm (s.asked + more) h.cm_high (omega arith)) in
    let grow = bytes_grow m s.cm s.asked more in
    let long : length now.items ≡ length s.left - data_bytes m s.cm s.asked more = ap length (left_put s backlog now scratch stored more h is) ∙ length-drop (data_bytes m s.cm s.asked more) s.left in
    let newest : now.newest ≡ backlog.newest = ap (λ (b : BacklogView). b.newest) is in
    let before = h.left_is in
    let after : length now.items + m * data_count s.cm (s.asked + more) ≡ m * s.cm + (m * said_cm s.said + s.cnd) = omega arith in
    record {
      list = h.list;
      said_high = h.said_high;
      cm_high = subst (λ k. k ≤ 15232) (sym cm) h.cm_high;
      filled_high = omega arith;
      asked_is = omega arith;
      cnd_high = h.cnd_high;
      left_is = subst (λ (p : Progress). length now.items + m * data_count p.cm p.asked ≡ m * p.cm + (m * said_cm s.said + s.cnd)) (sym e) after;
      slots_are = ap (λ (b : BacklogView). b.slots) is ∙ h.slots_are;
      newest_low = subst (λ k. k ≤ m * said_cm s.said + s.cnd) (sym newest) h.newest_low;
      newest_high = subst (λ k. m * said_cm s.said + s.cnd < k + m) (sym newest) h.newest_high;
      scratch_is = h.scratch_is;
      kept_is = h.kept_is ∙ sym cm;
    }
