-- The groups of some slots in a run of cycles.
use Rattle.std.proofs.Common.{◌≡◌, ℕ, zero, suc, ◌+◌, ◌-◌, ◌*◌, ◌<◌, ◌≤◌, List, [], ◌++◌, length, get_or, take, drop, map, refl, ap, sym, ◌∙◌, arith, append-nil, take-add}
use Rattle.std.specs.List.{range_with_len, flat_map}
use Rattle.std.proofs.Math.Nat.{mul-le-mul_left}
use Rattle.std.proofs.lemmas.List.{length-map, length-drop, length-take-le, get_or-map, get_or-take, get_or-drop, ext_get_or, take_all}
use Rattle.std.proofs.lemmas.List.Concat.{flat_map-append}
use Rattle.otn_base.specs.SlotList.{IsSlotList}
use Rattle.odtu_columns.specs.Payload.{payload_group, run_groups}
use Rattle.odtu_columns.proofs.Cycles.{range-append}

pub run_groups-none : (line : ℕ) (payload slots : List ℕ) (first : ℕ) → run_groups line payload slots first 0 ≡ []
unfolding run_groups
run_groups-none line payload slots first = refl

pub run_groups-more : (line : ℕ) (payload slots : List ℕ) (first n : ℕ) → run_groups line payload slots first (n + 1) ≡ run_groups line payload slots first n ++ payload_group line payload slots (first + n)
unfolding run_groups
run_groups-more line payload slots first n =
    let group : ℕ → List ℕ = payload_group line payload slots in
    ap (flat_map group) (range-append first n 1)
    ∙ flat_map-append group (range_with_len first n) (range_with_len (first + n) 1)
    ∙ ap (λ xs. flat_map group (range_with_len first n) ++ xs) (append-nil (group (first + n)))

-- so many steps of m
pub steps : (m i n : ℕ) → i < n → m * i + m ≤ m * n
steps m i n h =
    let wide : m * (i + 1) ≤ m * n = mul-le-mul_left m (let e : i + 1 ≤ n = omega arith in e) in
    omega arith

-- the bytes of a cycle
cycle_is : (line : ℕ) (payload slots into : List ℕ) (at cycle : ℕ) → at + length slots ≤ length into
    → ((p : ℕ) → p < length slots → get_or into (at + p) 0 ≡ get_or payload (line * cycle + get_or slots p 0 - 1) 0)
    → take (length slots) (drop at into) ≡ payload_group line payload slots cycle
cycle_is line payload slots into at cycle room h =
    let byte : ℕ → ℕ = λ slot. get_or payload (line * cycle + slot - 1) 0 in
    let m = length slots in
    let many : length (map byte slots) ≡ m = length-map slots byte in
    let wanted : length (take m (drop at into)) ≡ m = length-take-le m (drop at into) (omega (arith, length-drop at into)) in
    ext_get_or 0 (take m (drop at into)) (map byte slots) (wanted ∙ sym many) (λ p l.
    let below : p < m = omega arith in
    get_or-take m (drop at into) p 0 below ∙ get_or-drop at into p 0 ∙ h p below ∙ sym (get_or-map byte slots p 0 0 below))

front_gathered : (line : ℕ) (payload slots into : List ℕ) (first count n : ℕ) → length into ≡ length slots * count → n ≤ count
    → ((j p : ℕ) → j < count → p < length slots → get_or into (length slots * j + p) 0 ≡ get_or payload (line * (first + j) + get_or slots p 0 - 1) 0)
    → take (length slots * n) into ≡ run_groups line payload slots first n
front_gathered line payload slots into first count zero size few h =
    ap (λ k. take k into) (let e : length slots * 0 ≡ 0 = omega arith in e) ∙ sym (run_groups-none line payload slots first)
front_gathered line payload slots into first count (suc n) size few h =
    let m = length slots in
    let room = steps m n count (omega arith) in
    ap (λ k. take k into) (let e : m * suc n ≡ m * n + m = omega arith in e)
    ∙ take-add (m * n) m into
    ∙ ap (λ xs. xs ++ take m (drop (m * n) into)) (front_gathered line payload slots into first count n size (omega arith) h)
    ∙ ap (λ xs. run_groups line payload slots first n ++ xs) (cycle_is line payload slots into (m * n) (first + n) (omega arith) (λ p l. h n p (omega arith) l))
    ∙ sym (run_groups-more line payload slots first n)
    ∙ ap (run_groups line payload slots first) (let e : n + 1 ≡ suc n = omega arith in e)

-- the groups byte by byte
pub run_is : (line : ℕ) (payload slots into : List ℕ) (first count : ℕ) → length into ≡ length slots * count
    → ((j p : ℕ) → j < count → p < length slots → get_or into (length slots * j + p) 0 ≡ get_or payload (line * (first + j) + get_or slots p 0 - 1) 0)
    → into ≡ run_groups line payload slots first count
run_is line payload slots into first count size same =
    sym (take_all (length slots * count) into (omega arith))
    ∙ front_gathered line payload slots into first count count size (omega arith) same

-- the groups out of the cycles alone
pub gathered : (line : ℕ) (payload cycles slots into : List ℕ) (first count : ℕ) → IsSlotList line slots → length into ≡ length slots * count
    → cycles ≡ take (line * count) (drop (line * first) payload)
    → ((j p : ℕ) → j < count → p < length slots → get_or into (length slots * j + p) 0 ≡ get_or cycles (line * j + (get_or slots p 0 - 1)) 0)
    → into ≡ run_groups line payload slots first count
gathered line payload cycles slots into first count list size same h =
    run_is line payload slots into first count size (λ j p lj lp.
    let low = list.low p lp in
    let high = list.high p lp in
    let room = steps line j count lj in
    let at = line * j + (get_or slots p 0 - 1) in
    let along : line * (first + j) ≡ line * first + line * j = omega arith in
    h j p lj lp
    ∙ ap (λ xs. get_or xs at 0) same
    ∙ get_or-take (line * count) (drop (line * first) payload) at 0 (omega arith)
    ∙ get_or-drop (line * first) payload at 0
    ∙ ap (λ n. get_or payload n 0) (let e : line * first + at ≡ line * (first + j) + get_or slots p 0 - 1 = omega arith in e))
