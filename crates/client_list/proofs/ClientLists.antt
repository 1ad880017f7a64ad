-- Lists of clients, and their texts.
use Rattle.std.proofs.Common.{◌≡◌, inl, inr, ◌<◌, ◌≤◌, ◌+◌, ◌==◌, ◌∙◌, ℕ, zero, suc, List, [], ◌∷◌, length, map, get_or, refl, sym, ap, subst, arith, add-one}
use Rattle.std.specs.Fmt.{decimal}
use Rattle.std.specs.List.{slice_split}
use Rattle.std.specs.List.Sorted.{IsStrictlyIncreasing}
use Rattle.std.specs.Str.Parse.{digits_value}
use Rattle.std.proofs.lemmas.Bool.{cases_lt}
use Rattle.std.proofs.lemmas.Fmt.{decimal_is_IsNumeral}
use Rattle.std.proofs.lemmas.List.Elements.{All-head, All-tail, All-from_get_or}
use Rattle.number_lists.specs.NumberLists.{IsNumberList}
use Rattle.number_lists.proofs.NumberLists.{AreBelow, parts_of_list, same_list}
use Rattle.client_list.specs.ClientLists.{IsClientList, clients_text}

-- ---- numbers that rise: that of a client is at least its channel

pub rises : (cids : List ℕ) (d c : ℕ) → IsStrictlyIncreasing cids → d < c → c < length cids → get_or cids d 0 < get_or cids c 0
rises cids d zero h less there = absurd (omega arith)
rises cids d (suc c) h less there =
    let next : c + 1 < length cids = omega arith in
    let higher : get_or cids c 0 < get_or cids (c + 1) 0 = h c next in
    let same : get_or cids (c + 1) 0 ≡ get_or cids (suc c) 0 = ap (λ i. get_or cids i 0) (add-one c) in
    elim (cases_lt d c) [
      | inl lower ↦ (let before = rises cids d c h lower (omega arith) in omega arith)
      | inr last ↦ (let equal : d ≡ c = omega arith in let e : get_or cids d 0 ≡ get_or cids c 0 = ap (λ i. get_or cids i 0) equal in omega arith)
    ]

list_high : (cids : List ℕ) (c : ℕ) → IsStrictlyIncreasing cids → c < length cids → c ≤ get_or cids c 0
list_high cids zero h less = omega arith
list_high cids (suc c) h less =
    let before = list_high cids c h (omega arith) in
    let more = rises cids c (suc c) h (omega arith) less in
    omega arith

pub few_channels : (clients : List ℕ) (c : ℕ) → IsClientList clients → c < length clients → c ≤ 15
few_channels clients c h less = (let low = list_high clients c h.cids.rising less in let high = h.places c less in omega arith)

-- ---- how many there are

pub few_clients : (clients : List ℕ) → IsClientList clients → length clients ≤ 16
few_clients [] h = omega arith
few_clients (client ∷ clients) h =
    let last = few_channels (client ∷ clients) (length clients) h (omega arith) in
    omega arith

pub ruleset few = (few_clients)

-- ---- the text of a list

-- such a list is one of numbers below 16
pub is_number_list : (clients : List ℕ) → IsClientList clients → IsNumberList 16 16 clients
is_number_list [] h = absurd (h.cids.some refl)
is_number_list (client ∷ clients) h = record {
  some = omega arith;
  few = few_clients (client ∷ clients) h;
  below = All-from_get_or (λ n. n < 16) (client ∷ clients) 0 h.places;
}

parts_of_text : (clients : List ℕ) → IsClientList clients → slice_split (λ byte. byte == 44) (clients_text clients) ≡ map decimal clients
parts_of_text clients h = (let n = is_number_list clients h in parts_of_list 16 clients (omega arith) n.some n.below)

-- where a text is that of numbers and of clients, the numbers are those clients
pub list_read : (text list now : List ℕ) → IsNumberList 16 16 list → text ≡ clients_text list → now ≡ list → (clients : List ℕ) → IsClientList clients → text ≡ clients_text clients
    → IsClientList now
list_read text list now read is same clients h e =
    let n = is_number_list clients h in
    subst IsClientList (same_list 16 clients list (omega arith) n.some n.below read.some read.below (sym e ∙ is) ∙ sym same) h

-- ---- from a text back to its list

pub numbers_in : List ℕ → List ℕ
numbers_in text = map (digits_value 10) (slice_split (λ byte. byte == 44) text)

values_back : (clients : List ℕ) → AreBelow 16 clients → map (digits_value 10) (map decimal clients) ≡ clients
values_back [] few = refl
values_back (client ∷ clients) few =
    let low = All-head (λ n. n < 16) client clients few in
    ap (λ n. n ∷ map (digits_value 10) (map decimal clients)) (decimal_is_IsNumeral client (omega arith)).1
    ∙ ap (λ ns. client ∷ ns) (values_back clients (All-tail (λ n. n < 16) client clients few))

pub clients_back : (clients : List ℕ) → IsClientList clients → numbers_in (clients_text clients) ≡ clients
unfolding numbers_in
clients_back clients h = ap (map (digits_value 10)) (parts_of_text clients h) ∙ values_back clients (is_number_list clients h).below
