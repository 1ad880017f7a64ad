-- Parts of a block that are put one behind the other.
use Rattle.std.proofs.Common.{◌≡◌, ◌≢◌, ◌≤◌, ◌<◌, ◌+◌, ◌-◌, ◌++◌, ℕ, zero, suc, List, length, set, take, drop, refl, sym, ap, ◌∙◌, subst, arith}
use Rattle.std.proofs.lemmas.List.{take-take, drop-take, length-take-le, drop_at, take_at, get_or-set_same, get_or-set_other}
use Rattle.port_base.specs.Views.{BaysView}
use Rattle.otn_c.proofs.Filling.{extended}
use Rattle.otn_c.specs.Blocks.{start_of, end_of, part_of}
use Rattle.otn_c.specs.Places.{HasSize, IsKept, IsPut, OutUpTo, output_at}

-- ---- bytes

part_in_front : (block : List ℕ) (s e : ℕ) → s ≤ e → take (e - s) (drop s block) ≡ drop s (take e block)
part_in_front block s e h =
    let same : s + (e - s) ≡ e = omega arith in
    sym (drop-take s (e - s) block) ∙ ap (λ k. drop s (take k block)) same

same_front : (total end : ℕ) (block now bytes : List ℕ) → end ≡ total + length bytes → total ≤ length block → take end now ≡ take total block ++ bytes
    → take total now ≡ take total block
same_front total end block now bytes is fits put =
    let behind : total ≤ end = omega arith in
    sym (take-take total end now behind) ∙ ap (take total) put ∙ take_at (take total block) bytes total (length-take-le total block fits)

old_part : (s e total : ℕ) (block now : List ℕ) → s ≤ e → e ≤ total → take total now ≡ take total block → take (e - s) (drop s now) ≡ take (e - s) (drop s block)
old_part s e total block now rising within same =
    part_in_front now s e rising ∙ ap (drop s) (sym (take-take e total now within) ∙ ap (take e) same ∙ take-take e total block within) ∙ sym (part_in_front block s e rising)

new_part : (total end : ℕ) (block now bytes : List ℕ) → end ≡ total + length bytes → total ≤ length block → take end now ≡ take total block ++ bytes
    → take (end - total) (drop total now) ≡ bytes
new_part total end block now bytes is fits put =
    let behind : total ≤ end = omega arith in
    part_in_front now total end behind ∙ ap (drop total) put ∙ drop_at (take total block) bytes total (length-take-le total block fits)

-- ---- ends

old_start : (ends : List ℕ) (n m end : ℕ) → m < n + 1 → start_of (set ends n end) m ≡ start_of ends m
old_start ends n zero end h = refl
old_start ends n (suc k) end h = get_or-set_other ends n k end 0 (let other : k ≢ n = omega arith in other)

old_end : (ends : List ℕ) (n m end : ℕ) → m < n → end_of (set ends n end) m ≡ end_of ends m
old_end ends n m end h = get_or-set_other ends n m end 0 (let other : m ≢ n = omega arith in other)

next_start : (ends : List ℕ) (n : ℕ) → start_of ends (n + 1) ≡ end_of ends n
next_start ends n = ap (start_of ends) (let next : n + 1 ≡ suc n = omega arith in next)

new_end : (ends : List ℕ) (n end : ℕ) → n < length ends → end_of (set ends n end) n ≡ end
new_end ends n end h = get_or-set_same ends n end 0 h

-- ---- outputs

pub next_out : (n : ℕ) (bays : BaysView) (block now ends : List ℕ) (total end : ℕ) (bytes : List ℕ) → n < length ends → OutUpTo n bays block ends total
    → IsKept (output_at bays n) bytes → IsPut bytes total block now end → length now ≡ length block → OutUpTo (n + 1) bays now (set ends n end) end
next_out n bays block now ends total end bytes few out kept stood long = record {
  last = next_start ends' n ∙ new_end ends n end few;
  rising = extended (λ m. start_of ends' m ≤ end_of ends' m) n
      (λ m less. subst (λ s. s ≤ end_of ends' m) (sym (start m less)) (subst (λ e. start_of ends m ≤ e) (sym (old_end ends n m end less)) (out.rising m less)))
      (subst (λ s. s ≤ end_of ends' n) (sym here) (subst (λ e. total ≤ e) (sym (new_end ends n end few)) (let is = stood.is in let behind : total ≤ end = omega arith in behind)));
  within = extended (λ m. end_of ends' m ≤ end) n
      (λ m less. subst (λ e. e ≤ end) (sym (old_end ends n m end less)) (let is = stood.is in let before = out.within m less in omega arith))
      (subst (λ e. e ≤ end) (sym (new_end ends n end few)) (omega arith));
  sizes = extended (λ m. HasSize (output_at bays m) (end_of ends' m - start_of ends' m)) n
      (λ m less. subst (λ s. HasSize (output_at bays m) (end_of ends' m - s)) (sym (start m less))
      (subst (λ e. HasSize (output_at bays m) (e - start_of ends m)) (sym (old_end ends n m end less)) (out.sizes m less)))
      (subst (λ s. HasSize (output_at bays n) (end_of ends' n - s)) (sym here)
      (subst (λ e. HasSize (output_at bays n) (e - total)) (sym (new_end ends n end few)) record { bytes = bytes; kept = kept; is = (let is = stood.is in omega arith) }));
  parts = λ fits. extended (λ m. IsKept (output_at bays m) (part_of now ends' m)) n (old fits) (new fits);
}
  where
    ends' : List ℕ
    ends' = set ends n end

    start : (m : ℕ) → m < n → start_of ends' m ≡ start_of ends m
    start m less = old_start ends n m end (omega arith)

    here : start_of ends' n ≡ total
    here = old_start ends n n end (omega arith) ∙ out.last

    is : end ≡ total + length bytes
    is = stood.is

    old : end ≤ length now → (m : ℕ) → m < n → IsKept (output_at bays m) (part_of now ends' m)
    old fits m less =
        let room : total ≤ length block = omega arith in
        let whole : end ≤ length block = omega arith in
        let puts : take end now ≡ take total block ++ bytes = stood.stands whole in
        subst (λ s. IsKept (output_at bays m) (take (end_of ends' m - s) (drop s now))) (sym (start m less))
        (subst (λ e. IsKept (output_at bays m) (take (e - start_of ends m) (drop (start_of ends m) now))) (sym (old_end ends n m end less))
        (subst (IsKept (output_at bays m))
        (sym (old_part (start_of ends m) (end_of ends m) total block now (out.rising m less) (out.within m less) (same_front total end block now bytes is room puts)))
        (out.parts room m less)))

    new : end ≤ length now → IsKept (output_at bays n) (part_of now ends' n)
    new fits =
        let room : total ≤ length block = omega arith in
        let whole : end ≤ length block = omega arith in
        let puts : take end now ≡ take total block ++ bytes = stood.stands whole in
        subst (λ s. IsKept (output_at bays n) (take (end_of ends' n - s) (drop s now))) (sym here)
        (subst (λ e. IsKept (output_at bays n) (take (e - total) (drop total now))) (sym (new_end ends n end few))
        (subst (IsKept (output_at bays n)) (sym (new_part total end block now bytes is room puts)) kept))
