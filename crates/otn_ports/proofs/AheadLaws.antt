-- Going past bytes at hand.
use Rattle.std.proofs.Common.{◌≡◌, ◌≤◌, ◌+◌, ◌-◌, ℕ, List, None, Some, Option, Vec, length, take, drop, sym, ap, ◌∙◌, arith, take-append-drop}
use Rattle.std.proofs.lemmas.List.{drop-take, drop-drop, length-take, length-drop, take-take}
use Rattle.std.proofs.lemmas.Grind.{common_steps}
use Rattle.std.specs.Io.KnownBytes.{Consumes, prepend_known}
use Rattle.otn_ports.specs.ReadAhead.{part_of}

-- what is left of a part of a block behind its first n bytes
pub goes_past : {A : Type 0} (block : Option (Vec ℕ A)) (from to n : ℕ) → n ≤ length (part_of block from to)
    → part_of block (from + n) to ≡ drop n (part_of block from to)
goes_past None from to n h = grind (arith, common_steps)
goes_past (Some block) from to n h =
    let within : n ≤ to - from = grind (arith, common_steps, h, length-take (to - from) (drop from block.items)) in
    let more : to - from ≡ n + (to - (from + n)) = omega (arith, within) in
    sym (ap (λ k. drop n (take k (drop from block.items))) more ∙ drop-take n (to - (from + n)) (drop from block.items)
    ∙ ap (take (to - (from + n))) (drop-drop n from block.items))

-- the first bytes of a part of a block are a part of it
pub first_of_part : (items : List ℕ) (from to n : ℕ) → n ≤ to - from → from ≤ to → to ≤ length items
    → (take (from + n - from) (drop from items) ≡ take n (take (to - from) (drop from items))) × (n ≤ length (take (to - from) (drop from items)))
first_of_part items from to n few order within =
    let same : from + n - from ≡ n = omega arith in
    let size = length-take (to - from) (drop from items) in
    let rest = length-drop from items in
    (ap (λ k. take k (drop from items)) same ∙ sym (take-take n (to - from) (drop from items) few), omega (arith, size, rest))

-- bytes at hand that are gone past are consumed
pub consumes_front : (known : Option (List ℕ)) (old new : List ℕ) (n : ℕ) → new ≡ drop n old
    → Consumes (prepend_known old known) (prepend_known new known) (take n old)
consumes_front None old new n e = tt
consumes_front (Some left) old new n e =
    grind (arith, common_steps, e, take-append-drop n old)
