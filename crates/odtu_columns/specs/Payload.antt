-- API: the groups of a row out of its payload columns alone.
use Rattle.std.specs.Prelude.{ℕ, ◌+◌, ◌-◌, ◌*◌, List, map, slice_index}
use Rattle.std.specs.List.{range_with_len, flat_map}

-- G.709 clause 19.1: the group of some of the slots of a line in a cycle, from 0, of the payload of a row
abbrev pub payload_group : (line_slots : ℕ) → List ℕ → List ℕ → (cycle : ℕ) → List ℕ
payload_group line_slots payload slots cycle = map (λ slot. slice_index payload (line_slots * cycle + slot - 1)) slots

-- G.709 clause 19.1: those of so many cycles from one on, one after the other
unfoldable pub run_groups : (line_slots : ℕ) → List ℕ → List ℕ → (first count : ℕ) → List ℕ
run_groups line_slots payload slots first count = flat_map (payload_group line_slots payload slots)
    (range_with_len first count)
