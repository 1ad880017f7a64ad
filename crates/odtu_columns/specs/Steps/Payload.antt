-- Steps of `odtu_columns`: what private contracts alone cite, beside the definitions of `Payload`.
use Rattle.std.specs.Prelude.{ℕ, List}
use Rattle.std.specs.List.{range_with_len, flat_map}
use Rattle.odtu_columns.specs.Payload.{payload_group}

-- G.709 clause 19.1: those of the first n cycles, one after the other
unfoldable pub payload_groups : (line_slots : ℕ) → List ℕ → List ℕ → (n : ℕ) → List ℕ
payload_groups line_slots payload slots n = flat_map (payload_group line_slots payload slots) (range_with_len 0 n)
