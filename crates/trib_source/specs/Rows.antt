-- API: what a source lays out of the bytes that it has not put, and the rows that this goes into.
use Rattle.std.specs.Prelude.{ℕ, ◌/◌}
use Rattle.otn_base.specs.declared.limits.TheConstants.{PAYLOAD_COLUMNS}

-- G.709 clause 19.1: how many groups a row has on a line of so many slots
abbrev pub groups_in_row : (line_slots : ℕ) → ℕ
groups_in_row line_slots = PAYLOAD_COLUMNS / line_slots
