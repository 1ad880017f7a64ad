-- API: the data groups of a row, out of its payload columns.
use Rattle.std.specs.Prelude.{ℕ, ◌/◌}
use Rattle.otn_base.specs.declared.limits.TheConstants.{PAYLOAD_COLUMNS}
use Rattle.otn_base.specs.declared.line_kind.LineKind.{LineKind}
use Rattle.otn_base.specs.LineSlots.{slots_of}

-- G.709 clause 19.1: how many cycles, and so groups, a row has on a line of this kind
abbrev pub row_cycles : LineKind → ℕ
row_cycles kind = PAYLOAD_COLUMNS / slots_of kind
