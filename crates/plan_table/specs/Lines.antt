-- Believed: the lines of a plan: of which kind each is, by the list of the lines that are OTU3.
use Rattle.std.specs.Prelude.{ℕ, ℤ, List, if◌then◌else◌}
use Rattle.std.specs.List.{list_any}
use Rattle.std.specs.Ordering.{int_eq}
use Rattle.otn_base.specs.LineSlots.{slots_of}
use Rattle.otn_base.specs.declared.line_kind.LineKind.{LineKind}
use Rattle.otn_base.specs.declared.line_kind.LineKind.TheVariants.{Otu2, Otu3}

-- the line is an OTU3 where its number is in the list of its side
abbrev pub line_kind : List ℤ → ℤ → LineKind
line_kind otu3 line = if list_any (int_eq line) otu3 then Otu3 else Otu2

-- S: how many tributary slots the line has (G.709 clause 19.1)
abbrev pub line_slots : List ℤ → ℤ → ℕ
line_slots otu3 line = slots_of (line_kind otu3 line)
