-- Believed: the kinds of the values of a network's tables: what each key's value has to be.
use Rattle.std.specs.Prelude.{Bool, ◌&&◌, codes}
use Rattle.toml.specs.Data.{Data, Members}
use Rattle.plan_table.specs.Ends.{is_table}
use Rattle.plan_table.specs.Kinds.{is_number, is_number_list, is_text, is_table_list, each_at, top_each_at}

-- each value of the top is of its key's kind: lists of tables
abbrev pub has_top_kinds : Members → Bool
has_top_kinds top = (top_each_at (codes "node") is_table_list top && top_each_at (codes "fibre") is_table_list top)
    && top_each_at (codes "cut") is_table_list top

-- each value of a node is of its key's kind
abbrev pub has_node_kinds : Data → Bool
has_node_kinds node = each_at (codes "name") is_text node && each_at (codes "folder") is_text node

-- the value of `from` or `to`
abbrev pub is_end : Data → Bool
is_end end = is_table end && (each_at (codes "node") is_text end && each_at (codes "line") is_number end)

-- each value of a fibre is of its key's kind
abbrev pub has_fibre_kinds : Data → Bool
has_fibre_kinds fibre = each_at (codes "from") is_end fibre && each_at (codes "to") is_end fibre

-- each value of a cut is of its key's kind
abbrev pub has_cut_kinds : Data → Bool
has_cut_kinds cut = each_at (codes "fibre") is_number cut && each_at (codes "turns") is_number_list cut
