-- Believed: the keys of a network's tables: which a table may have, and which it must have.
use Rattle.std.specs.Prelude.{ℕ, List, [], ◌∷◌, Bool, false, not, ◌||◌, is_none, codes}
use Rattle.std.specs.Option.{option_map_or}
use Rattle.toml.specs.Data.{Data, Members, get, get_member}
use Rattle.plan_table.specs.Keys.{knows_all, has_other, lacks}

-- ---- the lists of keys

abbrev pub top_keys : List (List ℕ)
top_keys = codes "node" ∷ codes "fibre" ∷ codes "cut" ∷ []

abbrev pub node_keys : List (List ℕ)
node_keys = codes "name" ∷ codes "folder" ∷ []

abbrev pub fibre_keys : List (List ℕ)
fibre_keys = codes "from" ∷ codes "to" ∷ []

-- the keys of an end of a fibre
abbrev pub end_keys : List (List ℕ)
end_keys = codes "node" ∷ codes "line" ∷ []

abbrev pub cut_keys : List (List ℕ)
cut_keys = codes "fibre" ∷ codes "turns" ∷ []

-- ---- a key that is not known

-- the top has a key that is not in its list
abbrev pub has_unknown_top_key : Members → Bool
has_unknown_top_key top = not (knows_all top_keys top)

-- the node is a table with a key that is not in its list
abbrev pub has_unknown_node_key : Data → Bool
has_unknown_node_key node = has_other node_keys node

-- what the fibre has as this end is a table with a key that is not in its list
abbrev pub has_unknown_end_key : (side : List ℕ) → Data → Bool
has_unknown_end_key side fibre = option_map_or (has_other end_keys) (get side fibre) false

-- the fibre, its `from` or its `to` is a table with a key that is not in its list
abbrev pub has_unknown_fibre_key : Data → Bool
has_unknown_fibre_key fibre = (has_other fibre_keys fibre || has_unknown_end_key (codes "from") fibre)
    || has_unknown_end_key (codes "to") fibre

-- the cut is a table with a key that is not in its list
abbrev pub has_unknown_cut_key : Data → Bool
has_unknown_cut_key cut = has_other cut_keys cut

-- ---- a key that is missing

-- the top lacks its nodes
abbrev pub lacks_nodes : Members → Bool
lacks_nodes top = is_none (get_member (codes "node") top)

-- the node is a table and lacks its name; its folder has the same name where none is said
abbrev pub lacks_node_key : Data → Bool
lacks_node_key node = lacks (codes "name") node

-- the end is a table and lacks a key
abbrev pub lacks_key_of_end : Data → Bool
lacks_key_of_end end = lacks (codes "node") end || lacks (codes "line") end

-- what the fibre has as this end is a table and lacks a key
abbrev pub lacks_end_key : (side : List ℕ) → Data → Bool
lacks_end_key side fibre = option_map_or lacks_key_of_end (get side fibre) false

-- the fibre, its `from` or its `to` is a table and lacks a key
abbrev pub lacks_fibre_key : Data → Bool
lacks_fibre_key fibre = ((lacks (codes "from") fibre || lacks (codes "to") fibre) || lacks_end_key (codes "from") fibre)
    || lacks_end_key (codes "to") fibre

-- the cut is a table and lacks a key
abbrev pub lacks_cut_key : Data → Bool
lacks_cut_key cut = lacks (codes "fibre") cut || lacks (codes "turns") cut
