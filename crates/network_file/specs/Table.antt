-- Believed: what the table of a network's file says: the value of each key, or what stands for it where the key is not
-- there.
use Rattle.std.specs.Prelude.{ℤ, pos, List, [], ◌∷◌, map, Option, Some, None, codes}
use Rattle.std.specs.Option.{option_and_then, option_map_or}
use Rattle.toml.specs.Data.{Data, Members, get, get_member}
use Rattle.plan_table.specs.Values.{number_or, text_of, list_of}
use Rattle.network_file.specs.declared.node.NodeEntry.{NodeEntry}
use Rattle.network_file.specs.Outline.{Cut, End, Fibre, Outline}

-- the values of the nodes, of the fibres, and of the cuts
abbrev pub nodes_at : Members → List Data
nodes_at top = list_of (get_member (codes "node") top)

abbrev pub fibres_at : Members → List Data
fibres_at top = list_of (get_member (codes "fibre") top)

abbrev pub cuts_at : Members → List Data
cuts_at top = list_of (get_member (codes "cut") top)

-- a node: its folder is of its name where none is said
abbrev pub node_at : Data → NodeEntry
node_at node =
    let name = text_of (get (codes "name") node) in
    record { name = name; folder = option_map_or (λ folder. text_of (Some folder)) (get (codes "folder") node) name }

-- an end of a fibre, by its value if there is one
abbrev pub end_at : Option Data → End
end_at end = record {
  node = text_of (option_and_then (get (codes "node")) end);
  line = number_or (pos 0) (option_and_then (get (codes "line")) end);
}

-- a fibre
abbrev pub fibre_at : Data → Fibre
fibre_at fibre = record { from = end_at (get (codes "from") fibre); to = end_at (get (codes "to") fibre) }

-- the turns of a cut: two numbers, or none
abbrev pub turns_in : List Data → Option (ℤ × ℤ)
turns_in (from ∷ until ∷ []) = Some (number_or (pos 0) (Some from), number_or (pos 0) (Some until))
turns_in _ = None

-- a cut
abbrev pub cut_at : Data → Cut
cut_at cut = record {
  fibre = number_or (pos 0) (get (codes "fibre") cut);
  turns = turns_in (list_of (get (codes "turns") cut));
}

-- the outline
abbrev pub outline_at : Members → Outline
outline_at top = record {
  nodes = map node_at (nodes_at top);
  fibres = map fibre_at (fibres_at top);
  cuts = map cut_at (cuts_at top);
}
