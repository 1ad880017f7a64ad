-- Believed: the rules of a network's values: of the numbers of nodes, fibres and cuts, of each, and of two.
use Rattle.std.specs.Prelude.{ℕ, ℤ, nat_lt, int_lt, ◌==◌, List, [], ◌∷◌, length, Bool, false, true, not, ◌&&◌, ◌||◌, Option, Some, None}
use Rattle.std.specs.List.{list_any}
use Rattle.std.specs.Ordering.{int_eq}
use Rattle.std.specs.Str.{bytes_eq}
use Rattle.otn_base.specs.declared.limits.TheConstants.{MOST_TURNS}
use Rattle.plan_table.specs.NumberTests.{is_within, is_name, is_name_byte}
use Rattle.network_file.specs.declared.limits.TheConstants.{MOST_NODES, MOST_FIBRES, MOST_CUTS}
use Rattle.network_file.specs.declared.node.NodeEntry.{NodeEntry}
use Rattle.network_file.specs.Outline.{Cut, Fibre, Outline}

-- ---- numbers

-- no node, or more nodes, fibres or cuts than a network may have
abbrev pub has_too_many : Outline → Bool
has_too_many o = (length o.nodes == 0 || nat_lt MOST_NODES (length o.nodes))
    || (nat_lt MOST_FIBRES (length o.fibres) || nat_lt MOST_CUTS (length o.cuts))

-- ---- names

-- a byte of a path: a name byte, or after the first byte of a part a dot (46) or a slash (47), which ends the part
abbrev pub is_path_byte : (in_part : Bool) → ℕ → Bool
is_path_byte in_part byte = is_name_byte byte || (in_part && (byte == 46 || byte == 47))

-- the rest of a path is parts that begin with a name byte, each after a slash
abbrev pub is_path : (in_part : Bool) → List ℕ → Bool
is_path in_part [] = in_part
is_path in_part (byte ∷ bytes) = is_path_byte in_part byte && is_path (not (byte == 47)) bytes

-- a folder: a path below the folder of the network's file
abbrev pub is_folder : List ℕ → Bool
is_folder folder = is_path false folder

-- the node's name is not a name, or its folder not a folder
abbrev pub breaks_name : NodeEntry → Bool
breaks_name node = not (is_name node.name && is_folder node.folder)

-- two nodes have one name
abbrev pub have_one_name : NodeEntry → NodeEntry → Bool
have_one_name node other = bytes_eq node.name other.name

-- ---- fibres

-- a node has the name
abbrev pub names : List NodeEntry → List ℕ → Bool
names nodes name = list_any (λ node. bytes_eq name node.name) nodes

-- an end of the fibre names no node
abbrev pub lacks_node : List NodeEntry → Fibre → Bool
lacks_node nodes f = not (names nodes f.from.node && names nodes f.to.node)

-- an end of the fibre is at no line
abbrev pub lacks_line : Fibre → Bool
lacks_line f = not (is_within 0 3 f.from.line && is_within 0 3 f.to.line)

-- the two lead to one line of one node
abbrev pub lead_to_one_line : Fibre → Fibre → Bool
lead_to_one_line f g = bytes_eq f.to.node g.to.node && int_eq f.to.line g.to.line

-- ---- cuts

-- of so many fibres the cut names none
abbrev pub lacks_fibre : ℕ → Cut → Bool
lacks_fibre count cut = not (is_within 1 count cut.fibre)

-- two numbers of turns in range, the first of them less
abbrev pub are_turns : (from until : ℤ) → Bool
are_turns from until = (is_within 0 MOST_TURNS from && is_within 0 MOST_TURNS until) && int_lt from until

-- what is said of turns is none
abbrev pub breaks_turns_in : Option (ℤ × ℤ) → Bool
breaks_turns_in (Some turns) = not (are_turns turns.0 turns.1)
breaks_turns_in None = true

-- the turns of the cut are none
abbrev pub breaks_turns : Cut → Bool
breaks_turns cut = breaks_turns_in cut.turns
