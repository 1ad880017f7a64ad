-- Believed: which texts are refused: by the first of the rules of the file alone that is broken, at its first place.
use Rattle.std.specs.Prelude.{ℕ, List, [], ◌∷◌, length, Bool, false, not, Option, Some, None}
use Rattle.std.specs.Option.{option_or}
use Rattle.toml.specs.Data.{Data, Members}
use Rattle.plan_file.specs.Meaning.{table_of_text}
use Rattle.plan_file.specs.Places.{places, later_places}
use Rattle.network_file.specs.declared.error.NetworkError.{NetworkError}
use Rattle.network_file.specs.declared.error.NetworkError.TheVariants.{NotToml, UnknownKey, MissingKey, WrongKind, TooMany, BadName}
use Rattle.network_file.specs.declared.error.NetworkError.TheVariants.{NameTwice, NoSuchNode, NoSuchLine, LineTwice, NoSuchFibre, BadTurns}
use Rattle.network_file.specs.declared.place.Place.{Place}
use Rattle.network_file.specs.declared.place.Place.TheVariants.{Top}
use Rattle.network_file.specs.Places.{at_top, at_nodes, at_fibres, at_cuts, at_any, first_broken}
use Rattle.network_file.specs.Outline.{Outline}
use Rattle.network_file.specs.Keys.{has_unknown_top_key, has_unknown_node_key, has_unknown_fibre_key, has_unknown_cut_key}
use Rattle.network_file.specs.Keys.{lacks_nodes, lacks_node_key, lacks_fibre_key, lacks_cut_key}
use Rattle.network_file.specs.Kinds.{has_top_kinds, has_node_kinds, has_fibre_kinds, has_cut_kinds}
use Rattle.network_file.specs.Table.{nodes_at, fibres_at, cuts_at, outline_at}
use Rattle.network_file.specs.Rules.{has_too_many, breaks_name, have_one_name, lacks_node, lacks_line, lead_to_one_line, lacks_fibre, breaks_turns}

-- ---- keys and kinds

-- the rules of keys and kinds, in the order in which they are tried
abbrev pub table_rules : List NetworkError
table_rules = UnknownKey ∷ MissingKey ∷ WrongKind ∷ []

-- the top breaks the rule
abbrev pub breaks_top : NetworkError → Members → Bool
breaks_top UnknownKey top = has_unknown_top_key top
breaks_top MissingKey top = lacks_nodes top
breaks_top WrongKind top = not (has_top_kinds top)
breaks_top _ top = false

-- a node breaks the rule
abbrev pub breaks_node : NetworkError → Data → Bool
breaks_node UnknownKey node = has_unknown_node_key node
breaks_node MissingKey node = lacks_node_key node
breaks_node WrongKind node = not (has_node_kinds node)
breaks_node _ node = false

-- a fibre breaks the rule
abbrev pub breaks_fibre : NetworkError → Data → Bool
breaks_fibre UnknownKey fibre = has_unknown_fibre_key fibre
breaks_fibre MissingKey fibre = lacks_fibre_key fibre
breaks_fibre WrongKind fibre = not (has_fibre_kinds fibre)
breaks_fibre _ fibre = false

-- a cut breaks the rule
abbrev pub breaks_cut : NetworkError → Data → Bool
breaks_cut UnknownKey cut = has_unknown_cut_key cut
breaks_cut MissingKey cut = lacks_cut_key cut
breaks_cut WrongKind cut = not (has_cut_kinds cut)
breaks_cut _ cut = false

-- where a table breaks the rule first
abbrev pub table_place : Members → NetworkError → Option Place
table_place top rule = at_any (breaks_top rule top) (places (breaks_node rule) (nodes_at top))
    (places (breaks_fibre rule) (fibres_at top)) (places (breaks_cut rule) (cuts_at top))

-- ---- values

-- the rules of the values, in the order in which they are tried
abbrev pub value_rules : List NetworkError
value_rules = TooMany ∷ BadName ∷ NameTwice ∷ NoSuchNode ∷ NoSuchLine ∷ LineTwice ∷ NoSuchFibre ∷ BadTurns ∷ []

-- where an outline breaks the rule first
abbrev pub value_place : Outline → NetworkError → Option Place
value_place o TooMany = at_top (has_too_many o)
value_place o BadName = at_nodes (places breaks_name o.nodes)
value_place o NameTwice = at_nodes (later_places have_one_name o.nodes)
value_place o NoSuchNode = at_fibres (places (lacks_node o.nodes) o.fibres)
value_place o NoSuchLine = at_fibres (places lacks_line o.fibres)
value_place o LineTwice = at_fibres (later_places lead_to_one_line o.fibres)
value_place o NoSuchFibre = at_cuts (places (lacks_fibre (length o.fibres)) o.cuts)
value_place o BadTurns = at_cuts (places breaks_turns o.cuts)
value_place o _ = None

-- the first of the rules of the values that is broken
abbrev pub value_refusal : Outline → Option (NetworkError × Place)
value_refusal o = first_broken (value_place o) value_rules

-- ---- the text

-- the first rule that the table breaks
abbrev pub refusal_of_table : Members → Option (NetworkError × Place)
refusal_of_table top = option_or (first_broken (table_place top) table_rules) (value_refusal (outline_at top))

-- the same of the table of a text; where the text has none it is not TOML
abbrev pub refusal_in : Option Members → Option (NetworkError × Place)
refusal_in None = Some (NotToml, Top)
refusal_in (Some top) = refusal_of_table top

-- the first rule that a text breaks, and its first place
unfoldable pub refusal_of : List ℕ → Option (NetworkError × Place)
refusal_of text = refusal_in (table_of_text text)
