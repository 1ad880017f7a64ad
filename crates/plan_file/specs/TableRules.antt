-- Believed: the rules of keys and kinds: what breaks them at the top of a table, and at a connection.
use Rattle.std.specs.Prelude.{ℕ, List, [], ◌∷◌, ◌++◌, is_none, codes, Bool, false, not}
use Rattle.toml.specs.Data.{Data, Members, get_member}
use Rattle.plan_file.specs.declared.error.PlanError.{PlanError}
use Rattle.plan_file.specs.declared.error.PlanError.TheVariants.{UnknownKey, MissingKey, WrongKind}
use Rattle.plan_table.specs.Keys.{has_unknown_top_key, has_unknown_key, lacks_key}
use Rattle.plan_table.specs.Kinds.{has_kinds, has_top_kinds}
use Rattle.plan_file.specs.Places.{top_place, places}
use Rattle.plan_file.specs.Table.{connections_at}

-- the rules of keys and kinds, in the order in which they are tried
abbrev pub table_rules : List PlanError
table_rules = UnknownKey ∷ MissingKey ∷ WrongKind ∷ []

-- the top breaks the rule
abbrev pub breaks_top : PlanError → Members → Bool
breaks_top UnknownKey top = has_unknown_top_key top
breaks_top MissingKey top = is_none (get_member (codes "turns") top)
breaks_top WrongKind top = not (has_top_kinds top)
breaks_top _ top = false

-- a connection breaks the rule by itself
abbrev pub breaks_in_table : PlanError → Data → Bool
breaks_in_table UnknownKey connection = has_unknown_key connection
breaks_in_table MissingKey connection = lacks_key connection
breaks_in_table WrongKind connection = not (has_kinds connection)
breaks_in_table _ connection = false

-- where a table breaks the rule: the top comes before the connections
abbrev pub table_places : Members → PlanError → List ℕ
table_places top rule = top_place (breaks_top rule top) ++ places (breaks_in_table rule) (connections_at top)
