-- Believed: which texts are refused, by the first of fifteen rules that is broken, at its first place. What an accepted
-- text means `Meaning` says: who reads of accepted plans alone leaves this file unread, and the rules that it imports.
use Rattle.std.specs.Prelude.{ℕ, List, Option, Some, None}
use Rattle.std.specs.Option.{option_or}
use Rattle.toml.specs.Data.{Members}
use Rattle.plan_file.specs.declared.error.PlanError.{PlanError}
use Rattle.plan_file.specs.declared.error.PlanError.TheVariants.{NotToml}
use Rattle.plan_file.specs.Entry.{Outline}
use Rattle.plan_file.specs.Table.{outline_at}
use Rattle.plan_file.specs.TableRules.{table_rules, table_places}
use Rattle.plan_file.specs.PlanRules.{plan_rules, plan_places}
use Rattle.plan_file.specs.Places.{first_broken}
use Rattle.plan_file.specs.Meaning.{table_of_text}

-- the first of the rules of the values that is broken
abbrev pub fault_of : Outline → Option (PlanError × ℕ)
fault_of o = first_broken (plan_places o) plan_rules

-- the first rule that the table breaks
abbrev pub table_refusal : Members → Option (PlanError × ℕ)
table_refusal top = option_or (first_broken (table_places top) table_rules) (fault_of (outline_at top))

-- the same of the table of a text; where the text has none it is not TOML
abbrev pub refusal_in : Option Members → Option (PlanError × ℕ)
refusal_in None = Some (NotToml, 0)
refusal_in (Some top) = table_refusal top

-- the first rule that a text breaks, and its first place
unfoldable pub refusal_of : List ℕ → Option (PlanError × ℕ)
refusal_of text = refusal_in (table_of_text text)
