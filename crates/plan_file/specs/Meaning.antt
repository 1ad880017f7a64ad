-- Believed: the plan that a text means. No rule stands here: which texts are refused, and why, `Refusal` says.
use Rattle.std.specs.Prelude.{ℕ, nat_le, List, length, ◌&&◌, if◌then◌else◌, Option, None, unwrap_or}
use Rattle.std.specs.Str.{is_utf8}
use Rattle.toml.specs.Data.{Members, no_members}
use Rattle.toml.specs.Parse.{parse_document}
use Rattle.plan_file.specs.declared.plan.Plan.{Plan}
use Rattle.plan_file.specs.Entry.{plan_of}
use Rattle.plan_file.specs.Table.{outline_at}
use Rattle.otn_base.specs.declared.limits.TheConstants.{MOST_PLAN_BYTES}

-- the table of a text that is no longer than 1,048,576 bytes, as TOML has it
unfoldable pub table_of_text : List ℕ → Option Members
table_of_text text = if nat_le (length text) MOST_PLAN_BYTES && is_utf8 text then parse_document text else None

-- the plan that a table means; the empty table stands for none, of a text that is refused
abbrev pub meaning_in : Option Members → Plan
meaning_in table = plan_of (outline_at (unwrap_or table no_members))

-- the plan that a text means
unfoldable pub meaning_of : List ℕ → Plan
meaning_of text = meaning_in (table_of_text text)
