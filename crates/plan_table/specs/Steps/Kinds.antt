-- Steps of `has`, `top_has` and others: what private contracts alone cite, beside the definitions of `Kinds`.
use Rattle.std.specs.Prelude.{Bool}
use Rattle.toml.specs.Data.{Data}
use Rattle.plan_table.specs.declared.ends.Form.TheVariants.{Signal}
use Rattle.plan_table.specs.declared.kinds.value.Wanted.{Wanted}
use Rattle.plan_table.specs.declared.kinds.value.Wanted.TheVariants as wanted
use Rattle.plan_table.specs.Kinds.{is_number, is_truth, is_text, is_number_list, is_table_list, is_version, is_kind, is_signal}

-- what a key asks for
abbrev pub is_wanted : Wanted → Data → Bool
is_wanted wanted.Number = is_number
is_wanted wanted.Numbers = is_number_list
is_wanted wanted.Truth = is_truth
is_wanted wanted.Text = is_text
is_wanted wanted.Tables = is_table_list
is_wanted wanted.Version = is_version
is_wanted wanted.Kind = is_kind
is_wanted wanted.Signal = is_signal
