-- API: what the code's views of a table are in its values.
use Rattle.std.specs.Prelude.{ℕ, ℤ, pos, List, map, Option}
use Rattle.std.specs.Option.{option_map_or}
use Rattle.toml.specs.View.{view}
use Rattle.plan_table.specs.declared.numbers.Numbers.{Numbers}
use Rattle.plan_table.specs.declared.numbers.Numbers.TheVariants as list
use Rattle.plan_table.specs.declared.ends.TableEnd.{TableEnd as TableEndView}
use Rattle.plan_table.specs.Ends.{TableEnd}
use Rattle.plan_table.specs.Values.{numbers, nominal}

-- a value of `from` or `to`
abbrev pub table_end_in : TableEndView → TableEnd
table_end_in end = record { form = end.form; value = view end.value.now }

-- a list of numbers: the values of a table's list, or a plan's bytes or words
abbrev pub numbers_in : Numbers → List ℤ
numbers_in (list.Values values) = numbers (map view values.now)
numbers_in (list.Bytes bytes) = map pos bytes.now
numbers_in (list.Words words) = map pos words.now

-- the pace, or the nominal one of M slots
abbrev pub pace_in : Option Numbers → ℕ → List ℤ
pace_in pace m = option_map_or numbers_in pace (nominal m)
